-- A reply says an answer or nothing.
use Rattle.std.proofs.Common.{◌≡◌, ℕ, List, ap}
use Rattle.reference_texts.proofs.ProfileKeys.{profile_key_once}
use Rattle.giop_messages.specs.Messages.{Answered, Answers, Asks, Cancels, Closes, Content, Fails, Says, Seeks}
use Rattle.giop_messages.proofs.OneMessage.{says_once}

id_of : Content → ℕ
id_of (Asks asked) = 0
id_of (Answers answered) = answered.id
id_of (Cancels id) = 0
id_of (Seeks sought) = 0
id_of Closes = 0
id_of Fails = 0

-- it says one number
pub one_number : (octets : List ℕ) (a b : Answered) → Says octets (Answers a) → Says octets (Answers b) → a.id ≡ b.id
unfolding id_of
one_number octets a b s t = ap id_of (says_once profile_key_once octets (Answers a) (Answers b) s t)
