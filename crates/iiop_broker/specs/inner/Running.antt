-- A connection that was begun, and what becomes of it.
use Rattle.std.specs.Prelude.{ℕ, List, [], false}
use Rattle.broker_answers.specs.Streams.{Stream}
use Rattle.broker_answers.specs.Talk.{World}
use Rattle.broker_answers.specs.Servants.{Acting}
use Rattle.broker_answers.specs.Objects.{Served}
use Rattle.iiop_broker.specs.AnsweredStreams.{AnsweredStream, GivenUp}
use Rattle.iiop_broker.specs.Outcomes.{Telling, TellingInPart}

-- nothing has come yet
pub record IsFresh {S : Type 0} (acting : Acting S) (served : Served) (c : ℕ) (now : World S Stream) : Type 0 where
  pub others : List (ℕ × Stream)
  pub before : S
  pub stream : AnsweredStream acting served c others before [] [] false now

abbrev pub running : {S : Type 0} → Acting S → Served → ℕ → List (ℕ × Stream) → S → World S Stream → Telling
running acting served c others before now octets answer closes =
    AnsweredStream acting served c others before octets answer closes now

abbrev pub running_in_part : {S : Type 0} → Acting S → Served → ℕ → List (ℕ × Stream) → S → World S Stream
    → TellingInPart
running_in_part acting served c others before now octets answer more =
    GivenUp acting served c others before octets answer more now
