-- What the octets of a whole message say: what giop reads of them, a reply to a locate request, or nothing.
use Rattle.std.specs.Prelude.{◌≡◌, ℕ, ◌<◌, ◌≤◌, List, length, drop, Option, Some, None}
use Rattle.giop_messages.specs.declared.head.MessageKind.TheVariants as kinds
use Rattle.giop_messages.specs.declared.head.Head.{Head}
use Rattle.giop_messages.specs.Heads.{number_in}
use Rattle.giop_messages.specs.Messages.{Content, IsWhole, Says, content_of}
use Rattle.giop_words.specs.declared.said.Located.{Located}
use Rattle.giop_words.specs.declared.said.Said.{Said}
use Rattle.giop_words.specs.declared.said.Said.TheVariants as said

-- the header of a reply to a locate request: the number of the request, and that of the status (LocateReplyHeader_1_2)
pub record HasNumbers (head : Head) (octets : List ℕ) (located : Located) : Type 0 where
  pub long : 20 ≤ length octets
  pub id_is : located.id ≡ number_in head.order 4 (drop 12 octets)
  pub status_is : located.status ≡ number_in head.order 4 (drop 16 octets)

abbrev pub IsLocated : Head → List ℕ → Option Located → Type 0
IsLocated head octets (Some located) = HasNumbers head octets located
IsLocated head octets None = length octets < 20

-- the whole message of a reply to a locate request
pub record IsLocateReply (octets : List ℕ) (located : Located) : Type 0 where
  pub head : Head
  pub is : IsWhole kinds.LocateReply octets head
  pub numbers : HasNumbers head octets located

-- neither
pub record SaysNothing (octets : List ℕ) : Type 0 where
  pub no_content : (content : Content) → Says octets content → ⊥
  pub not_located : (located : Located) → IsLocateReply octets located → ⊥

abbrev pub IsSaid : List ℕ → Said → Type 0
IsSaid octets (said.Message message) = Says octets (content_of message)
IsSaid octets (said.Located located) = IsLocateReply octets located
IsSaid octets said.Nothing = SaysNothing octets
