-- What is read of the messages that are written.
use Rattle.std.specs.Prelude.{◌≡◌, ℕ, List, [], ◌∷◌, length, Option, Some, None}
use Rattle.type_graph.specs.declared.width.Order.{Order}
use Rattle.type_graph.specs.Words.{reading}
use Rattle.type_graph.specs.Encoding.{Means}
use Rattle.giop_messages.specs.declared.message.ReplyStatus.{ReplyStatus}
use Rattle.giop_messages.specs.Messages.{Asked, Answered, Asks, Answers, Says}
use Rattle.giop_messages.specs.Written.{Given}

-- octets at a place that this tape means; those of an empty one are none
abbrev pub HoldsTape : Order → Given → List ℕ → ℕ → List ℕ → Type 0
HoldsTape order given [] place octets = octets ≡ []
HoldsTape order given (octet ∷ more) place octets =
    Means given.graph (reading order) 64 given.node place (octet ∷ more) octets

-- The octets at a place hold the body that was given; where none was given, or an empty one, none stand there.
abbrev pub HoldsBody : Order → Option Given → ℕ → List ℕ → Type 0
HoldsBody order None place octets = octets ≡ []
HoldsBody order (Some given) place octets = HoldsTape order given given.tape place octets

-- no body was given, or one whose tape is empty
abbrev pub IsEmpty : Option Given → Type 0
IsEmpty None = Unit {0}
IsEmpty (Some given) = given.tape ≡ []

-- the octets say the request with these fields
pub record SaysRequest (order : Order) (id flags : ℕ) (key operation : List ℕ) (body : Option Given) (octets : List ℕ)
    : Type 0 where
  pub asked : Asked
  pub says : Says octets (Asks asked)
  pub id_is : asked.id ≡ id
  pub flags_is : asked.flags ≡ flags
  pub key_is : asked.key ≡ Some key
  pub operation_is : asked.operation ≡ operation
  pub order_is : asked.order ≡ order
  pub body_is : HoldsBody order body asked.body_at asked.body
  -- no gap stands before an empty body
  pub stops : IsEmpty body → length octets ≡ says.stop

-- they say the reply with these fields
pub record SaysReply (order : Order) (id : ℕ) (status : ReplyStatus) (body : Option Given) (octets : List ℕ)
    : Type 0 where
  pub answered : Answered
  pub says : Says octets (Answers answered)
  pub id_is : answered.id ≡ id
  pub status_is : answered.status ≡ status
  pub order_is : answered.order ≡ order
  pub body_is : HoldsBody order body answered.body_at answered.body
  pub stops : IsEmpty body → length octets ≡ says.stop
