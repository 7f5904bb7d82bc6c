-- What becomes of a call, by the reply to it (ISO/IEC 19500-2, GIOP message formats: reply status, reply body).
use Rattle.std.specs.Prelude.{◌≡◌, ℕ, List, ◌++◌, length, Some, None}
use Rattle.std.specs.String.{string_bytes}
use Rattle.type_graph.specs.declared.width.Order.{Order}
use Rattle.type_graph.specs.declared.width.Width.TheVariants.{Two}
use Rattle.type_graph.specs.Words.{pad, plain_word, reading}
use Rattle.type_graph.specs.Encoding.{Means}
use Rattle.type_model.specs.declared.signatures.Exception.{Exception}
use Rattle.type_model.specs.ModelRules.{Parts}
use Rattle.giop_types.specs.GiopNodes.{giop_nodes, id_argument_node}
use Rattle.giop_types.specs.TapeParts.{counted}
use Rattle.giop_messages.specs.declared.message.ReplyStatus.{ReplyStatus}
use Rattle.giop_messages.specs.declared.message.ReplyStatus.TheVariants as statuses
use Rattle.giop_messages.specs.Messages.{Answered}
use Rattle.reference_texts.specs.References.{Reference, reference_of}
use Rattle.giop.specs.Bodies.{Exception as SystemException, HoldsException, HoldsReference, exception_of}
use Rattle.type_model.specs.Exceptions.{exception_with}
use Rattle.command_texts.specs.Bodies.{HasNoValue, IsTextOfBody, Labels}
use Rattle.command_texts.specs.declared.call_texts.outcome.Outcome.{Outcome}
use Rattle.command_texts.specs.declared.call_texts.outcome.Outcome.TheVariants.{Returned, Raised, Failed, Forwarded, Readdressed}

-- ---- exceptions of operations

-- the octets at a place of a message begin with this repository id
pub record BeginsWithId (order : Order) (place : ℕ) (octets id : List ℕ) : Type 0 where
  pub front : List ℕ
  pub rest : List ℕ
  pub octets_are : octets ≡ front ++ rest
  pub means : Means giop_nodes (reading order) 64 id_argument_node place (counted id) front

-- the exception of a model, among these of its exceptions, with the id with which the body begins
pub record IsRaised (model : Parts) (exceptions : List ℕ) (answered : Answered) (exception : Exception) : Type 0 where
  pub id : List ℕ
  pub id_is : BeginsWithId answered.order answered.body_at answered.body id
  pub found : exception_with model id exceptions ≡ Some exception

-- its text, id and members
pub record IsTextOfRaised (model : Parts) (labels : Labels) (exceptions : List ℕ) (answered : Answered) (text : List ℕ)
    : Type 0 where
  pub exception : Exception
  pub raised : IsRaised model exceptions answered exception
  pub text_is : IsTextOfBody labels model.graph answered.order exception.frame answered.body_at answered.body text

-- why there is none
pub data IsNoneRaised (model : Parts) (exceptions : List ℕ) (answered : Answered) : Type 0 where
  NoId : ((id : List ℕ) → BeginsWithId answered.order answered.body_at answered.body id → ⊥)
      → IsNoneRaised model exceptions answered
  Unknown : (id : List ℕ) → BeginsWithId answered.order answered.body_at answered.body id
      → exception_with model id exceptions ≡ None → IsNoneRaised model exceptions answered
  Unread : (exception : Exception) → IsRaised model exceptions answered exception
      → HasNoValue model.graph answered.order exception.frame answered.body_at answered.body
      → IsNoneRaised model exceptions answered

-- ---- other forms of address

-- The octets at a place of a message begin with this unsigned short, whatever stands in the gap before it.
pub record BeginsWithShort (order : Order) (place : ℕ) (octets : List ℕ) (n : ℕ) : Type 0 where
  pub gap : List ℕ
  pub rest : List ℕ
  pub octets_are : octets ≡ gap ++ (plain_word order Two n ++ rest)
  pub aligned : length gap ≡ pad place 2

-- ---- outcomes

-- what a call is for: the types of its table with the names of their parts, the frame of the result, and the
-- exceptions that may be raised
pub record Called : Type 0 where
  pub model : Parts
  pub labels : Labels
  pub reply : ℕ
  pub exceptions : List ℕ

abbrev pub called : Parts → Labels → ℕ → List ℕ → Called
called model labels reply exceptions =
    record { model = model; labels = labels; reply = reply; exceptions = exceptions }

abbrev pub IsOutcomeOf : ReplyStatus → Called → Answered → Outcome → Type 0
IsOutcomeOf statuses.NoException called answered (Returned text) =
    IsTextOfBody called.labels called.model.graph answered.order called.reply answered.body_at answered.body
    (string_bytes text)
IsOutcomeOf statuses.UserException called answered (Raised text) =
    IsTextOfRaised called.model called.labels called.exceptions answered (string_bytes text)
IsOutcomeOf statuses.SystemException called answered (Failed exception) =
    HoldsException answered.order answered.body_at answered.body (exception_of exception)
IsOutcomeOf statuses.LocationForward called answered (Forwarded ior) =
    HoldsReference answered.order answered.body_at answered.body (reference_of ior)
IsOutcomeOf statuses.LocationForwardPerm called answered (Forwarded ior) =
    HoldsReference answered.order answered.body_at answered.body (reference_of ior)
IsOutcomeOf statuses.NeedsAddressingMode called answered (Readdressed disposition) =
    BeginsWithShort answered.order answered.body_at answered.body disposition
IsOutcomeOf status called answered outcome = ⊥

-- The outcome is that of the reply.
abbrev pub IsOutcome : Called → Answered → Outcome → Type 0
IsOutcome called answered outcome = IsOutcomeOf answered.status called answered outcome

abbrev pub HasNoOutcomeOf : ReplyStatus → Called → Answered → Type 0
HasNoOutcomeOf statuses.NoException called answered =
    HasNoValue called.model.graph answered.order called.reply answered.body_at answered.body
HasNoOutcomeOf statuses.UserException called answered = IsNoneRaised called.model called.exceptions answered
HasNoOutcomeOf statuses.SystemException called answered =
    (exception : SystemException) → HoldsException answered.order answered.body_at answered.body exception → ⊥
HasNoOutcomeOf statuses.LocationForward called answered =
    (reference : Reference) → HoldsReference answered.order answered.body_at answered.body reference → ⊥
HasNoOutcomeOf statuses.LocationForwardPerm called answered =
    (reference : Reference) → HoldsReference answered.order answered.body_at answered.body reference → ⊥
HasNoOutcomeOf statuses.NeedsAddressingMode called answered =
    (n : ℕ) → BeginsWithShort answered.order answered.body_at answered.body n → ⊥

-- its body isn't what its status says
abbrev pub HasNoOutcome : Called → Answered → Type 0
HasNoOutcome called answered = HasNoOutcomeOf answered.status called answered
