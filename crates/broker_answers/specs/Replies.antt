-- What requests are answered.
use Rattle.std.specs.Prelude.{◌≡◌, ◌≤◌, ◌+◌, ◌%◌, ℕ, zero, suc, pos, Bool, true, false, List, [], ◌++◌, length, Option, Some, None, slice_get}
use Rattle.type_graph.specs.declared.width.Width.TheVariants.{One}
use Rattle.type_graph.specs.declared.width.Order.TheVariants.{Big}
use Rattle.type_graph.specs.Words.{word}
use Rattle.type_graph.specs.Value.{NoTree}
use Rattle.type_model.specs.declared.signatures.Operation.{Operation}
use Rattle.type_model.specs.declared.signatures.Exception.{Exception}
use Rattle.type_model.specs.ModelRules.{Parts}
use Rattle.giop_types.specs.TapeParts.{counted, IsCounted}
use Rattle.giop_messages.specs.Heads.{max_size, reply_type}
use Rattle.giop_types.specs.GiopNodes.{giop_nodes, reply_header_node, system_exception_node, boolean_result_node}
use Rattle.giop_messages.specs.declared.message.ReplyStatus.{ReplyStatus}
use Rattle.giop_messages.specs.declared.message.ReplyStatus.TheVariants.{NoException, UserException, SystemException as Systemic}
use Rattle.giop_messages.specs.Headers.{reply_tree, number_of}
use Rattle.giop_messages.specs.Messages.{Asked}
use Rattle.giop_messages.specs.Written.{Given, IsWritten}
use Rattle.broker_answers.specs.declared.exception.BrokerException.{BrokerException}
use Rattle.broker_answers.specs.declared.exception.BrokerException.TheVariants as raised
use Rattle.broker_answers.specs.Servants.{Call, Said, Done, Raised, NoImplement}
use Rattle.broker_answers.specs.Objects.{Served}
use Rattle.broker_answers.specs.Exceptions.{exception_tape}
use Rattle.broker_answers.specs.Findings.{Finding, Refuses, Tells, Calls, Finds}
use Rattle.type_graph.specs.declared.node.Node.{Node}

-- a status, and a body where there is one
pub record Reply : Type 0 where
  pub status : ReplyStatus
  pub body : Option Given

abbrev pub reply_of : ReplyStatus → List Node → ℕ → List ℕ → Reply
reply_of status graph node tape = record {
  status = status;
  body = Some (record { graph = graph; node = node; tape = tape });
}

-- that it was done, and nothing more
abbrev pub acceptance : Reply
acceptance = record { status = NoException; body = None }

abbrev pub exception_reply : BrokerException → Reply
exception_reply exception = reply_of Systemic giop_nodes system_exception_node (exception_tape exception)

abbrev pub truth_number : Bool → ℕ
truth_number true = 1
truth_number false = 0

-- what _is_a and _non_existent answer
abbrev pub truth_reply : Bool → Reply
truth_reply truth = reply_of NoException giop_nodes boolean_result_node (word Big One (pos (truth_number truth)))

-- the octets of the reply to the request, in its byte order, with no service contexts
pub record IsSent (asked : Asked) (reply : Reply) (octets : List ℕ) : Type 0 where
  pub written : IsWritten asked.order reply_type reply_header_node
      (reply_tree asked.id (number_of reply.status) NoTree) reply.body octets
  pub short : length octets ≤ 12 + max_size

-- its body isn't one of its frame, or the message would be too long
abbrev pub IsUnsendable : Asked → Reply → Type 0
IsUnsendable asked reply = (octets : List ℕ) → IsSent asked reply octets → ⊥

abbrev pub success : Parts → Operation → List ℕ → Reply
success model operation tape = reply_of NoException model.graph operation.reply tape

-- an exception's frame begins with its id
abbrev pub throw : Parts → Exception → List ℕ → Reply
throw model exception tape = reply_of UserException model.graph exception.frame (counted exception.id ++ tape)

-- the exception at a place of the operation's list
pub record IsThrown (model : Parts) (operation : Operation) (place : ℕ) (exception : Exception) : Type 0 where
  pub number : ℕ
  pub listed : slice_get operation.exceptions place ≡ Some number
  pub there : slice_get model.exceptions number ≡ Some exception

-- the exception can't be sent; an id that no count can say is none
abbrev pub IsUnthrown : Parts → Asked → Exception → List ℕ → Type 0
IsUnthrown model asked exception tape = IsCounted exception.id → IsUnsendable asked (throw model exception tape)

-- What is replied to what the servant says to a call.
pub data Replies (model : Parts) (asked : Asked) (operation : Operation) (said : Said) (octets : List ℕ) : Type 0 where
  Succeeds : (tape : List ℕ) → said ≡ Done tape → IsSent asked (success model operation tape) octets
      → Replies model asked operation said octets
  FailsToSucceed : (tape : List ℕ) → said ≡ Done tape → IsUnsendable asked (success model operation tape)
      → IsSent asked (exception_reply raised.Internal) octets → Replies model asked operation said octets
  Throws : (place : ℕ) (tape : List ℕ) (exception : Exception) → said ≡ Raised place tape
      → IsThrown model operation place exception → IsCounted exception.id
      → IsSent asked (throw model exception tape) octets → Replies model asked operation said octets
  FailsToThrow : (place : ℕ) (tape : List ℕ) (exception : Exception) → said ≡ Raised place tape
      → IsThrown model operation place exception → IsUnthrown model asked exception tape
      → IsSent asked (exception_reply raised.Internal) octets → Replies model asked operation said octets
  -- the place is none of the list
  ThrowsUnknown : (place : ℕ) (tape : List ℕ) → said ≡ Raised place tape → slice_get operation.exceptions place ≡ None
      → IsSent asked (exception_reply raised.Unknown) octets → Replies model asked operation said octets
  IsntImplemented : said ≡ NoImplement → IsSent asked (exception_reply raised.NoImplement) octets
      → Replies model asked operation said octets

-- Which answers the response flags ask for (GIOP: request header): all; that it was done, or that it can't be; none.
-- Bits 0 and 1 alone are looked at, and 2 is read as 0 (own).
pub data SyncScope : Type 0 where
  WithTarget : SyncScope
  WithServer : SyncScope
  NoResponse : SyncScope

abbrev pub scope_of : ℕ → SyncScope
scope_of zero = NoResponse
scope_of (suc zero) = WithServer
scope_of (suc (suc zero)) = NoResponse
scope_of (suc (suc (suc zero))) = WithTarget
scope_of (suc (suc (suc (suc n)))) = NoResponse

abbrev pub sync_scope : ℕ → SyncScope
sync_scope flags = scope_of (flags % 4)

-- all of the answer; `says` is what the servant says to a call
abbrev pub IsWhole : Served → Asked → Finding → (Call → Said) → List ℕ → Type 0
IsWhole served asked (Refuses exception) says octets = IsSent asked (exception_reply exception) octets
IsWhole served asked (Tells truth) says octets = IsSent asked (truth_reply truth) octets
IsWhole served asked (Calls call) says octets =
    (operation : Operation) × (slice_get served.model.operations call.operation ≡ Some operation)
    × Replies served.model asked operation (says call) octets

-- that it was done, or that nothing can be done
abbrev pub IsAccepted : Asked → Finding → List ℕ → Type 0
IsAccepted asked (Refuses exception) octets = IsSent asked (exception_reply exception) octets
IsAccepted asked (Tells truth) octets = IsSent asked acceptance octets
IsAccepted asked (Calls call) octets = IsSent asked acceptance octets

abbrev pub IsAnswer : SyncScope → Served → Asked → Finding → (Call → Said) → List ℕ → Type 0
IsAnswer WithTarget served asked finding says octets = IsWhole served asked finding says octets
IsAnswer WithServer served asked finding says octets = IsAccepted asked finding octets
IsAnswer NoResponse served asked finding says octets = octets ≡ []

-- the answer to a request
pub record AnswersRequest (served : Served) (asked : Asked) (says : Call → Said) (octets : List ℕ) : Type 0 where
  pub finding : Finding
  pub finds : Finds served asked finding
  pub answer : IsAnswer (sync_scope asked.flags) served asked finding says octets
