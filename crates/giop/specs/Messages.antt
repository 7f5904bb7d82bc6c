-- What is written to a buffer, and why nothing is.
use Rattle.std.specs.Prelude.{◌≡◌, ℕ, ◌<◌, List, [], ◌∷◌, length, Some}
use Rattle.type_graph.specs.declared.width.Order.{Order}
use Rattle.type_graph.specs.Value.{NoTree}
use Rattle.giop_types.specs.Fields.{octet_trees}
use Rattle.giop_types.specs.GiopNodes.{request_header_node, reply_header_node}
use Rattle.giop_messages.specs.declared.fault.GiopFault.{GiopFault}
use Rattle.giop_messages.specs.declared.message.ReplyStatus.{ReplyStatus}
use Rattle.giop_messages.specs.Heads.{request_type, reply_type}
use Rattle.giop_messages.specs.Headers.{key_target, number_of, reply_tree, request_tree}
use Rattle.giop_messages.specs.Written.{Given, IsWritten}
use Rattle.giop.specs.Refusal.{IsNotWritten}
use Rattle.giop.specs.declared.giop_buffers.fault.BufferFault.{BufferFault}
use Rattle.giop.specs.declared.giop_buffers.fault.BufferFault.TheVariants.{NoRoom, Refused}
use Rattle.giop.specs.declared.giop_buffers.writing.RequestHead.{RequestHead}
use Rattle.giop.specs.declared.giop_buffers.writing.ReplyHead.{ReplyHead}

-- the octets of a request with this body: an object by its key, no service contexts
abbrev pub IsRequest : Order → ℕ → ℕ → List ℕ → List ℕ → Given → List ℕ → Type 0
IsRequest order id flags key operation body octets =
    IsWritten order request_type request_header_node
    (request_tree id flags (octet_trees (0 ∷ 0 ∷ 0 ∷ [])) (key_target key) operation NoTree) (Some body) octets

-- no octets can be those of it, for the fault
abbrev pub IsNoRequest : Order → ℕ → ℕ → List ℕ → List ℕ → Given → GiopFault → Type 0
IsNoRequest order id flags key operation body fault =
    IsNotWritten fault order request_type request_header_node
    (request_tree id flags (octet_trees (0 ∷ 0 ∷ 0 ∷ [])) (key_target key) operation NoTree) (Some body)

-- the same of a reply, without service contexts
abbrev pub IsReply : Order → ℕ → ReplyStatus → Given → List ℕ → Type 0
IsReply order id status body octets =
    IsWritten order reply_type reply_header_node (reply_tree id (number_of status) NoTree) (Some body) octets

abbrev pub IsNoReply : Order → ℕ → ReplyStatus → Given → GiopFault → Type 0
IsNoReply order id status body fault =
    IsNotWritten fault order reply_type reply_header_node (reply_tree id (number_of status) NoTree) (Some body)

-- those of a head that is handed in
abbrev pub IsRequestOf : RequestHead → Given → List ℕ → Type 0
IsRequestOf head = IsRequest head.order head.id head.flags head.key.now head.operation.now

abbrev pub IsNoRequestOf : RequestHead → Given → GiopFault → Type 0
IsNoRequestOf head = IsNoRequest head.order head.id head.flags head.key.now head.operation.now

abbrev pub IsReplyOf : ReplyHead → Given → List ℕ → Type 0
IsReplyOf head = IsReply head.order head.id head.status

abbrev pub IsNoReplyOf : ReplyHead → Given → GiopFault → Type 0
IsNoReplyOf head = IsNoReply head.order head.id head.status

-- some octets that are it are so many
pub record HasLength (Is : List ℕ → Type 0) (len : ℕ) : Type 0 where
  pub octets : List ℕ
  pub is : Is octets
  pub long : length octets ≡ len

-- Why nothing is put into a buffer of so much room: what is to be put there has more octets; or the fault says why it
-- isn't there.
abbrev pub Refuses : (List ℕ → Type 0) → ℕ → (GiopFault → Type 0) → BufferFault → Type 0
Refuses is room none (NoRoom needed) = (room < needed) × HasLength is needed
Refuses is room none (Refused fault) = none fault
