-- What a message says (ISO/IEC 19500-2, GIOP message formats).
use Rattle.std.specs.Prelude.{◌≡◌, ℕ, ◌+◌, false, List, ◌++◌, length, drop, Option, option_map}
use Rattle.type_graph.specs.declared.width.Order.{Order}
use Rattle.type_graph.specs.Words.{reading, pad}
use Rattle.type_graph.specs.Value.{Tree, Trees}
use Rattle.giop_messages.specs.declared.head.MessageKind.{MessageKind}
use Rattle.giop_messages.specs.declared.head.MessageKind.TheVariants as kinds
use Rattle.giop_messages.specs.declared.head.Head.{Head}
use Rattle.giop_messages.specs.Runs.{IsMessage}
use Rattle.giop_types.specs.Fields.{Holds}
use Rattle.giop_messages.specs.Headers.{IsKeyOf, request_tree, reply_tree, cancel_tree, locate_tree, number_of}
use Rattle.giop_messages.specs.declared.message.ReplyStatus.{ReplyStatus}
use Rattle.giop_messages.specs.declared.message.Request.{Request}
use Rattle.giop_messages.specs.declared.message.Reply.{Reply}
use Rattle.giop_messages.specs.declared.message.Locate.{Locate}
use Rattle.giop_messages.specs.declared.message.Message.{Message}
use Rattle.giop_messages.specs.declared.message.Message.TheVariants as messages
use Rattle.giop_types.specs.GiopNodes.{request_header_node, reply_header_node, locate_request_header_node, cancel_request_header_node}

-- A call: its number, which answers are wanted, the key of its target, the operation, the byte order, and the body with
-- its place.
pub record Asked : Type 0 where
  pub id : ℕ
  pub flags : ℕ
  pub key : Option (List ℕ)
  pub operation : List ℕ
  pub order : Order
  pub body_at : ℕ
  pub body : List ℕ

-- an answer to the call of a number
pub record Answered : Type 0 where
  pub id : ℕ
  pub status : ReplyStatus
  pub order : Order
  pub body_at : ℕ
  pub body : List ℕ

-- the question whether the object of a key is here
pub record Sought : Type 0 where
  pub id : ℕ
  pub key : Option (List ℕ)
  pub order : Order

pub data Content : Type 0 where
  Asks : Asked → Content
  Answers : Answered → Content
  Cancels : ℕ → Content
  Seeks : Sought → Content
  Closes : Content
  Fails : Content

-- the whole message of this type, not followed by fragments, and what its head says
pub record IsWhole (kind : MessageKind) (octets : List ℕ) (head : Head) : Type 0 where
  pub is : IsMessage head octets
  pub kind_is : head.kind ≡ kind
  pub alone : head.goes_on ≡ false

-- Behind the 12 octets of the head stands the value of the node, which ends at this place.
pub record HasHeader (octets : List ℕ) (order : Order) (node : ℕ) (value : Tree) (stop : ℕ) : Type 0 where
  pub header : List ℕ
  pub rest : List ℕ
  pub behind : drop 12 octets ≡ header ++ rest
  pub holds : Holds (reading order) node 12 value header
  pub stops : stop ≡ 12 + length header

-- a body begins at a multiple of 8 (GIOP 1.2 request and reply body)
abbrev pub body_after : ℕ → ℕ
body_after stop = stop + pad stop 8

-- the octets from a place behind the header on; none where they end before
pub record HasBody (octets : List ℕ) (stop body_at : ℕ) (body : List ℕ) : Type 0 where
  pub place : body_at ≡ body_after stop
  pub body_is : body ≡ drop body_at octets

pub record IsRequest (octets : List ℕ) (asked : Asked) : Type 0 where
  pub head : Head
  pub is : IsWhole kinds.Request octets head
  pub order_is : asked.order ≡ head.order
  pub reserved : Trees
  pub target : Tree
  pub contexts : Trees
  pub stop : ℕ
  pub header : HasHeader octets head.order request_header_node
      (request_tree asked.id asked.flags reserved target asked.operation contexts) stop
  pub key_is : IsKeyOf target asked.key
  pub body : HasBody octets stop asked.body_at asked.body

pub record IsReply (octets : List ℕ) (answered : Answered) : Type 0 where
  pub head : Head
  pub is : IsWhole kinds.Reply octets head
  pub order_is : answered.order ≡ head.order
  pub contexts : Trees
  pub stop : ℕ
  pub header : HasHeader octets head.order reply_header_node
      (reply_tree answered.id (number_of answered.status) contexts) stop
  pub body : HasBody octets stop answered.body_at answered.body

-- what stands behind the header isn't looked at (own)
pub record IsCancel (octets : List ℕ) (id : ℕ) : Type 0 where
  pub head : Head
  pub is : IsWhole kinds.CancelRequest octets head
  pub stop : ℕ
  pub header : HasHeader octets head.order cancel_request_header_node (cancel_tree id) stop

pub record IsLocate (octets : List ℕ) (sought : Sought) : Type 0 where
  pub head : Head
  pub is : IsWhole kinds.LocateRequest octets head
  pub order_is : sought.order ≡ head.order
  pub target : Tree
  pub stop : ℕ
  pub header : HasHeader octets head.order locate_request_header_node (locate_tree sought.id target) stop
  pub key_is : IsKeyOf target sought.key

-- a message that is its head, and any octets
pub record IsBare (kind : MessageKind) (octets : List ℕ) : Type 0 where
  pub head : Head
  pub is : IsWhole kind octets head

-- The octets are one message, and say this. A reply to a locate request is no message for this side (own).
abbrev pub Says : List ℕ → Content → Type 0
Says octets (Asks asked) = IsRequest octets asked
Says octets (Answers answered) = IsReply octets answered
Says octets (Cancels id) = IsCancel octets id
Says octets (Seeks sought) = IsLocate octets sought
Says octets Closes = IsBare kinds.CloseConnection octets
Says octets Fails = IsBare kinds.MessageError octets

abbrev pub asked_of : Request → Asked
asked_of r = record {
  id = r.id;
  flags = r.flags;
  key = option_map (λ key. key.items) r.key;
  operation = r.operation.items;
  order = r.order;
  body_at = r.body_at;
  body = r.octets.now;
}

abbrev pub answered_of : Reply → Answered
answered_of r = record { id = r.id; status = r.status; order = r.order; body_at = r.body_at; body = r.octets.now }

abbrev pub sought_of : Locate → Sought
sought_of l = record { id = l.id; key = option_map (λ key. key.items) l.key; order = l.order }

-- what a message that was read says
abbrev pub content_of : Message → Content
content_of (messages.Request request) = Asks (asked_of request)
content_of (messages.Reply reply) = Answers (answered_of reply)
content_of (messages.Cancel id) = Cancels id
content_of (messages.Locate locate) = Seeks (sought_of locate)
content_of messages.CloseConnection = Closes
content_of messages.MessageError = Fails
