-- What answers about messages say, and their numbers.
use Rattle.std.specs.Prelude.{◌≡◌, ℕ, Bool, ◌≤◌, ◌⊎◌, List, Result, Ok, Err, None}
use Rattle.table_file.specs.Table.{TableParts}
use Rattle.giop_messages.specs.declared.fault.GiopFault.{GiopFault}
use Rattle.giop_messages.specs.declared.fault.GiopFault.TheVariants as faults
use Rattle.giop_messages.specs.declared.message.ReplyStatus.{ReplyStatus}
use Rattle.giop_messages.specs.Headers.{number_of}
use Rattle.giop.specs.Fronts.{IsRefused}
use Rattle.giop.specs.Made.{given}
use Rattle.giop.specs.declared.giop_buffers.fault.BufferFault.{BufferFault}
use Rattle.giop.specs.declared.giop_buffers.fault.BufferFault.TheVariants.{NoRoom, Refused}
use Rattle.giop.specs.Messages.{IsRequest, IsNoRequest, IsReply, IsNoReply, HasLength, Refuses}
use Rattle.idlc_c.specs.declared.messages.MessageRefusal.{MessageRefusal}
use Rattle.idlc_c.specs.declared.messages.MessageRefusal.TheVariants.{NotNamed, NotHanded}
use Rattle.idlc_c.specs.Answers.{IsOwn, order_of}

-- ---- numbers

abbrev pub number_of_giop : GiopFault → ℕ
number_of_giop faults.NotGiop = 90
number_of_giop faults.Version = 91
number_of_giop faults.TooLong = 92
number_of_giop faults.BadHead = 93
number_of_giop faults.BadBody = 96
number_of_giop faults.BadFragment = 97
number_of_giop faults.NoMemory = 42

abbrev pub number_of_buffer : BufferFault → ℕ
number_of_buffer (NoRoom needed) = 45
number_of_buffer (Refused fault) = number_of_giop fault

abbrev pub number_of_refusal : MessageRefusal → ℕ
number_of_refusal NotNamed = 44
number_of_refusal (NotHanded fault) = number_of_buffer fault

abbrev pub number_of_message : Result ℕ MessageRefusal → ℕ
number_of_message (Ok len) = 0
number_of_message (Err refusal) = number_of_refusal refusal

-- what was handed over is so long, or would have been
abbrev pub length_of_buffer : BufferFault → ℕ → ℕ
length_of_buffer (NoRoom needed) old = needed
length_of_buffer (Refused fault) old = old

abbrev pub length_of_message : Result ℕ MessageRefusal → ℕ → ℕ
length_of_message (Ok len) old = len
length_of_message (Err NotNamed) old = old
length_of_message (Err (NotHanded fault)) old = length_of_buffer fault old

-- the numbers that a call about a message answers
abbrev pub IsOfMessage : ℕ → Type 0
IsOfMessage number = IsOwn 42 45 number ⊎ ((90 ≤ number) × (number ≤ 97))

-- ---- what they say

-- this number is that of a fault which holds
pub record IsFor (number : ℕ) (holds : GiopFault → Type 0) : Type 0 where
  pub fault : GiopFault
  pub number_is : number ≡ number_of_giop fault
  pub holds_here : holds fault

-- the octets are the request of these fields, with the body that the tape of the node is
abbrev pub IsRequestBy : Bool → ℕ → ℕ → List ℕ → List ℕ → ℕ → List ℕ → List ℕ → TableParts → Type 0
IsRequestBy little id flags key operation node tape octets table =
    IsRequest (order_of little) id flags key operation (given table.model.graph node tape) octets

abbrev pub HasRequest : Bool → ℕ → ℕ → List ℕ → List ℕ → ℕ → List ℕ → ℕ → TableParts → Type 0
HasRequest little id flags key operation node tape len table =
    HasLength (IsRequest (order_of little) id flags key operation (given table.model.graph node tape)) len

abbrev pub HasNoRequest : Bool → ℕ → ℕ → List ℕ → List ℕ → ℕ → List ℕ → ℕ → TableParts → Type 0
HasNoRequest little id flags key operation node tape number table =
    IsFor number (IsNoRequest (order_of little) id flags key operation (given table.model.graph node tape))

-- the octets are the reply of the status with this number
pub record IsReplyBy (little : Bool) (id status node : ℕ) (tape octets : List ℕ) (table : TableParts) : Type 0 where
  pub named : ReplyStatus
  pub numbered : number_of named ≡ status
  pub is : IsReply (order_of little) id named (given table.model.graph node tape) octets

abbrev pub HasReply : Bool → ℕ → ℕ → ℕ → List ℕ → ℕ → TableParts → Type 0
HasReply little id status node tape len table =
    HasLength (λ octets. IsReplyBy little id status node tape octets table) len

-- no octets can be those of it, whatever status has the number, for a fault with this number
abbrev pub IsNoReplyBy : Bool → ℕ → ℕ → ℕ → List ℕ → TableParts → GiopFault → Type 0
IsNoReplyBy little id status node tape table fault =
    (named : ReplyStatus) → number_of named ≡ status
    → IsNoReply (order_of little) id named (given table.model.graph node tape) fault

abbrev pub HasNoReply : Bool → ℕ → ℕ → ℕ → List ℕ → ℕ → TableParts → Type 0
HasNoReply little id status node tape number table = IsFor number (IsNoReplyBy little id status node tape table)

-- no message stands at the front of the octets, for a fault with this number
abbrev pub HasNoMessage : List ℕ → ℕ → Type 0
HasNoMessage octets number = IsFor number (IsRefused None octets)

-- why a message isn't handed over: its node isn't named, it has a length, it is none
abbrev pub RefusesMessage : Type 0 → (List ℕ → Type 0) → ℕ → (GiopFault → Type 0) → MessageRefusal → Type 0
RefusesMessage unnamed is room none NotNamed = unnamed
RefusesMessage unnamed is room none (NotHanded fault) = Refuses is room none fault
