-- The head of a GIOP message (ISO/IEC 19500-2, GIOP message formats: GIOP message header), as functions of the octets
-- that it begins. A rule marked (own) is this project's.
use Rattle.std.specs.Prelude.{ℕ, ◌%◌, ◌/◌, Bool, true, false, not, ◌&&◌, List, [], ◌∷◌, drop, Option, Some, None, Result, Ok, Err}
use Rattle.std.specs.Prelude.{nat_eq, nat_lt, slice_get, slice_index, if◌then◌else◌}
use Rattle.byteorder.specs.Endian.{big_number, little_number}
use Rattle.type_graph.specs.declared.width.Order.{Order}
use Rattle.type_graph.specs.declared.width.Order.TheVariants.{Big, Little}
use Rattle.giop_messages.specs.declared.fault.FramingFault.{FramingFault}
use Rattle.giop_messages.specs.declared.fault.FramingFault.TheVariants.{NotGiop, Version, TooLong, BadHead}
use Rattle.giop_messages.specs.declared.head.MessageKind.{MessageKind}
use Rattle.giop_messages.specs.declared.head.MessageKind.TheVariants.{Request, Reply, CancelRequest, LocateRequest, LocateReply, CloseConnection, MessageError, Fragment}
use Rattle.giop_messages.specs.declared.head.Head.{Head}

-- the unsigned number of k octets at the front, in a byte order
abbrev pub number_in : Order → ℕ → List ℕ → ℕ
number_in Big k octets = big_number k octets
number_in Little k octets = little_number k octets

-- bit 0 of the flags tells the order of the message: 1 is little
abbrev pub order_of : ℕ → Order
order_of flags = if nat_eq (flags % 2) 1 then Little else Big

-- bit 1 tells that fragments follow
abbrev pub goes_on : ℕ → Bool
goes_on flags = nat_eq (flags / 2 % 2) 1

-- the types of messages, by their number
abbrev pub kinds : List MessageKind
kinds =
    Request ∷ Reply ∷ CancelRequest ∷ LocateRequest ∷ LocateReply ∷ CloseConnection ∷ MessageError ∷ Fragment ∷ []

-- numbers of types that contracts name
abbrev pub request_type : ℕ
request_type = 0

abbrev pub reply_type : ℕ
reply_type = 1

abbrev pub cancel_request_type : ℕ
cancel_request_type = 2

abbrev pub locate_request_type : ℕ
locate_request_type = 3

abbrev pub locate_reply_type : ℕ
locate_reply_type = 4

abbrev pub message_error_type : ℕ
message_error_type = 6

abbrev pub fragment_type : ℕ
fragment_type = 7

-- Messages that may be followed by fragments. Fragmented replies and locate requests are left out (own).
abbrev pub may_go_on : MessageKind → Bool
may_go_on Request = true
may_go_on Fragment = true
may_go_on kind = false

-- the letters `GIOP`
abbrev pub is_giop : List ℕ → Bool
is_giop octets =
    nat_eq (slice_index octets 0) 71 && nat_eq (slice_index octets 1) 73
    && nat_eq (slice_index octets 2) 79 && nat_eq (slice_index octets 3) 80

-- version 1.2
abbrev pub is_1_2 : List ℕ → Bool
is_1_2 octets = nat_eq (slice_index octets 4) 1 && nat_eq (slice_index octets 5) 2

abbrev pub flags_in : List ℕ → ℕ
flags_in octets = slice_index octets 6

-- how many octets of the message stand behind its head
abbrev pub size_in : List ℕ → ℕ
size_in octets = number_in (order_of (flags_in octets)) 4 (drop 8 octets)

-- more octets than this stand behind no head (own)
abbrev pub max_size : ℕ
max_size = 1048576

abbrev pub head_of : ℕ → ℕ → MessageKind → Head
head_of flags size kind = record { kind = kind; order = order_of flags; goes_on = goes_on flags; size = size }

-- What a head says of its message, given its type. Only requests and their fragments may be followed by fragments.
abbrev pub typed : ℕ → ℕ → Option MessageKind → Result Head FramingFault
typed flags size None = Err BadHead
typed flags size (Some kind) =
    if goes_on flags && not (may_go_on kind) then Err BadHead else Ok (head_of flags size kind)

-- What the 12 octets at the front say. Of several faults the first in this order is told (own).
abbrev pub head_in : List ℕ → Result Head FramingFault
head_in octets =
    if not (is_giop octets) then Err NotGiop
    else if not (is_1_2 octets) then Err Version
    else if nat_lt max_size (size_in octets) then Err TooLong
    else typed (flags_in octets) (size_in octets) (slice_get kinds (slice_index octets 7))
