-- Where messages stand in a stream of octets, and how fragments join to one message (ISO/IEC 19500-2, GIOP message
-- formats: Fragment). A rule marked (own) is this project's.
use Rattle.std.specs.Prelude.{ℕ, ◌+◌, ◌-◌, ◌%◌, Bool, true, false, not, ◌&&◌, ◌||◌, List, ◌++◌, length, take, drop, set, slice_index}
use Rattle.std.specs.Prelude.{nat_eq, nat_lt, if◌then◌else◌, Option, Some, None, Result, Ok, Err}
use Rattle.type_graph.specs.declared.width.Order.{Order}
use Rattle.type_graph.specs.declared.width.Order.TheVariants.{Big, Little}
use Rattle.type_graph.specs.declared.width.Width.TheVariants.{Four}
use Rattle.type_graph.specs.Words.{plain_word}
use Rattle.giop_messages.specs.declared.fault.FramingFault.{FramingFault}
use Rattle.giop_messages.specs.declared.fault.FramingFault.TheVariants.{BadFragment}
use Rattle.giop_messages.specs.declared.head.MessageKind.{MessageKind}
use Rattle.giop_messages.specs.declared.head.MessageKind.TheVariants.{Fragment}
use Rattle.giop_messages.specs.declared.head.Head.{Head}
use Rattle.giop_messages.specs.Heads.{flags_in, order_of, number_in, head_in, max_size, request_type, cancel_request_type, locate_request_type}

-- The octets of a run are the message that it would be if nothing more came: a request that no fragments follow.

abbrev pub order_in : List ℕ → Order
order_in message = order_of (flags_in message)

-- the type of a message, by its number
abbrev pub type_in : List ℕ → ℕ
type_in message = slice_index message 7

-- the request's number, the first of what stands behind the head of a request, a fragment, a cancel request
abbrev pub id_in : List ℕ → ℕ
id_in message = number_in (order_in message) 4 (drop 12 message)

-- the run that a request begins: the same octets, but for bit 1 of the flags
abbrev pub begun : List ℕ → List ℕ
begun message = set message 6 (flags_in message - 2)

-- a message whose size is that of the octets behind its head
abbrev pub sized : List ℕ → List ℕ
sized message = take 8 message ++ (plain_word (order_in message) Four (length message - 12) ++ drop 12 message)

-- the run with what a fragment brings: what stands behind the fragment's number
abbrev pub added : List ℕ → List ℕ → List ℕ
added run fragment = sized (run ++ drop 16 fragment)

abbrev pub is_fragment : MessageKind → Bool
is_fragment Fragment = true
is_fragment kind = false

abbrev pub same_order : Order → Order → Bool
same_order Big Big = true
same_order Little Little = true
same_order one other = false

-- A piece of a run that has no number, or after which more is to come at a place that is no multiple of 8 (the second
-- is the standard's rule, Fragment).
abbrev pub is_cut : Head → Bool
is_cut head = nat_lt head.size 4 || (head.goes_on && not (nat_eq ((12 + head.size) % 8) 0))

-- a rule that a fragment breaks: all of a run has one order, and together the size of one message (own)
abbrev pub breaks_run : List ℕ → Head → Bool
breaks_run run head =
    not (same_order (order_in run) head.order) || is_cut head || nat_lt max_size (length run - 12 + (head.size - 4))

-- A rule of fragments that a head breaks: a fragment belongs to a run, and a connection has one run at a time (own).
abbrev pub breaks : Option (List ℕ) → Head → Bool
breaks None head = is_fragment head.kind || (head.goes_on && is_cut head)
breaks (Some run) head = if is_fragment head.kind then breaks_run run head else head.goes_on

-- What stands at the front of a stream while a run may be open.
pub data Front : Type 0 where
  -- not yet a whole message
  More : Front
  -- no message: what is wrong
  Broken : FramingFault → Front
  -- a piece of a run after which more is to come: the run with it, and the octets behind it
  Piece : List ℕ → List ℕ → Front
  -- a whole message, the run that is open then, and the octets behind the message
  Whole : List ℕ → Option (List ℕ) → List ℕ → Front

-- requests and locate requests, the messages that a cancel request may name (CancelRequest)
abbrev pub is_asking : List ℕ → Bool
is_asking run = nat_eq (type_in run) request_type || nat_eq (type_in run) locate_request_type

-- What a cancel request ends: the run, in its own direction, of the request or locate request with its number. The
-- pieces that came are given up, and no fragment belongs to them any more (own).
unfoldable pub cancels : List ℕ → List ℕ → Bool
cancels run message =
    nat_eq (type_in message) cancel_request_type && not (nat_lt (length message) 16) && is_asking run
    && nat_eq (id_in message) (id_in run)

-- the run that is open behind a message that is no piece of one
abbrev pub run_behind : Option (List ℕ) → List ℕ → Option (List ℕ)
run_behind None message = None
run_behind (Some run) message = if cancels run message then None else Some run

-- a fragment of another request than that of the run
abbrev pub is_other : Option (List ℕ) → Head → List ℕ → Bool
is_other None head message = false
is_other (Some run) head message = is_fragment head.kind && not (nat_eq (id_in message) (id_in run))

-- A fragment of the run at the front. The message that all of a run is stands where its last piece does.
abbrev pub joined : Option (List ℕ) → Head → List ℕ → List ℕ → Front
joined None head fragment rest = Broken BadFragment
joined (Some run) head fragment rest =
    if head.goes_on then Piece (added run fragment) rest else Whole (added run fragment) None rest

-- a whole message at the front
abbrev pub placed : Option (List ℕ) → Head → List ℕ → List ℕ → Front
placed run head message rest =
    if is_fragment head.kind then joined run head message rest
    else if head.goes_on then Piece (begun message) rest
    else Whole message (run_behind run message) rest

-- All that a head can tell is told at its 12 octets; that a fragment is of another request, when it is whole (own).
abbrev pub front_behind : Option (List ℕ) → List ℕ → Result Head FramingFault → Front
front_behind run octets (Err fault) = Broken fault
front_behind run octets (Ok head) =
    if breaks run head then Broken BadFragment
    else if nat_lt (length octets) (12 + head.size) then More
    else if is_other run head (take (12 + head.size) octets) then Broken BadFragment
    else placed run head (take (12 + head.size) octets) (drop (12 + head.size) octets)

abbrev pub front : Option (List ℕ) → List ℕ → Front
front run octets = if nat_lt (length octets) 12 then More else front_behind run octets (head_in octets)
