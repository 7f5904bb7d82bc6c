-- Where messages stand in the stream that a server sends, for a client that awaits the reply to the request of a number
-- (ISO/IEC 19500-2, GIOP message formats: Reply, Fragment). A rule marked (own) is this project's.
use Rattle.std.specs.Prelude.{ℕ, ◌+◌, List, length, take, drop, nat_eq, nat_lt, if◌then◌else◌, Option, Some, None, Result, Ok, Err}
use Rattle.giop_messages.specs.declared.fault.FramingFault.{FramingFault}
use Rattle.giop_messages.specs.declared.fault.FramingFault.TheVariants.{BadHead, BadFragment}
use Rattle.giop_messages.specs.declared.head.MessageKind.{MessageKind}
use Rattle.giop_messages.specs.declared.head.MessageKind.TheVariants as kinds
use Rattle.giop_messages.specs.declared.head.Head.{Head}
use Rattle.giop_messages.specs.Framing.{added, begun, breaks_run, id_in, is_cut}
use Rattle.giop_messages.specs.ReplyStreamsHeads.{reply_head}

-- What stands at the front, while a run of fragments of the reply may be open. A run is the reply that it would be if
-- nothing more came.
pub data Front : Type 0 where
  -- not yet a whole message
  More : Front
  -- no message: what is wrong
  Broken : FramingFault → Front
  -- a message, or a piece of one, that is no part of the reply; the octets behind it
  Passed : List ℕ → Front
  -- a piece of the reply after which more is to come: the run with it, and the octets behind it
  Piece : List ℕ → List ℕ → Front
  -- the whole reply
  Whole : List ℕ → Front
  -- the connection is closed
  Closes : Front
  -- a message that was sent was none
  Fails : Front

-- a reply with the number, or its first piece; there is one of them (own)
abbrev pub begins : Option (List ℕ) → Head → List ℕ → List ℕ → Front
begins (Some run) head message rest = Broken BadFragment
begins None head message rest =
    if head.goes_on then (if is_cut head then Broken BadFragment else Piece (begun message) rest) else Whole message

-- a later piece
abbrev pub continues : Option (List ℕ) → Head → List ℕ → List ℕ → Front
continues None head message rest = Broken BadFragment
continues (Some run) head message rest =
    if breaks_run run head then Broken BadFragment
    else if head.goes_on then Piece (added run message) rest else Whole (added run message)

-- one with a number, if it is that of the request; one without a number is broken
abbrev pub numbered : ℕ → FramingFault → Front → Head → List ℕ → List ℕ → Front
numbered id fault own head message rest =
    if nat_lt head.size 4 then Broken fault else if nat_eq (id_in message) id then own else Passed rest

-- A whole message at the front. A client is sent no requests (own).
abbrev pub placed : ℕ → Option (List ℕ) → MessageKind → Head → List ℕ → List ℕ → Front
placed id run kinds.Request head message rest = Broken BadHead
placed id run kinds.Reply head message rest =
    numbered id BadHead (begins run head message rest) head message rest
placed id run kinds.CancelRequest head message rest = Broken BadHead
placed id run kinds.LocateRequest head message rest = Broken BadHead
placed id run kinds.LocateReply head message rest = Passed rest
placed id run kinds.CloseConnection head message rest = Closes
placed id run kinds.MessageError head message rest = Fails
placed id run kinds.Fragment head message rest =
    numbered id BadFragment (continues run head message rest) head message rest

abbrev pub front_behind : ℕ → Option (List ℕ) → List ℕ → Result Head FramingFault → Front
front_behind id run octets (Err fault) = Broken fault
front_behind id run octets (Ok head) =
    if nat_lt (length octets) (12 + head.size) then More
    else placed id run head.kind head (take (12 + head.size) octets) (drop (12 + head.size) octets)

abbrev pub front : ℕ → Option (List ℕ) → List ℕ → Front
front id run octets = if nat_lt (length octets) 12 then More else front_behind id run octets (reply_head octets)
