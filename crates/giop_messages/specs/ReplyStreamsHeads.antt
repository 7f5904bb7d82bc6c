-- What heads say to a client (ISO/IEC 19500-2, GIOP message header). A server may send its replies in fragments.
use Rattle.std.specs.Prelude.{ℕ, Bool, true, false, List, if◌then◌else◌, Result, Ok, Err}
use Rattle.giop_messages.specs.declared.fault.FramingFault.{FramingFault}
use Rattle.giop_messages.specs.declared.fault.FramingFault.TheVariants.{BadHead}
use Rattle.giop_messages.specs.declared.head.MessageKind.{MessageKind}
use Rattle.giop_messages.specs.declared.head.MessageKind.TheVariants as kinds
use Rattle.giop_messages.specs.declared.head.Head.{Head}
use Rattle.giop_messages.specs.Heads.{flags_in, goes_on, head_in}
use Rattle.giop_messages.specs.Framing.{begun}

-- messages that may be followed by fragments
abbrev pub may_go_on : MessageKind → Bool
may_go_on kinds.Request = false
may_go_on kinds.Reply = true
may_go_on kinds.CancelRequest = false
may_go_on kinds.LocateRequest = false
may_go_on kinds.LocateReply = true
may_go_on kinds.CloseConnection = false
may_go_on kinds.MessageError = false
may_go_on kinds.Fragment = true

-- the message as if nothing followed: without bit 1 of the flags
abbrev pub alone : List ℕ → List ℕ
alone message = if goes_on (flags_in message) then begun message else message

-- a head that is followed by fragments
abbrev pub followed : Result Head FramingFault → Result Head FramingFault
followed (Err fault) = Err fault
followed (Ok head) =
    if may_go_on head.kind then Ok (record { kind = head.kind; order = head.order; goes_on = true; size = head.size })
    else Err BadHead

-- What the 12 octets at the front say to a client.
abbrev pub reply_head : List ℕ → Result Head FramingFault
reply_head octets = if goes_on (flags_in octets) then followed (head_in (begun octets)) else head_in octets
