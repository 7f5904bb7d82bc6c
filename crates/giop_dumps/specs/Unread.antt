-- Why octets of a capture can't be read.
use Rattle.giop_messages.specs.declared.fault.FramingFault.{FramingFault}
use Rattle.giop_messages.specs.declared.fault.FramingFault.TheVariants as framing
use Rattle.giop_dumps.specs.declared.unread.Unread.{Unread}
use Rattle.giop_dumps.specs.declared.unread.Unread.TheVariants.{NotGiop, Version, TooLong, BadHead, BadFragment}

-- a fault of framing
abbrev pub unread_of : FramingFault → Unread
unread_of framing.NotGiop = NotGiop
unread_of framing.Version = Version
unread_of framing.TooLong = TooLong
unread_of framing.BadHead = BadHead
unread_of framing.BadFragment = BadFragment
