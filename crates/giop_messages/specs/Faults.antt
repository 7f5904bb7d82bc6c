-- What faults say.
use Rattle.std.specs.Prelude.{◌≡◌}
use Rattle.giop_messages.specs.declared.fault.FramingFault.{FramingFault}
use Rattle.giop_messages.specs.declared.fault.FramingFault.TheVariants as framing
use Rattle.giop_messages.specs.declared.fault.GiopFault.{GiopFault}
use Rattle.giop_messages.specs.declared.fault.GiopFault.TheVariants as faults

-- the fault of a stream's front is one of messages
abbrev pub framing_as : FramingFault → GiopFault
framing_as framing.NotGiop = faults.NotGiop
framing_as framing.Version = faults.Version
framing_as framing.TooLong = faults.TooLong
framing_as framing.BadHead = faults.BadHead
framing_as framing.BadFragment = faults.BadFragment

-- want of memory is the cause; or it is this fault, and the fact holds
abbrev pub IsMemoryOr : GiopFault → GiopFault → Type 0 → Type 0
IsMemoryOr wanted faults.NoMemory fact = Unit {0}
IsMemoryOr wanted fault fact = (fault ≡ wanted) × fact
