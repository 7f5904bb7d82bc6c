-- What a fault says.
use Rattle.giop_types.specs.declared.tapes.fault.TapeFault.{TapeFault}
use Rattle.giop_types.specs.declared.tapes.fault.TapeFault.TheVariants.{NotATape, TooLong, NoMemory}

-- of reading: want of memory is the cause, or there is no such tape, and then the fact holds
abbrev pub RefusesReading : TapeFault → Type 0 → Type 0
RefusesReading NoMemory fact = Unit {0}
RefusesReading NotATape fact = fact
RefusesReading TooLong fact = ⊥

-- of writing: want of memory is the cause, or there are too many octets, and then the fact holds
abbrev pub RefusesWriting : TapeFault → Type 0 → Type 0
RefusesWriting NoMemory fact = Unit {0}
RefusesWriting TooLong fact = fact
RefusesWriting NotATape fact = ⊥
