-- When a tape is refused.
use Rattle.idl_value.specs.declared.fault.ValueFault.{ValueFault}
use Rattle.idl_value.specs.declared.fault.ValueFault.TheVariants.{NotOfType, NotATape, NoMemory}

-- for want of memory, or as no tape, and then the fact holds
abbrev pub RefusesTape : ValueFault → Type 0 → Type 0
RefusesTape NoMemory fact = Unit {0}
RefusesTape NotATape fact = fact
RefusesTape NotOfType fact = ⊥
