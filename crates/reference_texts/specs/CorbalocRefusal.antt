-- What a fault says.
use Rattle.std.specs.Prelude.{Bool, true, false}
use Rattle.reference_texts.specs.declared.corbaloc.fault.CorbalocFault.{CorbalocFault}
use Rattle.reference_texts.specs.declared.corbaloc.fault.CorbalocFault.TheVariants.{NoMemory}

-- whether memory was wanted
abbrev pub wants_memory : CorbalocFault → Bool
wants_memory NoMemory = true
wants_memory fault = false
