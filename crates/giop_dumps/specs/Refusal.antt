-- What a fault says.
use Rattle.std.specs.Prelude.{Bool, true, false}
use Rattle.giop_dumps.specs.declared.captures.fault.CaptureFault.{CaptureFault}
use Rattle.giop_dumps.specs.declared.captures.fault.CaptureFault.TheVariants.{NoMemory}

-- whether memory was wanted
abbrev pub wants_memory : CaptureFault → Bool
wants_memory NoMemory = true
wants_memory fault = false
