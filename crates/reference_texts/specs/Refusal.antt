-- What a fault says, and what faults of other calls are here.
use Rattle.std.specs.Prelude.{Bool, true, false}
use Rattle.program_steps.specs.declared.fault.RunFault.{RunFault}
use Rattle.program_steps.specs.declared.fault.RunFault.TheVariants as runs
use Rattle.giop_types.specs.declared.tapes.fault.TapeFault.{TapeFault}
use Rattle.giop_types.specs.declared.tapes.fault.TapeFault.TheVariants as tapes
use Rattle.reference_texts.specs.declared.fault.ReferenceFault.{ReferenceFault}
use Rattle.reference_texts.specs.declared.fault.ReferenceFault.TheVariants.{BadIor, NoMemory}

-- whether memory was wanted
abbrev pub wants_memory : ReferenceFault → Bool
wants_memory NoMemory = true
wants_memory fault = false

abbrev pub of_run : RunFault → ReferenceFault
of_run runs.NoMemory = NoMemory
of_run fault = BadIor

abbrev pub of_tape : TapeFault → ReferenceFault
of_tape tapes.NoMemory = NoMemory
of_tape fault = BadIor
