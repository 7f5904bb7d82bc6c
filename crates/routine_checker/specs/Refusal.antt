-- What a fault of the checker says.
use Rattle.std.specs.Prelude.{Bool, true, false}
use Rattle.routine_checker.specs.declared.fault.CheckFault.{CheckFault}
use Rattle.routine_checker.specs.declared.fault.CheckFault.TheVariants as faults

-- whether memory was wanted
abbrev pub wants_memory : CheckFault → Bool
wants_memory faults.NoMemory = true
wants_memory fault = false
