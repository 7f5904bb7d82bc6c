use Rattle.std.proofs.Common.{◌≡◌, drop}
use Rattle.routine_checker.specs.Steps.{routines_fault, program_fault}
use Rattle.routine_checker.proofs.check.check_routines.Given as goal

abbrev pub invariant-loop-number : goal.invariant-loop-number
invariant-loop-number l = program_fault l.which l.graph l.program
    ≡ routines_fault l.which l.graph l.program l.number (drop l.number l.program)
