use Rattle.std.proofs.Common.{◌≡◌, None}
use Rattle.routine_checker.specs.Steps.{entries_fault}
use Rattle.routine_checker.proofs.check.check_routine.Given as goal

abbrev pub invariant-loop-entry : goal.invariant-loop-entry
invariant-loop-entry l = entries_fault l.graph l.program l.at l.routine l.entry ≡ None
