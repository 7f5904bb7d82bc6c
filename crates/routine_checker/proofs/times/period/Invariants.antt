use Rattle.std.proofs.Common.{◌≡◌}
use Rattle.routine_checker.specs.Steps.{times_left}
use Rattle.routine_checker.proofs.times.period.Given as goal

abbrev pub invariant-loop-time : goal.invariant-loop-time
invariant-loop-time l = times_left l.time l.exits l.places ≡ l.ends
