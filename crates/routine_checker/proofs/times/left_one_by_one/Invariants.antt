use Rattle.std.proofs.Common.{◌≡◌, ◌-◌}
use Rattle.routine_checker.specs.Steps.{times_left}
use Rattle.routine_checker.proofs.times.left_one_by_one.Given as goal

abbrev pub invariant-loop-time : goal.invariant-loop-time
invariant-loop-time l = times_left (l.n - l.time) l.exits l.ends ≡ times_left l.n l.exits l.places
