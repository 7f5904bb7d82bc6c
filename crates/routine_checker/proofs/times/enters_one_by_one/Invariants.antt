use Rattle.std.proofs.Common.{◌≡◌, ◌-◌}
use Rattle.routine_checker.specs.Steps.{enters_times}
use Rattle.routine_checker.proofs.times.enters_one_by_one.Given as goal

abbrev pub invariant-loop-time : goal.invariant-loop-time
invariant-loop-time l = enters_times (l.n - l.time) l.entry l.exits l.starts ≡ enters_times l.n l.entry l.exits l.places
