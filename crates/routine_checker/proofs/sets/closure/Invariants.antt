use Rattle.std.proofs.Common.{◌≡◌, ◌-◌}
use Rattle.routine_checker.specs.Sets.{closure}
use Rattle.routine_checker.proofs.sets.closure.Given as goal

abbrev pub invariant-loop-round : goal.invariant-loop-round
invariant-loop-round l = closure (8 - l.round) l.exits l.starts ≡ closure 8 l.exits l.set
