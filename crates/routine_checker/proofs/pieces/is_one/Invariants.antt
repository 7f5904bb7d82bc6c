use Rattle.std.proofs.Common.{◌≡◌, ◌-◌}
use Rattle.routine_checker.specs.inner.Kinds.{is_of}
use Rattle.routine_checker.specs.Taking.{is_one}
use Rattle.routine_checker.proofs.pieces.is_one.Given as goal

abbrev pub invariant-loop-level : goal.invariant-loop-level
invariant-loop-level l = is_one (64 - l.level) (is_of l.kind) l.nodes l.at ≡ is_one 64 (is_of l.kind) l.nodes l.number
