use Rattle.std.proofs.Common.{◌≡◌, slice_index_or}
use Rattle.routine_checker.specs.Sets.{from_places}
use Rattle.routine_checker.proofs.sets.left.Given as goal

abbrev pub invariant-loop-place : goal.invariant-loop-place
invariant-loop-place l = l.ends ≡ from_places l.place l.set (λ p. slice_index_or l.exits p 0)
