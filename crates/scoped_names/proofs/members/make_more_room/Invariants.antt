use Rattle.std.proofs.Common.{◌≡◌, ◌+◌, ◌-◌, ℕ, length}
use Rattle.scoped_names.specs.inner.StateKept.{places_at}
use Rattle.scoped_names.proofs.members.make_more_room.Given as goal

abbrev pub invariant-loop-alloc : goal.invariant-loop-alloc
invariant-loop-alloc l = (s : ℕ) → places_at l.many.items s ≡ places_at l.fn.many.items s

abbrev pub decreases-loop-alloc : goal.decreases-loop-alloc
decreases-loop-alloc l = l.scope.0 + 1 - length l.many.items
