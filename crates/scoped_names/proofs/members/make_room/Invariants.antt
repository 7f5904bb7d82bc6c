use Rattle.std.proofs.Common.{◌≡◌, ◌+◌, ◌-◌, ℕ, length}
use Rattle.scoped_names.specs.inner.StateKept.{leaves_at}
use Rattle.scoped_names.proofs.members.make_room.Given as goal

abbrev pub invariant-loop-alloc : goal.invariant-loop-alloc
invariant-loop-alloc l = (s : ℕ) → leaves_at l.few.items s ≡ leaves_at l.fn.few.items s

abbrev pub decreases-loop-alloc : goal.decreases-loop-alloc
decreases-loop-alloc l = l.scope.0 + 1 - length l.few.items
