use Rattle.std.proofs.Common.{◌≡◌, ◌+◌, ◌-◌, ℕ, length}
use Rattle.name_table.specs.inner.Records.{words_at}
use Rattle.name_table.proofs.table.make_room.Given as goal

abbrev pub invariant-loop-alloc : goal.invariant-loop-alloc
invariant-loop-alloc l = (s : ℕ) → words_at l.words.items s ≡ words_at l.fn.words.items s

abbrev pub decreases-loop-alloc : goal.decreases-loop-alloc
decreases-loop-alloc l = l.scope.0 + 1 - length l.words.items
