use Rattle.std.proofs.Common.{◌≡◌, ◌+◌, ◌-◌, ℕ, length}
use Rattle.name_table.specs.inner.Shortcuts.{way_at}
use Rattle.name_table.proofs.shortcuts.keep_way.Given as goal

abbrev pub invariant-loop-ways : goal.invariant-loop-ways
invariant-loop-ways l = (q : ℕ) → way_at l.ways.items q ≡ way_at l.fn.ways.items q

abbrev pub decreases-loop-ways : goal.decreases-loop-ways
decreases-loop-ways l = l.scope.0 + 1 - length l.ways.items
