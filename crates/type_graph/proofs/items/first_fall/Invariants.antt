use Rattle.std.proofs.Common.{◌<◌, ◌<ℤ◌, ℕ, suc}
use Rattle.type_graph.specs.GraphRules.{label_at}
use Rattle.type_graph.proofs.items.first_fall.Given as goal

abbrev pub invariant-loop-next : goal.invariant-loop-next
invariant-loop-next l = (place : ℕ) → suc place < l.next → label_at l.arms place <ℤ label_at l.arms (suc place)
