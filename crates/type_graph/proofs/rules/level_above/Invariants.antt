use Rattle.std.proofs.Common.{◌≡◌, ◌<◌, ◌↔◌, ℕ, length, All}
use Rattle.type_graph.specs.GraphRules.{held_by}
use Rattle.type_graph.specs.Value.{node_at}
use Rattle.type_graph.specs.inner.Levels.{IsIn}
use Rattle.type_graph.proofs.rules.level_above.Given as goal

abbrev pub invariant-loop-node : goal.invariant-loop-node
invariant-loop-node l = record {
  long : length l.next.items ≡ l.node-index;
  above : (number : ℕ) → number < l.node-index → IsIn l.next.items number
      ↔ All (IsIn l.table) (held_by (node_at l.nodes number));
}
