use Rattle.std.proofs.Common.{◌≡◌, ◌<◌, ℕ, List, length, slice_index_or}
use Rattle.type_graph.specs.declared.node.Node.{Node}
use Rattle.type_graph.specs.Value.{node_at}
use Rattle.type_graph.specs.Leaves.{leaves_by}
use Rattle.type_graph.specs.inner.Shapes.{IsShape, AreShapes, size_by, octet_shape}
use Rattle.type_graph.proofs.shape.shapes_above.Given as goal

abbrev pub invariant-loop-node : goal.invariant-loop-node
invariant-loop-node l = record {
  long : length l.next.items ≡ l.node-index;
  at : (leaves : ℕ → List Node) (size : ℕ → ℕ) → AreShapes l.table leaves size → (number : ℕ) → number < l.node-index
      → IsShape (leaves_by leaves (node_at l.nodes number)) (size_by size l.nodes (node_at l.nodes number))
      (slice_index_or l.next.items number octet_shape);
}
