use Rattle.std.proofs.Common.{ℕ, List, take, sum_by}
use Rattle.std.specs.List.{flat_map}
use Rattle.type_graph.specs.declared.node.Node.{Node}
use Rattle.type_graph.specs.inner.Shapes.{IsShape, AreShapes}
use Rattle.type_graph.proofs.shape.shape_of_members.Given as goal

abbrev pub invariant-loop-number : goal.invariant-loop-number
invariant-loop-number l = (leaves : ℕ → List Node) (size : ℕ → ℕ) → AreShapes l.table leaves size
    → IsShape (flat_map leaves (take l.number-index l.members)) (sum_by size (take l.number-index l.members)) l.shape
