use Rattle.type_graph.specs.inner.Shapes.{AreShapesWithin}
use Rattle.type_graph.proofs.shape.shapes_of.Given as goal

abbrev pub invariant-loop : goal.invariant-loop
invariant-loop l = AreShapesWithin l.counter l.nodes l.table.items
