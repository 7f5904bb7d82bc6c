use Rattle.std.proofs.Common.{◌↔◌, drop}
use Rattle.type_graph.specs.Value.{FitAll}
use Rattle.idl_value.specs.View.{trees_of}
use Rattle.idl_value.specs.inner.PartList.{numbers_of, AreWithin}
use Rattle.idl_value.proofs.fitting.+fitting.Given as goal

abbrev pub invariant-are_values-loop-value : goal.invariant-are_values-loop-value
invariant-are_values-loop-value l =
    AreWithin l.graph (numbers_of l.fn.parts) → AreWithin l.graph (numbers_of l.left)
    × (FitAll l.graph (numbers_of l.left) (trees_of (drop l.value-index l.values)) l.depth
    ↔ FitAll l.graph (numbers_of l.fn.parts) (trees_of l.values) l.depth)
