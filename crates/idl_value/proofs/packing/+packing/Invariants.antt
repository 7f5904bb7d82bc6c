use Rattle.std.proofs.Common.{◌≡◌, ℕ, ◌++◌, drop}
use Rattle.type_graph.specs.Value.{FitAll, tapes_of}
use Rattle.idl_value.specs.View.{trees_of}
use Rattle.idl_value.specs.inner.PartList.{numbers_of, AreWithin}
use Rattle.idl_value.proofs.packing.+packing.Given as goal

abbrev pub invariant-push_values-loop-value : goal.invariant-push_values-loop-value
invariant-push_values-loop-value l =
    AreWithin l.graph (numbers_of l.fn.parts) → AreWithin l.graph (numbers_of l.left)
    × ((depth : ℕ) → FitAll l.graph (numbers_of l.fn.parts) (trees_of l.values) depth
    → FitAll l.graph (numbers_of l.left) (trees_of (drop l.value-index l.values)) depth
    × (l.tape.items ++ tapes_of l.graph (numbers_of l.left) (trees_of (drop l.value-index l.values))
    ≡ l.fn.tape.items ++ tapes_of l.graph (numbers_of l.fn.parts) (trees_of l.values)))
