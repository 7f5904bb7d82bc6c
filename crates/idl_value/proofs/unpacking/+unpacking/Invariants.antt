use Rattle.std.proofs.Common.{ℕ, ◌+◌, ◌*◌, ◌≤◌, List, length}
use Rattle.type_graph.specs.declared.node.Node.TheVariants.{Union}
use Rattle.type_graph.specs.Value.{Trees}
use Rattle.type_graph.specs.GraphRules.{held_by, IsGraph}
use Rattle.type_graph.specs.Walks.{above}
use Rattle.idl_value.specs.inner.PartList.{numbers_of, AreWithin}
use Rattle.idl_value.specs.inner.Unpacking.{BeginsAll}
use Rattle.type_graph.specs.Walks.{height_of}
use Rattle.idl_value.proofs.UnpackLaws.{joined}
use Rattle.idl_value.proofs.unpacking.+unpacking.Given as goal

-- A sequence takes one of the depth, and everything else goes down in the graph.
abbrev pub decreases-read_value : goal.decreases-read_value
decreases-read_value l = 4 * (66 * l.depth + height_of l.graph.now l.number) + 3

abbrev pub decreases-read_sequence : goal.decreases-read_sequence
decreases-read_sequence l = 4 * (66 * l.depth)

abbrev pub decreases-read_items : goal.decreases-read_items
decreases-read_items l = 4 * (66 * l.depth + above (height_of l.graph.now) (numbers_of l.parts)) + 2

abbrev pub decreases-read_values : goal.decreases-read_values
decreases-read_values l = 4 * (66 * l.depth + above (height_of l.graph.now) (numbers_of l.parts)) + 1

abbrev pub decreases-read_choice : goal.decreases-read_choice
decreases-read_choice l =
    4 * (66 * l.depth + above (height_of l.graph.now) (held_by (Union l.switch l.arms.now l.default))) + 2

abbrev pub invariant-read_values-loop-number : goal.invariant-read_values-loop-number
invariant-read_values-loop-number l =
    (above (height_of l.graph) (numbers_of l.left) ≤ above (height_of l.graph) (numbers_of l.fn.parts))
    × (IsGraph l.graph → AreWithin l.graph (numbers_of l.fn.parts) → AreWithin l.graph (numbers_of l.left)
    × ((values : Trees) (more : List ℕ) → BeginsAll l.graph (numbers_of l.left) l.depth l.rest values more
    → BeginsAll l.graph (numbers_of l.fn.parts) l.depth l.fn.tape (joined l.values.items values) more)
    × ((values : Trees) (more : List ℕ) → BeginsAll l.graph (numbers_of l.fn.parts) l.depth l.fn.tape values more
    → (others : Trees) × BeginsAll l.graph (numbers_of l.left) l.depth l.rest others more))

abbrev pub decreases-read_values-loop-number : goal.decreases-read_values-loop-number
decreases-read_values-loop-number l = length (numbers_of l.left)
