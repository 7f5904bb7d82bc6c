use Rattle.std.proofs.Common.{◌≡◌, ◌+◌, ◌*◌, max, drop}
use Rattle.type_graph.specs.GraphRules.{held_by}
use Rattle.type_graph.specs.Walks.{above, height_of}
use Rattle.type_graph.specs.Heights.{AreKnown}
use Rattle.type_graph.proofs.heights.+heights.Given as goal

abbrev pub decreases-find_height : goal.decreases-find_height
decreases-find_height l = 2 * height_of l.graph.now l.number + 1

abbrev pub decreases-height_above : goal.decreases-height_above
decreases-height_above l = 2 * above (height_of l.graph.now) (held_by l.node.now)

-- the height so far and what is left give the height
abbrev pub invariant-height_above-loop-place : goal.invariant-height_above-loop-place
invariant-height_above-loop-place l =
    AreKnown l.graph l.fn.known → AreKnown l.graph l.known
    × (max l.height (above (height_of l.graph) (drop l.place (held_by l.node)))
    ≡ above (height_of l.graph) (held_by l.node))
