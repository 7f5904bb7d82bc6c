-- Tables of heights: of all nodes, and of those that are known already.
use Rattle.std.specs.Prelude.{◌≡◌, ℕ, ◌<◌, Option, Some, None, List, length, slice_get, slice_index_or, IfSome}
use Rattle.type_graph.specs.declared.node.Node.{Node}
use Rattle.type_graph.specs.Walks.{height_of}

-- each node's height at its number
pub record AreHeights (graph : List Node) (heights : List ℕ) : Type 0 where
  pub long : length heights ≡ length graph
  pub each : (number : ℕ) → number < length graph → slice_get heights number ≡ Some (height_of graph number)

-- what a table has at a number is the height of that node
abbrev pub AreKnown : List Node → List (Option ℕ) → Type 0
AreKnown graph known =
    (number : ℕ) → IfSome (slice_index_or known number None) (λ height. height ≡ height_of graph number)
