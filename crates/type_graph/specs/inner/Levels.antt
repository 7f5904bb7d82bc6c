-- Tables of the nodes that are shallow: true at the numbers of those.
use Rattle.std.specs.Prelude.{◌≡◌, ℕ, ◌↔◌, Bool, true, false, List, length, slice_index_or, EachIndex, All}
use Rattle.type_graph.specs.declared.node.Node.{Node}
use Rattle.type_graph.specs.Value.{node_at}
use Rattle.type_graph.specs.GraphRules.{held_by, IsShallow}

abbrev pub IsIn : List Bool → ℕ → Type 0
IsIn table number = slice_index_or table number false ≡ true

-- the table of those whose parts are all in another
pub record IsLevelAbove (graph : List Node) (table next : List Bool) : Type 0 where
  pub long : length next ≡ length graph
  pub above : EachIndex graph (λ number. IsIn next number ↔ All (IsIn table) (held_by (node_at graph number)))

-- the table of those that are shallow within so many levels
pub record IsLevel (levels : ℕ) (graph : List Node) (table : List Bool) : Type 0 where
  pub long : length table ≡ length graph
  pub same : EachIndex graph (λ number. IsIn table number ↔ IsShallow levels graph number)
