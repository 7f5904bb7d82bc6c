-- What is put behind the tape of a header.
use Rattle.std.specs.Prelude.{◌≡◌, ℕ, List, ◌++◌}
use Rattle.type_graph.specs.Value.{Tree, Fits, node_at, tape_of}
use Rattle.giop_types.specs.GiopNodes.{giop_nodes, target_address_node}

-- a value of the node of targets
abbrev pub FitsAsTarget : Tree → Type 0
FitsAsTarget value = Fits giop_nodes (node_at giop_nodes target_address_node) value 64

-- the target, behind the tape so far
pub record PushesTarget (value : Tree) (before after : List ℕ) : Type 0 where
  pub fits : FitsAsTarget value
  pub tape_is : after ≡ before ++ tape_of giop_nodes (node_at giop_nodes target_address_node) value
