-- Values that are object references, by their texts.
use Rattle.std.specs.Prelude.{◌≡◌, ℕ, List}
use Rattle.type_graph.specs.Value.{Tree, node_at, Fits}
use Rattle.giop_types.specs.GiopNodes.{giop_nodes}
use Rattle.reference_texts.specs.References.{Reference, reference_tree}
use Rattle.reference_texts.specs.Texts.{Spells}

-- the text spells the reference that the value is
pub record Stringifies (text : List ℕ) (value : Tree) : Type 0 where
  pub reference : Reference
  pub value_is : value ≡ reference_tree reference
  pub spells : Spells text reference

-- it is an object reference, with at most so many sequences one inside another
abbrev pub FitsObject : Tree → ℕ → Type 0
FitsObject value depth = Fits giop_nodes (node_at giop_nodes 13) value depth
