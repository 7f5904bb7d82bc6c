-- What headers, bodies and profiles hold: values of the types of GIOP, with their octets at a position.
use Rattle.std.specs.Prelude.{ℕ, pos, List, [], ◌∷◌}
use Rattle.type_graph.specs.Words.{Format}
use Rattle.type_graph.specs.Value.{Tree, Number, Items, Trees, NoTree, AndTree, node_at, Fits}
use Rattle.type_graph.specs.Encoding.{Encodes}
use Rattle.giop_types.specs.GiopNodes.{giop_nodes}

-- The octets at position p are those of a value of the node, in which at most 64 sequences stand one inside another.
pub record Holds (format : Format) (node p : ℕ) (value : Tree) (octets : List ℕ) : Type 0 where
  pub fits : Fits giop_nodes (node_at giop_nodes node) value 64
  pub encodes : Encodes format giop_nodes (node_at giop_nodes node) value p octets

-- ---- values

abbrev pub number_tree : ℕ → Tree
number_tree n = Number (pos n)

abbrev pub trees : List Tree → Trees
trees [] = NoTree
trees (value ∷ more) = AndTree value (trees more)

-- the members in order
abbrev pub struct_tree : List Tree → Tree
struct_tree members = Items (trees members)

abbrev pub octet_trees : List ℕ → Trees
octet_trees [] = NoTree
octet_trees (octet ∷ more) = AndTree (number_tree octet) (octet_trees more)

-- a sequence of octets
abbrev pub octets_tree : List ℕ → Tree
octets_tree octets = Items (octet_trees octets)

-- a tag with its octets (IOP: TaggedProfile, TaggedComponent, ServiceContext)
abbrev pub tagged_tree : ℕ × List ℕ → Tree
tagged_tree one = struct_tree (number_tree one.0 ∷ octets_tree one.1 ∷ [])

abbrev pub tagged_trees : List (ℕ × List ℕ) → Trees
tagged_trees [] = NoTree
tagged_trees (one ∷ more) = AndTree (tagged_tree one) (tagged_trees more)

-- a sequence of them
abbrev pub tagged_list_tree : List (ℕ × List ℕ) → Tree
tagged_list_tree all = Items (tagged_trees all)
