-- What values are made of, and their tapes.
use Rattle.std.proofs.Common.{◌≡◌, ℕ, pos, negsuc, List, [], ◌∷◌, refl, ap, ◌∙◌}
use Rattle.type_graph.specs.declared.node.Node.TheVariants as nodes
use Rattle.type_graph.specs.Value.{Tree, Number, Bytes, Items, Choice, Trees, NoTree, AndTree, node_at, Fits, FitAll, tape_of}
use Rattle.giop_types.specs.GiopNodes.{giop_nodes}
use Rattle.giop_types.specs.Fields.{octets_tree, tagged_tree, tagged_list_tree}
use Rattle.giop_types.proofs.PartTrees.{OfNumber, octets_shape, octets_tape, tagged_shape, tagged_tape, tagged_list_shape, tagged_list_tape}
use Rattle.giop_types.specs.TapeParts.{counted, IsCounted, tagged, IsTagged, tagged_list, AreTagged}

-- ---- what a value is made of

-- the first of the members, and the others
pub record Peeled (number : ℕ) (numbers : List ℕ) (values : Trees) (d : ℕ) : Type 0 where
  pub value : Tree
  pub more : Trees
  pub is : values ≡ AndTree value more
  pub fits : Fits giop_nodes (node_at giop_nodes number) value d
  pub rest : FitAll giop_nodes numbers more d

pub peel : (number : ℕ) (numbers : List ℕ) (values : Trees) (d : ℕ) → FitAll giop_nodes (number ∷ numbers) values d
    → Peeled number numbers values d
peel number numbers NoTree d f = absurd f
peel number numbers (AndTree value more) d f =
    record { value = value; more = more; is = refl; fits = f.0; rest = f.1 }

pub none_left : (values : Trees) (d : ℕ) → FitAll giop_nodes [] values d → values ≡ NoTree
none_left NoTree d f = refl
none_left (AndTree value more) d f = absurd f

pub enumerator : (limit : ℕ) (value : Tree) (d : ℕ) → Fits giop_nodes (nodes.Enum limit) value d → OfNumber limit value
enumerator limit (Number (pos n)) d f = record { n = n; is = refl; below = f }
enumerator limit (Number (negsuc n)) d f = absurd f
enumerator limit (Bytes text) d f = absurd f
enumerator limit (Items values) d f = absurd f
enumerator limit (Choice label values) d f = absurd f

pub record Many (value : Tree) : Type 0 where
  pub values : Trees
  pub is : value ≡ Items values

-- a sequence
pub sequence : (elem : ℕ) (value : Tree) (d : ℕ) → Fits giop_nodes (nodes.Seq elem 0) value d → Many value
sequence elem (Number m) d f = absurd f
sequence elem (Bytes text) d f = absurd f
sequence elem (Items values) d f = record { values = values; is = refl }
sequence elem (Choice label values) d f = absurd f

-- ---- parts with their tapes

-- a sequence of octets
pub record Counted (value : Tree) : Type 0 where
  pub list : List ℕ
  pub is : value ≡ octets_tree list
  pub short : IsCounted list
  pub tape : tape_of giop_nodes (node_at giop_nodes 10) value ≡ counted list

pub counted_value : (value : Tree) (d : ℕ) → Fits giop_nodes (node_at giop_nodes 10) value d → Counted value
counted_value value d f =
    let o = octets_shape value d f in
    record {
      list = o.octets;
      is = o.is;
      short = o.counted;
      tape = ap (tape_of giop_nodes (node_at giop_nodes 10)) o.is ∙ octets_tape o.octets o.below;
    }

-- a tag with its octets
pub record Tag (value : Tree) : Type 0 where
  pub one : ℕ × List ℕ
  pub is : value ≡ tagged_tree one
  pub tagged_is : IsTagged one
  pub tape : tape_of giop_nodes (node_at giop_nodes 11) value ≡ tagged one

pub tag_value : (value : Tree) (d : ℕ) → Fits giop_nodes (node_at giop_nodes 11) value d → Tag value
tag_value value d f =
    let t = tagged_shape value d f in
    record {
      one = t.one;
      is = t.is;
      tagged_is = t.fits;
      tape = ap (tape_of giop_nodes (node_at giop_nodes 11)) t.is ∙ tagged_tape t.one t.below;
    }

-- a sequence of them
pub record TagList (value : Tree) : Type 0 where
  pub all : List (ℕ × List ℕ)
  pub is : value ≡ tagged_list_tree all
  pub are : AreTagged all
  pub tape : tape_of giop_nodes (node_at giop_nodes 12) value ≡ tagged_list all

pub tag_list : (value : Tree) (d : ℕ) → Fits giop_nodes (node_at giop_nodes 12) value d → TagList value
tag_list value d f =
    let t = tagged_list_shape value d f in
    record {
      all = t.all;
      is = t.is;
      are = t.fits;
      tape = ap (tape_of giop_nodes (node_at giop_nodes 12)) t.is ∙ tagged_list_tape t.all t.below;
    }
