-- The values and tapes of the parts of which headers and profiles are made.
use Rattle.std.proofs.Common.{◌≡◌, ℕ, suc, ◌-◌, ◌^◌, ◌<◌, pos, negsuc, List, [], ◌∷◌, ◌++◌, length, replicate, refl, sym, ap, ap₂, ◌∙◌, subst, append-nil, arith}
use Rattle.std.specs.List.{AllByRecursion}
use Rattle.type_graph.specs.declared.width.Width.TheVariants.{Four}
use Rattle.type_graph.specs.declared.width.Order.TheVariants.{Big}
use Rattle.type_graph.specs.declared.node.Node.TheVariants.{Struct}
use Rattle.type_graph.specs.Words.{AllBelow, word}
use Rattle.type_graph.specs.Value.{Tree, Number, Bytes, Items, Choice, Trees, NoTree, AndTree, count, node_at, Fits, FitAll, IsText, tape_of, tapes_of}
use Rattle.type_graph.proofs.WordLaws.{plain_word_one}
use Rattle.giop_types.specs.TapeParts.{counted, IsCounted, tagged, IsTagged, tagged_each, tagged_list, AreTagged}
use Rattle.giop_types.specs.GiopNodes.{giop_nodes}
use Rattle.giop_types.specs.Fields.{number_tree, octet_trees, octets_tree, tagged_tree, tagged_trees, tagged_list_tree}

-- ---- numbers

-- an unsigned number below a limit
pub record OfNumber (limit : ℕ) (value : Tree) : Type 0 where
  pub n : ℕ
  pub is : value ≡ number_tree n
  pub below : n < limit

pub octet_shape : (value : Tree) (d : ℕ) → Fits giop_nodes (node_at giop_nodes 0) value d → OfNumber 256 value
octet_shape (Number (pos n)) d f = record { n = n; is = refl; below = f }
octet_shape (Number (negsuc n)) d f = absurd f
octet_shape (Bytes text) d f = absurd f
octet_shape (Items values) d f = absurd f
octet_shape (Choice label values) d f = absurd f

pub short_shape : (value : Tree) (d : ℕ) → Fits giop_nodes (node_at giop_nodes 4) value d → OfNumber (2 ^ 16) value
short_shape (Number (pos n)) d f = record { n = n; is = refl; below = f }
short_shape (Number (negsuc n)) d f = absurd f
short_shape (Bytes text) d f = absurd f
short_shape (Items values) d f = absurd f
short_shape (Choice label values) d f = absurd f

pub long_shape : (value : Tree) (d : ℕ) → Fits giop_nodes (node_at giop_nodes 6) value d → OfNumber (2 ^ 32) value
long_shape (Number (pos n)) d f = record { n = n; is = refl; below = f }
long_shape (Number (negsuc n)) d f = absurd f
long_shape (Bytes text) d f = absurd f
long_shape (Items values) d f = absurd f
long_shape (Choice label values) d f = absurd f

-- ---- a string

pub record OfText (value : Tree) : Type 0 where
  pub text : List ℕ
  pub is : value ≡ Bytes text
  pub fits : IsText 0 text

pub text_shape : (value : Tree) (d : ℕ) → Fits giop_nodes (node_at giop_nodes 9) value d → OfText value
text_shape (Bytes text) d f = record { text = text; is = refl; fits = f }
text_shape (Number (pos n)) d f = absurd f
text_shape (Number (negsuc n)) d f = absurd f
text_shape (Items values) d f = absurd f
text_shape (Choice label values) d f = absurd f

-- its length fits a count
pub text_counted : (text : List ℕ) → IsText 0 text → IsCounted text
text_counted text f = omega (arith, f.short)

-- ---- a structure

pub record OfStruct (members : List ℕ) (d : ℕ) (value : Tree) : Type 0 where
  pub values : Trees
  pub is : value ≡ Items values
  pub fits : FitAll giop_nodes members values d

pub struct_shape : (members : List ℕ) (value : Tree) (d : ℕ) → Fits giop_nodes (Struct members) value d
    → OfStruct members d value
struct_shape members (Items values) d f = record { values = values; is = refl; fits = f }
struct_shape members (Number (pos n)) d f = absurd f
struct_shape members (Number (negsuc n)) d f = absurd f
struct_shape members (Bytes text) d f = absurd f
struct_shape members (Choice label values) d f = absurd f

-- ---- octets

-- what fits as octets
pub record OfOctets (value : Tree) : Type 0 where
  pub octets : List ℕ
  pub is : value ≡ octets_tree octets
  pub counted : IsCounted octets
  pub below : AllBelow 256 octets

record OfEach (values : Trees) : Type 0 where
  pub octets : List ℕ
  pub is : values ≡ octet_trees octets
  pub long : length octets ≡ count values
  pub below : AllBelow 256 octets

octet_each : (values : Trees) (d : ℕ) → FitAll giop_nodes (replicate (count values) 0) values d → OfEach values
octet_each NoTree d f = record { octets = []; is = refl; long = refl; below = tt }
octet_each (AndTree value more) d f =
    let one = octet_shape value d f.0 in
    let each = octet_each more d f.1 in
    record {
      octets = one.n ∷ each.octets;
      is = ap₂ AndTree one.is each.is;
      long = ap suc each.long;
      below = (one.below, each.below);
    }

pub octets_shape : (value : Tree) (d : ℕ) → Fits giop_nodes (node_at giop_nodes 10) value d → OfOctets value
octets_shape (Items values) d f =
    let each = octet_each values (d - 1) f.2 in
    record {
      octets = each.octets;
      is = ap Items each.is;
      counted = omega (arith, each.long, f.1.short);
      below = each.below;
    }
octets_shape (Number (pos n)) d f = absurd f
octets_shape (Number (negsuc n)) d f = absurd f
octets_shape (Bytes text) d f = absurd f
octets_shape (Choice label values) d f = absurd f

pub count_octets : (octets : List ℕ) → count (octet_trees octets) ≡ length octets
count_octets [] = refl
count_octets (octet ∷ more) = ap suc (count_octets more)

octet_tapes : (octets : List ℕ) → AllBelow 256 octets
    → tapes_of giop_nodes (replicate (count (octet_trees octets)) 0) (octet_trees octets) ≡ octets
octet_tapes [] below = refl
octet_tapes (octet ∷ more) below =
    ap₂ (λ (l k : List ℕ). l ++ k) (plain_word_one Big octet below.0) (octet_tapes more below.1)

pub octets_tape : (octets : List ℕ) → AllBelow 256 octets
    → tape_of giop_nodes (node_at giop_nodes 10) (octets_tree octets) ≡ counted octets
octets_tape octets below =
    ap₂ (λ (n : ℕ) (l : List ℕ). word Big Four (pos n) ++ l) (count_octets octets) (octet_tapes octets below)

below_each : (octets : List ℕ) (d : ℕ)
    → FitAll giop_nodes (replicate (count (octet_trees octets)) 0) (octet_trees octets) d → AllBelow 256 octets
below_each [] d f = tt
below_each (octet ∷ more) d f = (f.0, below_each more d f.1)

-- what octets fit says of them
pub octets_below : (octets : List ℕ) (d : ℕ) → Fits giop_nodes (node_at giop_nodes 10) (octets_tree octets) d
    → AllBelow 256 octets
octets_below octets d f = below_each octets (d - 1) f.2

pub octets_counted : (octets : List ℕ) (d : ℕ) → Fits giop_nodes (node_at giop_nodes 10) (octets_tree octets) d
    → IsCounted octets
octets_counted octets d f = omega (arith, f.1.short, count_octets octets)

-- ---- a tag with octets

abbrev pub IsBelow : ℕ × List ℕ → Type 0
IsBelow one = AllBelow 256 one.1

pub record OfTagged (value : Tree) : Type 0 where
  pub one : ℕ × List ℕ
  pub is : value ≡ tagged_tree one
  pub fits : IsTagged one
  pub below : IsBelow one

tagged_members : (values : Trees) (d : ℕ) → FitAll giop_nodes (6 ∷ 10 ∷ []) values d → OfTagged (Items values)
tagged_members (AndTree tag (AndTree octets NoTree)) d f =
    let number = long_shape tag d f.0 in
    let data_ = octets_shape octets d f.1.0 in
    record {
      one = (number.n, data_.octets);
      is = ap₂ (λ (a b : Tree). Items (AndTree a (AndTree b NoTree))) number.is data_.is;
      fits = record { tag = number.below; octets = data_.counted };
      below = data_.below;
    }
tagged_members (AndTree tag (AndTree octets (AndTree more values))) d f = absurd f.1.1
tagged_members (AndTree tag NoTree) d f = absurd f.1
tagged_members NoTree d f = absurd f

pub tagged_shape : (value : Tree) (d : ℕ) → Fits giop_nodes (node_at giop_nodes 11) value d → OfTagged value
tagged_shape value d f =
    let struct = struct_shape (6 ∷ 10 ∷ []) value d f in
    subst OfTagged (sym struct.is) (tagged_members struct.values d struct.fits)

pub tagged_tape : (one : ℕ × List ℕ) → IsBelow one → tape_of giop_nodes (node_at giop_nodes 11) (tagged_tree one)
    ≡ tagged one
tagged_tape one below =
    ap (λ l. word Big Four (pos one.0) ++ l)
    (append-nil (tape_of giop_nodes (node_at giop_nodes 10) (octets_tree one.1)) ∙ octets_tape one.1 below)

-- what a tag with octets fits says of them
pub tagged_below : (one : ℕ × List ℕ) (d : ℕ) → Fits giop_nodes (node_at giop_nodes 11) (tagged_tree one) d
    → IsBelow one
tagged_below one d f = octets_below one.1 d f.1.0

pub tagged_fits : (one : ℕ × List ℕ) (d : ℕ) → Fits giop_nodes (node_at giop_nodes 11) (tagged_tree one) d
    → IsTagged one
tagged_fits one d f = record { tag = f.0; octets = octets_counted one.1 d f.1.0 }

-- ---- a sequence of them

abbrev pub AreBelow : List (ℕ × List ℕ) → Type 0
AreBelow = AllByRecursion IsBelow

pub record OfList (value : Tree) : Type 0 where
  pub all : List (ℕ × List ℕ)
  pub is : value ≡ tagged_list_tree all
  pub fits : AreTagged all
  pub below : AreBelow all

record OfAll (values : Trees) : Type 0 where
  pub all : List (ℕ × List ℕ)
  pub is : values ≡ tagged_trees all
  pub long : length all ≡ count values
  pub each : AllByRecursion IsTagged all
  pub below : AreBelow all

tagged_each_shape : (values : Trees) (d : ℕ) → FitAll giop_nodes (replicate (count values) 11) values d → OfAll values
tagged_each_shape NoTree d f = record { all = []; is = refl; long = refl; each = tt; below = tt }
tagged_each_shape (AndTree value more) d f =
    let one = tagged_shape value d f.0 in
    let rest = tagged_each_shape more d f.1 in
    record {
      all = one.one ∷ rest.all;
      is = ap₂ AndTree one.is rest.is;
      long = ap suc rest.long;
      each = (one.fits, rest.each);
      below = (one.below, rest.below);
    }

pub tagged_list_shape : (value : Tree) (d : ℕ) → Fits giop_nodes (node_at giop_nodes 12) value d → OfList value
tagged_list_shape (Items values) d f =
    let each = tagged_each_shape values (d - 1) f.2 in
    record {
      all = each.all;
      is = ap Items each.is;
      fits = record { short = omega (arith, each.long, f.1.short); each = each.each };
      below = each.below;
    }
tagged_list_shape (Number (pos n)) d f = absurd f
tagged_list_shape (Number (negsuc n)) d f = absurd f
tagged_list_shape (Bytes text) d f = absurd f
tagged_list_shape (Choice label values) d f = absurd f

pub count_tagged : (all : List (ℕ × List ℕ)) → count (tagged_trees all) ≡ length all
count_tagged [] = refl
count_tagged (one ∷ more) = ap suc (count_tagged more)

tagged_tapes : (all : List (ℕ × List ℕ)) → AreBelow all
    → tapes_of giop_nodes (replicate (count (tagged_trees all)) 11) (tagged_trees all) ≡ tagged_each all
tagged_tapes [] below = refl
tagged_tapes (one ∷ more) below =
    ap₂ (λ (l k : List ℕ). l ++ k) (tagged_tape one below.0) (tagged_tapes more below.1)

pub tagged_list_tape : (all : List (ℕ × List ℕ)) → AreBelow all
    → tape_of giop_nodes (node_at giop_nodes 12) (tagged_list_tree all) ≡ tagged_list all
tagged_list_tape all below =
    ap₂ (λ (n : ℕ) (l : List ℕ). word Big Four (pos n) ++ l) (count_tagged all) (tagged_tapes all below)

all_fit : (all : List (ℕ × List ℕ)) (d : ℕ)
    → FitAll giop_nodes (replicate (count (tagged_trees all)) 11) (tagged_trees all) d
    → AreBelow all × AllByRecursion IsTagged all
all_fit [] d f = (tt, tt)
all_fit (one ∷ more) d f =
    let rest = all_fit more d f.1 in
    ((tagged_below one d f.0, rest.0), (tagged_fits one d f.0, rest.1))

-- what a sequence of them fits says of them
pub tagged_list_fits : (all : List (ℕ × List ℕ)) (d : ℕ)
    → Fits giop_nodes (node_at giop_nodes 12) (tagged_list_tree all) d
    → AreBelow all × AreTagged all
tagged_list_fits all d f =
    let each = all_fit all (d - 1) f.2 in
    (each.0, record { short = omega (arith, f.1.short, count_tagged all); each = each.1 })
