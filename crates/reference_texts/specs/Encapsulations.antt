-- Values in encapsulations (ISO/IEC 19500-2, CDR: encapsulation). The first octet, at position 0, tells the byte order.
use Rattle.std.specs.Prelude.{◌≡◌, ℕ, suc, List, [], ◌∷◌, ◌++◌, nat_eq, if◌then◌else◌}
use Rattle.type_graph.specs.declared.width.Order.{Order}
use Rattle.type_graph.specs.declared.width.Order.TheVariants.{Big, Little}
use Rattle.type_graph.specs.Words.{reading, writing}
use Rattle.type_graph.specs.Value.{Tree, node_at, tape_of}
use Rattle.giop_types.specs.GiopNodes.{giop_nodes}
use Rattle.giop_types.specs.Fields.{Holds}

abbrev pub flag_of : Order → ℕ
flag_of Big = 0
flag_of Little = 1

-- what is read: whatever stands in the gaps, and any octets behind the value (own)
pub record Encapsulates (node : ℕ) (value : Tree) (octets : List ℕ) : Type 0 where
  pub order : Order
  pub body : List ℕ
  pub rest : List ℕ
  pub octets_are : octets ≡ flag_of order ∷ body ++ rest
  pub holds : Holds (reading order) node 1 value body

-- what is written: in big order, and nothing behind the value (own)
pub record IsWritten (node : ℕ) (value : Tree) (octets : List ℕ) : Type 0 where
  pub body : List ℕ
  pub octets_are : octets ≡ flag_of Big ∷ body
  pub holds : Holds (writing Big) node 1 value body

-- where the second list has another element than the first: the place, counted from a number on, and the element
abbrev pub differences : ℕ → List ℕ → List ℕ → List (ℕ × ℕ)
differences at [] ys = []
differences at (x ∷ xs) [] = []
differences at (x ∷ xs) (y ∷ ys) =
    if nat_eq x y then differences (suc at) xs ys else (at, y) ∷ differences (suc at) xs ys

-- what an encapsulation has beside its value: the byte order; the octets of gaps that aren't zero, each with its place
-- in the encapsulation; the octets behind the value
pub record Manner : Type 0 where
  pub order : Order
  pub gaps : List (ℕ × ℕ)
  pub behind : List ℕ

-- what is read, octet by octet: the flag, the value with zeros in its gaps but for those that are told, the octets
-- behind
pub record EncapsulatesSo (node : ℕ) (value : Tree) (manner : Manner) (octets : List ℕ) : Type 0 where
  pub front : List ℕ
  pub octets_are : octets ≡ flag_of manner.order ∷ front ++ manner.behind
  pub holds : Holds (reading manner.order) node 1 value front
  pub clean : List ℕ
  pub clean_holds : Holds (writing manner.order) node 1 value clean
  pub gaps_are : manner.gaps ≡ differences 1 clean front

-- so it says some value
pub record IsSo (node : ℕ) (manner : Manner) (octets : List ℕ) : Type 0 where
  pub value : Tree
  pub is : EncapsulatesSo node value manner octets

-- what is read, by its tape
pub record HasTape (node : ℕ) (octets tape : List ℕ) : Type 0 where
  pub value : Tree
  pub encapsulated : Encapsulates node value octets
  pub tape_is : tape ≡ tape_of giop_nodes (node_at giop_nodes node) value

-- what is written, by its tape
pub record IsOfTape (node : ℕ) (tape octets : List ℕ) : Type 0 where
  pub value : Tree
  pub written : IsWritten node value octets
  pub tape_is : tape ≡ tape_of giop_nodes (node_at giop_nodes node) value
