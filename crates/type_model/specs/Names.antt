-- Names with their nodes.
use Rattle.std.specs.Prelude.{◌≡◌, ◌≢◌, ◌↔◌, ℕ, ◌<◌, Bool, true, false, List, [], length, slice_index_or, map, All, AllPairs, Contains}
use Rattle.std.specs.Cmp.Lexicographic.{slice_cmp}
use Rattle.std.specs.Ordering.{nat_cmp}
use Rattle.std.specs.declared.cmp.Ordering.TheVariants.{Less}

-- no name stands twice
abbrev pub AreDistinct : List (List ℕ × ℕ) → Type 0
AreDistinct names = AllPairs (λ one other. one.0 ≢ other.0) names

-- the names of a graph of so many nodes
pub record AreNames (count : ℕ) (names : List (List ℕ × ℕ)) : Type 0 where
  pub distinct : AreDistinct names
  pub within : All (λ name. name.1 < count) names

-- some name has the node
abbrev pub IsNamed : List (List ℕ × ℕ) → ℕ → Type 0
IsNamed names node = Contains (map (λ name. name.1) names) node

-- true at just these numbers
abbrev pub AreMarks : List ℕ → List Bool → Type 0
AreMarks numbers marks = (number : ℕ) → (slice_index_or marks number false ≡ true) ↔ Contains numbers number

-- the name at a place
abbrev pub name_at : List (List ℕ × ℕ) → ℕ → List ℕ
name_at names place = (slice_index_or names place ([], 0)).0

-- the places of all names, in the order of their octets
pub record IsOrder (names : List (List ℕ × ℕ)) (order : List ℕ) : Type 0 where
  pub within : All (λ place. place < length names) order
  pub whole : (place : ℕ) → place < length names → Contains order place
  pub rising : AllPairs (λ one other. slice_cmp nat_cmp (name_at names one) (name_at names other) ≡ Less) order

-- what a table of names keeps
pub record IsTable (names : List (List ℕ × ℕ)) (order : List ℕ) (marks : List Bool) : Type 0 where
  pub distinct : AreDistinct names
  pub ordered : IsOrder names order
  pub marked : AreMarks (map (λ name. name.1) names) marks
