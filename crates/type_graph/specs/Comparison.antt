-- What is said of relations between a tape and octets: where two relate the same, where their octets end, and that only
-- the position modulo 8 matters. Proofs and the checker speak of these; what values are in CDR doesn't need them.
use Rattle.std.specs.Prelude.{◌≡◌, ℕ, ◌+◌, ◌%◌, List, length}
use Rattle.type_graph.specs.Relation.{Relation}

-- a set of positions, and the set of all
abbrev pub Positions : Type 1
Positions = ℕ → Type 0

abbrev pub Anywhere : Positions
Anywhere p = Unit {0}

-- at the positions of the set the two relate the same
pub record Same (S : Positions) (R Q : Relation) : Type 0 where
  pub to : (p : ℕ) (tape octets : List ℕ) → S p → R p tape octets → Q p tape octets
  pub from : (p : ℕ) (tape octets : List ℕ) → S p → Q p tape octets → R p tape octets

-- from a position of the first set the octets end at one of the second
pub record Ends (S X : Positions) (R : Relation) : Type 0 where
  pub at : (p : ℕ) (tape octets : List ℕ) → S p → R p tape octets → X (p + length octets)

-- what the first relates at a position, the second relates at each position that differs by a multiple of 8
pub record Moves (R Q : Relation) : Type 0 where
  pub at : (p q : ℕ) (tape octets : List ℕ) → q % 8 ≡ p % 8 → R p tape octets → Q q tape octets
