-- How a piece of a tape and octets at a position may be related, and how such relations are joined. The position of
-- the octets counts from the start of the message or encapsulation. A tape is the form in which values travel inside
-- the product: numbers in big order, without gaps.
use Rattle.std.specs.Prelude.{◌≡◌, ℕ, zero, suc, ◌+◌, List, [], ◌∷◌, ◌++◌, length}

-- position, piece of the tape, octets
abbrev pub Relation : Type 1
Relation = ℕ → List ℕ → List ℕ → Type 0

pub record Never (p : ℕ) (tape octets : List ℕ) : Type 0 where
  pub impossible : ⊥

pub record Nothing (p : ℕ) (tape octets : List ℕ) : Type 0 where
  pub no_tape : tape ≡ []
  pub no_octets : octets ≡ []

-- the one behind the other: both lists are cut in two, and the second stands where the octets of the first end
pub record Then (R Q : Relation) (p : ℕ) (tape octets : List ℕ) : Type 0 where
  pub tape1 : List ℕ
  pub tape2 : List ℕ
  pub octets1 : List ℕ
  pub octets2 : List ℕ
  pub tape_is : tape ≡ tape1 ++ tape2
  pub octets_is : octets ≡ octets1 ++ octets2
  pub first : R p tape1 octets1
  pub second : Q (p + length octets1) tape2 octets2

-- n times, one behind the other
abbrev pub Many : ℕ → Relation → Relation
Many zero R = Nothing
Many (suc n) R = Then R (Many n R)

-- one for each of a list, one behind the other
abbrev pub Chain : {A : Type 0} → (A → Relation) → List A → Relation
Chain R [] = Nothing
Chain R (a ∷ more) = Then (R a) (Chain R more)
