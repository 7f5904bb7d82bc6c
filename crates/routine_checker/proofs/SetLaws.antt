-- Sets of positions: what holds at their places, what they lead to.
use Rattle.std.proofs.Common.{◌≡◌, ℕ, zero, suc, ◌+◌, ◌%◌, ◌^◌, ◌<◌, max, Bool, true, false, not, ◌&&◌, ◌||◌, eqb, List, slice_index_or, if◌then◌else◌, bit_or, refl, sym, ap, subst, ◌∙◌, inl, inr, ◌⊎◌, arith}
use Rattle.std.specs.Int.{bit_at}
use Rattle.std.proofs.lemmas.Bool.{eqb-true, eq-eqb, true≢false, cases_lt, cases_eq}
use Rattle.std.proofs.lemmas.Nat.Bits.{bit_at_or, bit_at-lt, bit_at-pow_same, bit_at-pow_other, bit_at_ones}
use Rattle.type_graph.specs.declared.width.Width.{Width}
use Rattle.type_graph.specs.declared.width.Width.TheVariants.{One, Two, Four, Eight}
use Rattle.type_graph.specs.Words.{octets_in, pad}
use Rattle.routine_checker.specs.Sets.{has, Among, at_places, each_place, from_places, gathered, is_within, moved, left, gaps_agree, gaps_serve}

-- both hold
pub both : (a b : Bool) → (a && b) ≡ true → (a ≡ true) × (b ≡ true)
both true b e = (refl, e)
both false b e = absurd (true≢false (sym e))

-- one of both holds
pub either : (a b : Bool) → (a || b) ≡ true → (a ≡ true) ⊎ (b ≡ true)
either true b e = inl refl
either false b e = inr e

-- the value modulo 8 stands for the position
pub has_place : (set p : ℕ) → has set (p % 8) ≡ has set p
has_place set p = let e : p % 8 % 8 ≡ p % 8 = omega arith in ap (λ r. eqb (bit_at set r) 1) e

-- ---- what holds at each place

-- the fact, at a place that is in the set
holds_there : (held there : Bool) → (held || not there) ≡ true → there ≡ true → held ≡ true
holds_there true there e h = refl
holds_there false true e h = absurd (true≢false (sym e))
holds_there false false e h = h

at_first : (n set : ℕ) (holds : ℕ → Bool) → at_places n set holds ≡ true → (p : ℕ) → p < n → has set p ≡ true
    → holds p ≡ true
at_first zero set holds e p lt h = absurd (omega arith)
at_first (suc n) set holds e p lt h =
    let parts = both (at_places n set holds) (holds n || not (has set n)) e in
    elim (cases_lt p n) as (λ v. holds p ≡ true) [
      | inl before ↦ at_first n set holds parts.0 p before h
      | inr past ↦ let same : p ≡ n = omega arith in
          subst (λ q. holds q ≡ true) (sym same)
          (holds_there (holds n) (has set n) parts.1 (subst (λ q. has set q ≡ true) same h))
    ]

-- at each position of the set
pub at_each : (set : ℕ) (holds : ℕ → Bool) → each_place set holds ≡ true → (p : ℕ) → Among set p → holds (p % 8) ≡ true
unfolding each_place
at_each set holds e p h = let lt : p % 8 < 8 = omega arith in at_first 8 set holds e (p % 8) lt (has_place set p ∙ h)

pub within_among : (set other : ℕ) → is_within set other ≡ true → (p : ℕ) → Among set p → Among other p
within_among set other e p h = sym (has_place other p) ∙ at_each set (has other) e p h

-- the gap modulo 8
pad_place : (w : Width) (p : ℕ) → pad (p % 8) (octets_in w) ≡ pad p (octets_in w)
pad_place One p = omega arith
pad_place Two p = omega arith
pad_place Four p = omega arith
pad_place Eight p = omega arith

-- gaps that agree are as long
pub agreed : (set : ℕ) (made due : Width) → gaps_agree set made due ≡ true → (p : ℕ) → Among set p
    → pad p (octets_in made) ≡ pad p (octets_in due)
agreed set made due e p h =
    sym (pad_place made p) ∙ eqb-true (pad (p % 8) (octets_in made)) (pad (p % 8) (octets_in due))
    (at_each set (λ q. eqb (pad q (octets_in made)) (pad q (octets_in due))) e p h) ∙ pad_place due p

-- a gap that serves is none, or as long as the one to the lead
pub served : (set : ℕ) (made lead : Width) → gaps_serve set made lead ≡ true → (p : ℕ) → Among set p
    → (pad p (octets_in made) ≡ 0) ⊎ (pad p (octets_in made) ≡ pad p (octets_in lead))
served set made lead e p h =
    let q = p % 8 in
    elim (either (eqb (pad q (octets_in made)) 0) (eqb (pad q (octets_in made)) (pad q (octets_in lead)))
    (at_each set (λ q. eqb (pad q (octets_in made)) 0 || eqb (pad q (octets_in made)) (pad q (octets_in lead))) e p
    h))
    as (λ v. (pad p (octets_in made) ≡ 0) ⊎ (pad p (octets_in made) ≡ pad p (octets_in lead))) [
      | inl none ↦ inl (sym (pad_place made p) ∙ eqb-true (pad (p % 8) (octets_in made)) 0 none)
      | inr same ↦ inr (sym (pad_place made p)
          ∙ eqb-true (pad (p % 8) (octets_in made)) (pad (p % 8) (octets_in lead)) same ∙ pad_place lead p)
    ]

-- ---- what a set leads to

-- the bits of one of two sets
max_left : (a b : ℕ) → a ≡ 1 → b < 2 → max a b ≡ 1
max_left a b e lt = omega arith

max_right : (a b : ℕ) → b ≡ 1 → a < 2 → max a b ≡ 1
max_right a b e lt = omega arith

pub among_or_left : (set other : ℕ) (p : ℕ) → Among set p → Among (bit_or set other) p
among_or_left set other p h =
    eq-eqb (bit_at (bit_or set other) (p % 8)) 1
    (bit_at_or set other (p % 8) ∙ max_left (bit_at set (p % 8)) (bit_at other (p % 8))
    (eqb-true (bit_at set (p % 8)) 1 h) (bit_at-lt other (p % 8)))

pub among_or_right : (set other : ℕ) (p : ℕ) → Among other p → Among (bit_or set other) p
among_or_right set other p h =
    eq-eqb (bit_at (bit_or set other) (p % 8)) 1
    (bit_at_or set other (p % 8) ∙ max_right (bit_at set (p % 8)) (bit_at other (p % 8))
    (eqb-true (bit_at other (p % 8)) 1 h) (bit_at-lt set (p % 8)))

from_first : (n set : ℕ) (to : ℕ → ℕ) (p q : ℕ) → p < n → has set p ≡ true → Among (to p) q
    → Among (from_places n set to) q
from_first zero set to p q lt h there = absurd (omega arith)
from_first (suc n) set to p q lt h there =
    elim (cases_lt p n) as (λ v. Among (from_places (suc n) set to) q) [
      | inl before ↦ among_or_left (from_places n set to) (if has set n then to n else 0) q
          (from_first n set to p q before h there)
      | inr past ↦ let same : p ≡ n = omega arith in
          let in_set : has set n ≡ true = subst (λ r. has set r ≡ true) same h in
          among_or_right (from_places n set to) (if has set n then to n else 0) q
          (subst (λ b. Among (if b then to n else 0) q) (sym in_set) (subst (λ r. Among (to r) q) same there))
    ]

pub among_gathered : (set : ℕ) (to : ℕ → ℕ) (p q : ℕ) → Among set p → Among (to (p % 8)) q → Among (gathered set to) q
unfolding gathered
among_gathered set to p q h there = let lt : p % 8 < 8 = omega arith in
    from_first 8 set to (p % 8) q lt (has_place set p ∙ h) there

-- the set of one place
pub among_place : (place p : ℕ) → p % 8 ≡ place → Among (2 ^ place) p
among_place place p e = eq-eqb (bit_at (2 ^ place) (p % 8)) 1
    (subst (λ r. bit_at (2 ^ place) r ≡ 1) (sym e) (bit_at-pow_same place))

pub place_among : (place p : ℕ) → Among (2 ^ place) p → p % 8 ≡ place
place_among place p h = elim (cases_eq (p % 8) place) as (λ v. p % 8 ≡ place) [
  | inl same ↦ same
  | inr differs ↦ let none = bit_at-pow_other place (p % 8) differs in let one =
      eqb-true (bit_at (2 ^ place) (p % 8)) 1 h in absurd (omega (arith, none, one))
]

moved_place : (w : Width) (p n : ℕ) → (p + pad p (octets_in w) + n) % 8 ≡ (p % 8 + pad (p % 8) (octets_in w) + n) % 8
moved_place One p n = omega arith
moved_place Two p n = omega arith
moved_place Four p n = omega arith
moved_place Eight p n = omega arith

pub among_moved : (set : ℕ) (w : Width) (n p : ℕ) → Among set p → Among (moved set w n) (p + pad p (octets_in w) + n)
among_moved set w n p h =
    among_gathered set (λ q. 2 ^ ((q + pad q (octets_in w) + n) % 8)) p (p + pad p (octets_in w) + n) h
    (among_place ((p % 8 + pad (p % 8) (octets_in w) + n) % 8) (p + pad p (octets_in w) + n) (moved_place w p n))

pub among_left : (set : ℕ) (exits : List ℕ) (p q : ℕ) → Among set p → Among (slice_index_or exits (p % 8) 0) q
    → Among (left set exits) q
among_left set exits p q h there = among_gathered set (λ r. slice_index_or exits r 0) p q h there

-- every position is among all
pub among_all : (p : ℕ) → Among 255 p
among_all p = let lt : p % 8 < 8 = omega arith in eq-eqb (bit_at 255 (p % 8)) 1 (bit_at_ones 8 (p % 8) lt)
