-- Sets as the code treats them, all places at once.
use Rattle.std.proofs.Common.{◌≡◌, ℕ, zero, suc, ◌%◌, ◌<◌, min, Bool, true, false, not, ◌||◌, eqb, bit_and, refl, sym, ap, ◌∙◌, inl, inr, arith}
use Rattle.std.specs.Int.{bit_at, w8, rotate_left}
use Rattle.std.proofs.lemmas.Bool.{eqb-true, eq-eqb, cases_eq, agree_below, agree_below_at, and_from, or_left, or_right, not_from_false}
use Rattle.std.proofs.lemmas.Nat.Bits.{bit_at_and, bit_at-lt, same_from_bits_below}
use Rattle.std.proofs.lemmas.Nat.{and_le_l}
use Rattle.type_graph.specs.declared.width.Width.{Width}
use Rattle.type_graph.specs.declared.width.Width.TheVariants.{One, Two, Four, Eight}
use Rattle.routine_checker.specs.Sets.{has, at_places, each_place, gathered, is_within, moved}
use Rattle.routine_checker.specs.inner.Places.{lined_up}
use Rattle.routine_checker.proofs.SetLaws.{within_among}

-- ---- octets that are moved

-- whether the code moves the set as it should, each set, by each number of octets
moves : Width → ℕ → ℕ → Bool
moves w n set = eqb (rotate_left w8 (lined_up w set) n) (moved set w n)

moves_all : Width → ℕ → Bool
moves_all w n = agree_below (moves w n) (λ set. true) 256

moves_always : (w : Width) → agree_below (moves_all w) (λ n. true) 8 ≡ true
unfolding moves moves_all gathered
moves_always One = refl
moves_always Two = refl
moves_always Four = refl
moves_always Eight = refl

pub moved_by_mask : (set : ℕ) (w : Width) (n : ℕ) → set < 256 → n < 8
    → rotate_left w8 (lined_up w set) n ≡ moved set w n
unfolding moves moves_all
moved_by_mask set w n within few =
    let all : moves_all w n ≡ true = agree_below_at (moves_all w) (λ n. true) 8 n (moves_always w) few in
    eqb-true (rotate_left w8 (lined_up w set) n) (moved set w n)
    (agree_below_at (moves w n) (λ set. true) 256 set all within)

-- ---- sets within sets

-- a bit that both have is that of the first
kept : (a b : ℕ) → a < 2 → ((a ≡ 1) → (b ≡ 1)) → min a b ≡ a
kept zero b lt both = omega arith
kept (suc zero) b lt both = let one : b ≡ 1 = both refl in ap (min 1) one
kept (suc (suc a)) b lt both = absurd (omega (arith, lt))

bit_within : (set other i : ℕ) → is_within set other ≡ true → i < 8 → bit_at (bit_and set other) i ≡ bit_at set i
bit_within set other i within lt =
    let place : i % 8 ≡ i = omega (arith, lt) in
    bit_at_and set other i ∙ kept (bit_at set i) (bit_at other i) (bit_at-lt set i)
    (λ one. ap (bit_at other) (sym place) ∙ eqb-true (bit_at other (i % 8)) 1
    (within_among set other within i (eq-eqb (bit_at set (i % 8)) 1 (ap (bit_at set) place ∙ one))))

mask_of_within : (set other : ℕ) → set < 256 → bit_and set other < 256 → is_within set other ≡ true
    → bit_and set other ≡ set
mask_of_within set other small less within =
    same_from_bits_below 8 (bit_and set other) set less small (λ i lt. bit_within set other i within lt)

-- a bit of the first that the second lacks isn't there
lacked : (a b : ℕ) → b < 2 → (b ≡ 1 → ⊥) → min a b ≡ a → a ≡ 0
lacked a zero lt none same = sym same ∙ omega arith
lacked a (suc zero) lt none same = absurd (none refl)
lacked a (suc (suc b)) lt none same = absurd (omega (arith, lt))

place_within : (set other n : ℕ) → bit_and set other ≡ set → (has other n || not (has set n)) ≡ true
place_within set other n mask =
    elim (cases_eq (bit_at other (n % 8)) 1) as (λ v. (has other n || not (has set n)) ≡ true) [
      | inl there ↦ or_left (has other n) (not (has set n)) (eq-eqb (bit_at other (n % 8)) 1 there)
      | inr none ↦
          let same : min (bit_at set (n % 8)) (bit_at other (n % 8)) ≡ bit_at set (n % 8) =
          sym (bit_at_and set other (n % 8)) ∙ ap (λ s. bit_at s (n % 8)) mask in
          let zeroed : bit_at set (n % 8) ≡ 0 =
          lacked (bit_at set (n % 8)) (bit_at other (n % 8)) (bit_at-lt other (n % 8)) none same in
          or_right (has other n) (not (has set n)) (not_from_false (has set n) (ap (λ b. eqb b 1) zeroed))
    ]

places_within : (n set other : ℕ) → bit_and set other ≡ set → at_places n set (has other) ≡ true
places_within zero set other mask = refl
places_within (suc n) set other mask =
    and_from (at_places n set (has other)) (has other n || not (has set n)) (places_within n set other mask)
    (place_within set other n mask)

same_test : (a b : Bool) → (a ≡ true → b ≡ true) → (b ≡ true → a ≡ true) → a ≡ b
same_test true b to from = sym (to refl)
same_test false true to from = from refl
same_test false false to from = refl

pub within_by_mask : (set other : ℕ) → set < 256 → eqb (bit_and set other) set ≡ is_within set other
unfolding each_place
within_by_mask set other small =
    let less : bit_and set other < 256 = omega (arith, and_le_l set other, small) in
    same_test (eqb (bit_and set other) set) (is_within set other)
    (λ e. places_within 8 set other (eqb-true (bit_and set other) set e))
    (λ e. eq-eqb (bit_and set other) set (mask_of_within set other small less e))
