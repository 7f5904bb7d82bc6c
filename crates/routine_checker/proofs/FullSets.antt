-- Tests that pass whatever the set is: within all positions, gaps that are due, sets that full exits close.
use Rattle.std.proofs.Common.{◌≡◌, ℕ, zero, suc, ◌%◌, ◌<◌, Bool, true, false, not, ◌||◌, List, replicate, slice_index_or, if◌then◌else◌, bit_or, refl, sym, ap, subst, ◌∙◌, inl, inr, ◌⊎◌, arith}
use Rattle.std.proofs.lemmas.Bool.{eqb-true, and_from, or_right}
use Rattle.std.proofs.lemmas.Nat.Bits.{bit_at-zero}
use Rattle.std.specs.Int.{bit_at}
use Rattle.std.specs.Int.Bits.{or_zero_r}
use Rattle.type_graph.specs.declared.width.Width.{Width}
use Rattle.type_graph.specs.declared.width.Width.TheVariants.{One, Two, Four, Eight}
use Rattle.routine_checker.specs.Sets.{has, Among, at_places, each_place, from_places, gathered, is_within, left, closure, gaps_agree, gaps_serve}
use Rattle.routine_checker.specs.Steps.{enters_times, enters_elements}
use Rattle.routine_checker.proofs.SetLaws.{among_or_right, among_all}
use Rattle.routine_checker.proofs.RoutineUse.{among_closure}

-- ---- a test of each place

place_passes : (there held : Bool) → (there ≡ true → held ≡ true) → (held || not there) ≡ true
place_passes true held h = subst (λ b. (b || false) ≡ true) (sym (h refl)) refl
place_passes false held h = or_right held true refl

places_pass : (n set : ℕ) (holds : ℕ → Bool) → ((p : ℕ) → p < n → has set p ≡ true → holds p ≡ true)
    → at_places n set holds ≡ true
places_pass zero set holds h = refl
places_pass (suc n) set holds h =
    and_from (at_places n set holds) (holds n || not (has set n))
    (places_pass n set holds (λ p lt there. h p (omega (arith, lt)) there))
    (place_passes (has set n) (holds n) (h n (omega arith)))

-- what holds at each place of the set passes its test
pub each_passes : (set : ℕ) (holds : ℕ → Bool) → ((p : ℕ) → p < 8 → has set p ≡ true → holds p ≡ true)
    → each_place set holds ≡ true
unfolding each_place
each_passes set holds h = places_pass 8 set holds h

-- a set whose positions are all among another is within it
pub within_from : (set other : ℕ) → ((p : ℕ) → Among set p → Among other p) → is_within set other ≡ true
within_from set other h = each_passes set (has other) (λ p lt there. h p there)

-- every set is within all positions
pub within_all : (set : ℕ) → is_within set 255 ≡ true
unfolding each_place
within_all set = refl

-- ---- gaps

pub gaps_same_width : (set : ℕ) (w : Width) → gaps_agree set w w ≡ true
unfolding each_place
gaps_same_width set One = refl
gaps_same_width set Two = refl
gaps_same_width set Four = refl
gaps_same_width set Eight = refl

-- the gap that what follows begins with
pub lead_serves : (set : ℕ) (w : Width) → gaps_serve set w w ≡ true
unfolding each_place
lead_serves set One = refl
lead_serves set Two = refl
lead_serves set Four = refl
lead_serves set Eight = refl

-- no gap
pub none_serves : (set : ℕ) (lead : Width) → gaps_serve set One lead ≡ true
unfolding each_place
none_serves set lead = refl

-- ---- exits that are all positions

full_exits : (to : ℕ → ℕ) (n set : ℕ) → ((p : ℕ) → p < n → to p ≡ 255) → (from_places n set to ≡ 0)
    ⊎ (from_places n set to ≡ 255)
full_exits to zero set h = inl refl
full_exits to (suc n) set h =
    subst (λ last. (bit_or (from_places n set to) (if has set n then last else 0) ≡ 0)
    ⊎ (bit_or (from_places n set to) (if has set n then last else 0) ≡ 255)) (sym (h n (omega arith)))
    (by (from_places n set to) (has set n) (full_exits to n set (λ p lt. h p (omega (arith, lt)))))
  where
    by : (before : ℕ) (there : Bool) → (before ≡ 0) ⊎ (before ≡ 255) → (bit_or before (if there then 255 else 0) ≡ 0)
        ⊎ (bit_or before (if there then 255 else 0) ≡ 255)
    by before true (inl none) = inr (ap (λ b. bit_or b 255) none)
    by before true (inr all) = inr (ap (λ b. bit_or b 255) all)
    by before false (inl none) = inl (ap (λ b. bit_or b 0) none)
    by before false (inr all) = inr (ap (λ b. bit_or b 0) all)

pub full_place : (p : ℕ) → p < 8 → slice_index_or (replicate {A = ℕ} 8 255) p 0 ≡ 255
full_place zero lt = refl
full_place (suc zero) lt = refl
full_place (suc (suc zero)) lt = refl
full_place (suc (suc (suc zero))) lt = refl
full_place (suc (suc (suc (suc zero)))) lt = refl
full_place (suc (suc (suc (suc (suc zero))))) lt = refl
full_place (suc (suc (suc (suc (suc (suc zero)))))) lt = refl
full_place (suc (suc (suc (suc (suc (suc (suc zero))))))) lt = refl
full_place (suc (suc (suc (suc (suc (suc (suc (suc p)))))))) lt = absurd (omega (arith, lt))

-- a set without places leads to none, each other set to all positions
left_full : (set : ℕ) → (left set (replicate 8 255) ≡ 0) ⊎ (left set (replicate 8 255) ≡ 255)
unfolding gathered
left_full set = full_exits (λ p. slice_index_or (replicate 8 255) p 0) 8 set full_place

-- a set that leads to none stays what it is
closure_still : (n : ℕ) (exits : List ℕ) (set : ℕ) → left set exits ≡ 0 → closure n exits set ≡ set
unfolding closure
closure_still zero exits set e = refl
closure_still (suc n) exits set e =
    let same : bit_or set (left set exits) ≡ set = ap (bit_or set) e ∙ or_zero_r set in
    ap (closure n exits) same ∙ closure_still n exits set e

-- where a set leads to all positions they are among its closure
closure_full : (n : ℕ) (exits : List ℕ) (set p : ℕ) → left set exits ≡ 255 → Among (closure (suc n) exits set) p
unfolding closure
closure_full n exits set p e =
    among_closure n exits (bit_or set (left set exits)) p
    (among_or_right set (left set exits) p (subst (λ all. Among all p) (sym e) (among_all p)))

pub none_among : (p : ℕ) → Among 0 p → ⊥
none_among p h = let none = bit_at-zero (p % 8) in let one = eqb-true (bit_at 0 (p % 8)) 1 h in omega (arith, none, one)

-- where elements start, the next may start
pub closure_closed : (set : ℕ)
    → is_within (left (closure 8 (replicate 8 255) set) (replicate 8 255)) (closure 8 (replicate 8 255) set) ≡ true
closure_closed set = elim (left_full set) as
    (λ v. is_within (left (closure 8 (replicate 8 255) set) (replicate 8 255)) (closure 8 (replicate 8 255) set) ≡ true) [
      | inl none ↦
          let still = closure_still 8 (replicate 8 255) set none in
          subst (λ from. is_within (left from (replicate 8 255)) from ≡ true) (sym still)
          (subst (λ after. is_within after set ≡ true) (sym none)
          (within_from 0 set (λ p there. absurd (none_among p there))))
      | inr all ↦ within_from (left (closure 8 (replicate 8 255) set) (replicate 8 255))
          (closure 8 (replicate 8 255) set)
          (λ p there. closure_full 7 (replicate 8 255) set p all)
    ]

pub elements_enter : (set : ℕ) → enters_elements 255 (replicate 8 255) (closure 8 (replicate 8 255) set) ≡ true
elements_enter set =
    let from = closure 8 (replicate 8 255) set in
    and_from (is_within from 255) (is_within (left from (replicate 8 255)) from) (within_all from) (closure_closed set)

pub times_enter : (n : ℕ) (exits : List ℕ) (set : ℕ) → enters_times n 255 exits set ≡ true
unfolding enters_times
times_enter zero exits set = refl
times_enter (suc n) exits set =
    and_from (is_within set 255) (enters_times n 255 exits (left set exits)) (within_all set)
    (times_enter n exits (left set exits))
