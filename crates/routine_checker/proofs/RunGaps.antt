-- Gaps between runs: behind a run of a width all positions are multiples of it.
use Rattle.std.proofs.Common.{◌≡◌, ℕ, zero, suc, ◌+◌, ◌*◌, ◌%◌, ◌^◌, ◌≤◌, max, Bool, true, false, eqb, if◌then◌else◌, bit_or, refl, sym, ◌∙◌, inl, inr, ◌⊎◌, arith}
use Rattle.std.specs.Int.{bit_at}
use Rattle.std.proofs.lemmas.Bool.{eqb-true, eq-eqb, cases_eq}
use Rattle.std.proofs.lemmas.Nat.Bits.{bit_at_or}
use Rattle.type_graph.specs.declared.width.Width.{Width}
use Rattle.type_graph.specs.declared.width.Width.TheVariants.{One, Two, Four, Eight}
use Rattle.type_graph.specs.Words.{octets_in, pad}
use Rattle.routine_checker.specs.Sets.{has, Among, from_places, gathered, moved, gaps_agree}
use Rattle.routine_checker.proofs.SetLaws.{place_among, agreed}
use Rattle.routine_checker.proofs.FullSets.{none_among, each_passes}

-- ---- from where a position was reached

among_or : (set other p : ℕ) → Among (bit_or set other) p → Among set p ⊎ Among other p
among_or set other p h =
    let one : max (bit_at set (p % 8)) (bit_at other (p % 8)) ≡ 1 =
    sym (bit_at_or set other (p % 8)) ∙ eqb-true (bit_at (bit_or set other) (p % 8)) 1 h in
    elim (cases_eq (bit_at set (p % 8)) 1) as (λ v. Among set p ⊎ Among other p) [
      | inl here ↦ inl (eq-eqb (bit_at set (p % 8)) 1 here)
      | inr differs ↦ inr (eq-eqb (bit_at other (p % 8)) 1 (omega (arith, one, differs)))
    ]

-- a place of the set that leads to the position
record Led (set : ℕ) (to : ℕ → ℕ) (q : ℕ) : Type 0 where
  place : ℕ
  there : has set place ≡ true
  leads : Among (to place) q

led_from : (n set : ℕ) (to : ℕ → ℕ) (q : ℕ) → Among (from_places n set to) q → Led set to q
led_from zero set to q h = absurd (none_among q h)
led_from (suc n) set to q h =
    elim (among_or (from_places n set to) (if has set n then to n else 0) q h) as (λ v. Led set to q) [
      | inl before ↦ led_from n set to q before
      | inr here ↦ by (has set n) refl here
    ] where
      by : (test : Bool) → has set n ≡ test → Among (if test then to n else 0) q → Led set to q
      by true e here = record { place = n; there = e; leads = here }
      by false e here = absurd (none_among q here)

led : (set : ℕ) (to : ℕ → ℕ) (q : ℕ) → Among (gathered set to) q → Led set to q
unfolding gathered
led set to q h = led_from 8 set to q h

-- ---- behind a run

-- so many words behind a gap to their width
run_end : (w : Width) (p n q : ℕ) → q % 8 ≡ (p + pad p (octets_in w) + n * octets_in w) % 8
    → pad q 1 ≡ pad q (octets_in w)
run_end One p n q e = refl
run_end Two p n q e = omega (arith, e)
run_end Four p n q e = omega (arith, e)
run_end Eight p n q e = omega (arith, e)

-- no gap to the width is due there
pub gaps_behind : (set : ℕ) (w : Width) (n : ℕ) → gaps_agree (moved set w (n * octets_in w)) One w ≡ true
gaps_behind set w n =
    let to : ℕ → ℕ = λ p. 2 ^ ((p + pad p (octets_in w) + n * octets_in w) % 8) in
    each_passes (moved set w (n * octets_in w)) (λ q. eqb (pad q 1) (pad q (octets_in w)))
    (λ q lt there.
    let from = led set to q there in
    let p = from.place in
    eq-eqb (pad q 1) (pad q (octets_in w))
    (run_end w p n q (place_among ((p + pad p (octets_in w) + n * octets_in w) % 8) q from.leads)))

narrower : (v w : Width) (p : ℕ) → octets_in w ≤ octets_in v → pad p 1 ≡ pad p (octets_in v)
    → pad p 1 ≡ pad p (octets_in w)
narrower v One p le e = refl
narrower Two Two p le e = e
narrower Four Four p le e = e
narrower Eight Eight p le e = e
narrower Four Two p le e = omega (arith, e)
narrower Eight Two p le e = omega (arith, e)
narrower Eight Four p le e = omega (arith, e)
narrower One Two p le e = absurd (omega (arith, le))
narrower One Four p le e = absurd (omega (arith, le))
narrower One Eight p le e = absurd (omega (arith, le))
narrower Two Four p le e = absurd (omega (arith, le))
narrower Two Eight p le e = absurd (omega (arith, le))
narrower Four Eight p le e = absurd (omega (arith, le))

-- nor one to a narrower width
pub gaps_narrower : (set : ℕ) (v w : Width) → octets_in w ≤ octets_in v → gaps_agree set One v ≡ true
    → gaps_agree set One w ≡ true
gaps_narrower set v w le e =
    each_passes set (λ q. eqb (pad q 1) (pad q (octets_in w)))
    (λ q lt there. eq-eqb (pad q 1) (pad q (octets_in w)) (narrower v w q le (agreed set One v e q there)))
