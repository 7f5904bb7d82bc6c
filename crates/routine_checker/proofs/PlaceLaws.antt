-- Sets as the code makes them, place after place.
use Rattle.std.proofs.Common.{◌≡◌, ℕ, zero, suc, ◌+◌, ◌-◌, ◌%◌, ◌^◌, ◌<◌, Bool, not, ◌&&◌, ◌||◌, List, if◌then◌else◌, bit_or, refl, ap, ◌∙◌, arith}
use Rattle.type_graph.specs.declared.width.Width.{Width}
use Rattle.type_graph.specs.declared.width.Width.TheVariants.{One, Two, Four, Eight}
use Rattle.type_graph.specs.Words.{octets_in, pad}
use Rattle.routine_checker.specs.Sets.{has, at_places, each_place, from_places, gathered, is_within, moved, left, closure, gaps_agree, gaps_serve}
use Rattle.routine_checker.specs.inner.Places.{agreeing}

pub at_first_next : (n set : ℕ) (holds : ℕ → Bool)
    → at_places (n + 1) set holds ≡ (at_places n set holds && (holds n || not (has set n)))
at_first_next n set holds = let e : n + 1 ≡ suc n = omega arith in rw e refl

pub from_first_next : (n set : ℕ) (to : ℕ → ℕ)
    → from_places (n + 1) set to ≡ bit_or (from_places n set to) (if has set n then to n else 0)
from_first_next n set to = let e : n + 1 ≡ suc n = omega arith in rw e refl

-- gaps agree at the places of a table
pub agree_within : (set : ℕ) (made due : Width) → is_within set (agreeing made due) ≡ gaps_agree set made due
unfolding each_place
agree_within set One One = refl
agree_within set One Two = refl
agree_within set One Four = refl
agree_within set One Eight = refl
agree_within set Two One = refl
agree_within set Two Two = refl
agree_within set Two Four = refl
agree_within set Two Eight = refl
agree_within set Four One = refl
agree_within set Four Two = refl
agree_within set Four Four = refl
agree_within set Four Eight = refl
agree_within set Eight One = refl
agree_within set Eight Two = refl
agree_within set Eight Four = refl
agree_within set Eight Eight = refl

-- and serve at those of two
pub serve_within : (set : ℕ) (made lead : Width) → is_within set (bit_or (agreeing made One) (agreeing made lead))
    ≡ gaps_serve set made lead
unfolding each_place
serve_within set One One = refl
serve_within set One Two = refl
serve_within set One Four = refl
serve_within set One Eight = refl
serve_within set Two One = refl
serve_within set Two Two = refl
serve_within set Two Four = refl
serve_within set Two Eight = refl
serve_within set Four One = refl
serve_within set Four Two = refl
serve_within set Four Four = refl
serve_within set Four Eight = refl
serve_within set Eight One = refl
serve_within set Eight Two = refl
serve_within set Eight Four = refl
serve_within set Eight Eight = refl

pub closure_next : (left_over : ℕ) (exits : List ℕ) (set : ℕ) → 0 < left_over
    → closure left_over exits set ≡ closure (left_over - 1) exits (bit_or set (left set exits))
unfolding closure
closure_next zero exits set h = absurd (omega (arith, h))
closure_next (suc n) exits set h = let e : suc n - 1 ≡ n = omega arith in rw e refl

-- where nothing more is reached, nothing is later
pub closure_still : (n : ℕ) (exits : List ℕ) (set : ℕ) → bit_or set (left set exits) ≡ set → closure n exits set ≡ set
unfolding closure
closure_still zero exits set still = refl
closure_still (suc n) exits set still = ap (closure n exits) still ∙ closure_still n exits set still

-- the places from which so many octets more are counted
step_place : (w : Width) (p n : ℕ) → (p + pad p (octets_in w) + n % 8) % 8 ≡ (p + pad p (octets_in w) + n) % 8
step_place One p n = omega arith
step_place Two p n = omega arith
step_place Four p n = omega arith
step_place Eight p n = omega arith

from_same : (n set : ℕ) (to by : ℕ → ℕ) → ((p : ℕ) → to p ≡ by p) → from_places n set to ≡ from_places n set by
from_same zero set to by same = refl
from_same (suc n) set to by same = ap (λ all. bit_or all (if has set n then to n else 0)) (from_same n set to by same)
    ∙ ap (λ one. bit_or (from_places n set by) (if has set n then one else 0)) (same n)

-- how many octets there are matters modulo 8 alone
pub moved_modulo : (set : ℕ) (w : Width) (n : ℕ) → moved set w (n % 8) ≡ moved set w n
unfolding gathered
moved_modulo set w n = from_same 8 set (λ p. 2 ^ ((p + pad p (octets_in w) + n % 8) % 8))
    (λ p. 2 ^ ((p + pad p (octets_in w) + n) % 8)) (λ p. ap (λ k. 2 ^ k) (step_place w p n))
