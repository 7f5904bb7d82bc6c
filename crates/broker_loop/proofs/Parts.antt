-- Lists about a part, and numbers that rise.
use Rattle.std.proofs.Common.{◌≢◌, ℕ, suc, ◌<◌, ◌≤◌, List, [], ◌∷◌, ◌++◌, refl, arith}
use Rattle.std.specs.List.{All, Contains}
use Rattle.std.proofs.lemmas.List.Elements.{All-nil, All-cons, All-head, All-tail, All-append, All-weaker, Contains-append_right}
use Rattle.broker_loop.specs.inner.Going.{IsRising}

pub all_parts : {A : Type 0} (P : A → Type 0) (front : List A) (x : A) (back : List A) → All P (front ++ x ∷ back)
    → All P front × P x × All P back
all_parts P [] x back h = (All-nil P, All-head P x back h, All-tail P x back h)
all_parts P (y ∷ ys) x back h =
    let k = all_parts P ys x back (All-tail P y (ys ++ x ∷ back) h) in
    (All-cons P y ys (All-head P y (ys ++ x ∷ back) h) k.0, k.1, k.2)

pub all_joined : {A : Type 0} (P : A → Type 0) (front : List A) (x : A) (back : List A) → All P front → P x → All P back
    → All P (front ++ x ∷ back)
all_joined P front x back f p b = All-append P front (x ∷ back) f (All-cons P x back p b)

pub contains_part : {A : Type 0} (front : List A) (x : A) (back : List A) → Contains (front ++ x ∷ back) x
contains_part front x back = Contains-append_right front (x ∷ back) x (0, omega arith, refl)

rising_from : (low high : ℕ) (ns : List ℕ) → low ≤ high → IsRising high ns → IsRising low ns
rising_from low high [] le r = tt
rising_from low high (n ∷ more) le r = (omega (arith, le, r.0), r.1)

rising_above : (low : ℕ) (ns : List ℕ) → IsRising low ns → All (λ n. low ≤ n) ns
rising_above low [] r = All-nil (λ n. low ≤ n)
rising_above low (n ∷ more) r =
    All-cons (λ m. low ≤ m) n more r.0
    (All-weaker (λ m. suc n ≤ m) (λ m. low ≤ m) (λ m le. omega (arith, le, r.0)) more (rising_above (suc n) more r.1))

-- a number among those that rise stands there once
pub rising_apart : (low : ℕ) (front : List ℕ) (c : ℕ) (back : List ℕ) → IsRising low (front ++ c ∷ back)
    → All (λ n. n ≢ c) front × All (λ n. n ≢ c) back
rising_apart low [] c back r = (
  All-nil (λ n. n ≢ c),
  All-weaker (λ n. suc c ≤ n) (λ n. n ≢ c) (λ n le e. omega (arith, le, e)) back
      (rising_above (suc c) back r.1),
)
rising_apart low (n ∷ front) c back r =
    let k = rising_apart (suc n) front c back r.1 in
    let above = all_parts (λ m. suc n ≤ m) front c back (rising_above (suc n) (front ++ c ∷ back) r.1) in
    (All-cons (λ m. m ≢ c) n front (λ e. omega (arith, e, above.1)) k.0, k.1)

pub rising_without : (low : ℕ) (front : List ℕ) (c : ℕ) (back : List ℕ) → IsRising low (front ++ c ∷ back)
    → IsRising low (front ++ back)
rising_without low [] c back r = rising_from low (suc c) back (omega (arith, r.0)) r.1
rising_without low (n ∷ front) c back r = (r.0, rising_without (suc n) front c back r.1)

pub rising_with : (low : ℕ) (ns : List ℕ) (c : ℕ) → IsRising low ns → All (λ n. n < c) ns → low ≤ c
    → IsRising low (ns ++ c ∷ [])
rising_with low [] c r below le = (le, tt)
rising_with low (n ∷ ns) c r below le =
    (r.0, rising_with (suc n) ns c r.1 (All-tail (λ m. m < c) n ns below) (All-head (λ m. m < c) n ns below))
