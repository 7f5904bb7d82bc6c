-- What is written part by part.
use Rattle.std.proofs.Common.{◌≡◌, ℕ, zero, suc, ◌+◌, Bool, true, false, ◌||◌, ◌&&◌, List, [], ◌∷◌, ◌++◌, take, drop, length, nat_lt, nat_eq, Option, Some, None, refl, sym, ap, subst, ◌∙◌, append_assoc, append-nil, arith}
use Rattle.std.proofs.lemmas.Bool.{eqb-true}
use Rattle.iiop_broker.specs.Ends.{Adds, is_stuck}

take_nil : (n : ℕ) → take {A = ℕ} n [] ≡ []
take_nil zero = refl
take_nil (suc n) = refl

taken_then : (s n : ℕ) (xs : List ℕ) → take s xs ++ take n (drop s xs) ≡ take (s + n) xs
taken_then zero n xs = let e : n ≡ 0 + n = omega arith in ap (λ (k : ℕ). take k xs) e
taken_then (suc s) n [] = take_nil n ∙ sym (take_nil (suc s + n))
taken_then (suc s) n (x ∷ xs) =
    let e : suc (s + n) ≡ suc s + n = omega arith in
    ap (λ (ys : List ℕ). x ∷ ys) (taken_then s n xs) ∙ ap (λ (k : ℕ). take k (x ∷ xs)) e

pub adds_then : (told between after : Option (List ℕ)) (a b : List ℕ) → Adds told a between → Adds between b after
    → Adds told (a ++ b) after
adds_then None between after a b e f = tt
adds_then (Some w) between after a b e f =
    let is : after ≡ Some ((w ++ a) ++ b) = subst (λ (t : Option (List ℕ)). Adds t b after) e f in
    is ∙ ap Some (append_assoc w a b)

pub adds_nothing : (told : Option (List ℕ)) → Adds told [] told
adds_nothing None = tt
adds_nothing (Some w) = ap Some (sym (append-nil w))

pub written_more : (told after now : Option (List ℕ)) (s n : ℕ) (octets behind : List ℕ)
    → Adds told (take s octets) after
    → behind ≡ drop s octets → Adds after (take n behind) now → Adds told (take (s + n) octets) now
written_more told after now s n octets behind e b f =
    let parts : take s octets ++ take n behind ≡ take (s + n) octets =
    ap (λ (xs : List ℕ). take s octets ++ take n xs) b ∙ taken_then s n octets in
    subst (λ (xs : List ℕ). Adds told xs now) parts (adds_then told after now (take s octets) (take n behind) e f)

or_false : (b c : Bool) → c ≡ false → (b || c) ≡ b
or_false true c e = refl
or_false false c e = e

not_zero : (b : Bool) (n : ℕ) → nat_eq n 0 ≡ b → (n ≡ 0 → ⊥) → b ≡ false
not_zero true n e other = absurd (other (eqb-true n 0 e))
not_zero false n e other = refl

and_false : (b c : Bool) → c ≡ false → (b && c) ≡ false
and_false true c e = e
and_false false c e = refl

pub unstuck : (before now : Bool) (octets : List ℕ) (n : ℕ) → (n ≡ 0 → ⊥) → now ≡ (before || is_stuck octets n)
    → now ≡ before
unstuck before now octets n other e =
    e ∙ or_false before (is_stuck octets n)
    (and_false (nat_lt 0 (length octets)) (nat_eq n 0) (not_zero (nat_eq n 0) n refl other))
