-- How far a run goes, from the first octet that ends it.
use Rattle.std.proofs.Common.{◌≡◌, ◌∙◌, ℕ, ◌+◌, ◌≤◌, Bool, true, false, not, cond, List, [], ◌∷◌, Some, None, Option, OnSome, is_some, ◌==◌, nat_lt, unwrap_or, length, ap, sym, refl, arith}
use Rattle.std.specs.List.{position, prefix_len}
use Rattle.std.proofs.lemmas.Bool.Decides.{nat_tests}
use Rattle.std.proofs.lemmas.List.Sums.{prefix_len-le-length, prefix_len_is}
use Rattle.memchr.specs.Find.{IsFirstByte, is_byte}

pub not_not : (b : Bool) → not (not b) ≡ b
not_not true = refl
not_not false = refl

prefix_len-not_not : (p : ℕ → Bool) (s : List ℕ) → prefix_len (λ c. not (not (p c))) s ≡ prefix_len p s
prefix_len-not_not p [] = refl
prefix_len-not_not p (c ∷ cs) =
    ap (λ b. cond b (1 + prefix_len (λ d. not (not (p d))) cs) 0) (not_not (p c))
    ∙ ap (λ n. cond (p c) (1 + n) 0) (prefix_len-not_not p cs)

found_or_end : (k n : ℕ) → k ≤ n → unwrap_or (cond (nat_lt k n) (Some k) None) n ≡ k
found_or_end k n h = grind (arith, nat_tests)

-- the first place that fails the test, or the end, is where the run ends
pub run-position : (p : ℕ → Bool) (s : List ℕ) → unwrap_or (position (λ c. not (p c)) s) (length s) ≡ prefix_len p s
run-position p s =
    found_or_end (prefix_len (λ c. not (not (p c))) s) (length s) (prefix_len-le-length (λ c. not (not (p c))) s)
    ∙ prefix_len-not_not p s

failed : (b : Bool) → ¬ (b ≡ true) → not b ≡ true
failed true h = absurd (h refl)
failed false h = refl

-- the first octet that passes, or the end, is where the run of others ends
pub run-test : (test : ℕ → Bool) (s : List ℕ) (r : Option ℕ) → IsFirstByte test s r
    → unwrap_or r (length s) ≡ prefix_len (λ d. not (test d)) s
run-test test s None h =
    sym (prefix_len_is (λ d. not (test d)) s (length s) 0 (omega arith) (λ k below. failed _ (h k (omega arith) below))
    (λ beyond. absurd (omega arith)))
run-test test s (Some n) h =
    sym (prefix_len_is (λ d. not (test d)) s n 0 (omega (arith, h.0.high))
    (λ k below. failed _ (h.0.before k (omega arith) below)) (λ _. ap not h.1))

pub run-first : (c : ℕ) (s : List ℕ) (r : Option ℕ) → IsFirstByte (is_byte c) s r
    → unwrap_or r (length s) ≡ prefix_len (λ d. not (d == c)) s
run-first c s r h = run-test (is_byte c) s r h

-- what holds of a value, where there is one, may be put to use
pub OnSome-map : {A P Q : Type 0} (r : Option A) → (P → Q) → OnSome r P → OnSome r Q
OnSome-map None f h = h
OnSome-map (Some x) f h = f h

pub OnSome-had : {A P : Type 0} (r : Option A) → OnSome r P → is_some r ≡ true → P
OnSome-had None h e = cc
OnSome-had (Some x) h e = h
