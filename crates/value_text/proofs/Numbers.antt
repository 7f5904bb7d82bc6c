-- The octets of a number are digits, signs, a dot and an e.
use Rattle.std.proofs.Common.{◌≡◌, ℕ, suc, ◌+◌, ◌<◌, Bool, true, false, cond, ◌||◌, ◌==◌, List, [], ◌∷◌, drop, Option, Some, None, option_and_then, inl, inr, refl, sym, ap, subst, arith}
use Rattle.std.proofs.lemmas.Bool.{eqb-true, leb-true, and_parts, or_cases}
use Rattle.std.specs.List.{prefix_len}
use Rattle.std.specs.Char.{is_ascii_digit}
use Rattle.json.specs.Word.{head, after_digits, after_minus, after_sign, after_whole, after_fraction, after_exponent, after_number}
use Rattle.json.specs.Print.{IsNumber}
use Rattle.value_text.proofs.Passed.{AreLow}

-- a part takes low octets alone
abbrev Takes : (List ℕ → Option (List ℕ)) → Type 0
Takes part = (t rest : List ℕ) → part t ≡ Some rest → AreLow rest → AreLow t

past_one : (t : List ℕ) (c : ℕ) → c < 127 → (head t == c) ≡ true → AreLow (drop 1 t) → AreLow t
past_one [] c small e low = tt
past_one (x ∷ xs) c small e low = let is = eqb-true x c e in (omega arith, low)

digit_first : (x : ℕ) (xs : List ℕ) (b : Bool) → is_ascii_digit x ≡ b
    → (AreLow (drop (prefix_len is_ascii_digit xs) xs) → AreLow xs)
    → AreLow (drop (cond b (1 + prefix_len is_ascii_digit xs) 0) (x ∷ xs)) → AreLow (x ∷ xs)
digit_first x xs false e past low = low
digit_first x xs true e past low =
    let more : 1 + prefix_len is_ascii_digit xs ≡ suc (prefix_len is_ascii_digit xs) = omega arith in
    let high : x < 58 = omega (arith, leb-true x 57 (and_parts _ _ e).1) in
    (omega arith, past (subst (λ k. AreLow (drop k (x ∷ xs))) more low))

past_digits : (t : List ℕ) → AreLow (drop (prefix_len is_ascii_digit t) t) → AreLow t
past_digits [] low = tt
past_digits (x ∷ xs) low = digit_first x xs (is_ascii_digit x) refl (past_digits xs) low

some_of : Option (List ℕ) → List ℕ → List ℕ
some_of None t = t
some_of (Some u) t = u

same : (t u : List ℕ) → Some t ≡ Some u → AreLow u → AreLow t
unfolding some_of
same t u e low = subst AreLow (sym (ap (λ o. some_of o t) e)) low

digits : Takes after_digits
digits t rest = at (prefix_len is_ascii_digit t == 0)
  where
    at : (b : Bool) → cond b None (Some (drop (prefix_len is_ascii_digit t) t)) ≡ Some rest → AreLow rest → AreLow t
    at true e low = absurd (cc)
    at false e low = past_digits t (same _ rest e low)

-- an octet that may be there
optional : (t : List ℕ) (b : Bool) → (b ≡ true → AreLow (drop 1 t) → AreLow t) → AreLow (cond b (drop 1 t) t) → AreLow t
optional t true f low = f refl low
optional t false f low = low

minus : (t : List ℕ) → AreLow (after_minus t) → AreLow t
minus t = optional t (head t == 45) (past_one t 45 (omega arith))

sign : (t : List ℕ) → AreLow (after_sign t) → AreLow t
sign t = optional t ((head t == 45) || (head t == 43))
    (λ e. elim (or_cases _ _ e) [ inl m ↦ past_one t 45 (omega arith) m | inr p ↦ past_one t 43 (omega arith) p ])

whole : Takes after_whole
whole t rest = at (head t == 48) refl
  where
    at : (b : Bool) → (head t == 48) ≡ b → cond b (Some (drop 1 t)) (after_digits t) ≡ Some rest → AreLow rest
        → AreLow t
    at true e is low = past_one t 48 (omega arith) e (same _ rest is low)
    at false e is low = digits t rest is low

fraction : Takes after_fraction
fraction t rest = at (head t == 46) refl
  where
    at : (b : Bool) → (head t == 46) ≡ b → cond b (after_digits (drop 1 t)) (Some t) ≡ Some rest → AreLow rest
        → AreLow t
    at true e is low = past_one t 46 (omega arith) e (digits _ rest is low)
    at false e is low = same t rest is low

exponent : Takes after_exponent
exponent t rest = at ((head t == 101) || (head t == 69)) refl
  where
    past : ((head t == 101) || (head t == 69)) ≡ true → AreLow (drop 1 t) → AreLow t
    past e = elim (or_cases _ _ e) [ inl m ↦ past_one t 101 (omega arith) m | inr p ↦ past_one t 69 (omega arith) p ]

    at : (b : Bool) → ((head t == 101) || (head t == 69)) ≡ b
        → cond b (after_digits (after_sign (drop 1 t))) (Some t) ≡ Some rest → AreLow rest → AreLow t
    at true e is low = past e (sign (drop 1 t) (digits _ rest is low))
    at false e is low = same t rest is low

then : (f : List ℕ → Option (List ℕ)) → Takes f → (o : Option (List ℕ)) (t rest : List ℕ)
    → ((u : List ℕ) → o ≡ Some u → AreLow u → AreLow t)
    → option_and_then f o ≡ Some rest → AreLow rest → AreLow t
then f takes None t rest before e low = absurd (cc)
then f takes (Some u) t rest before e low = before u refl (takes u rest e low)

pub low_number : (s : List ℕ) → IsNumber s → AreLow s
unfolding after_number
low_number s h =
    then after_exponent exponent (option_and_then after_fraction (after_whole (after_minus s))) s []
    (λ u. then after_fraction fraction (after_whole (after_minus s)) s u
    (λ v is low. minus s (whole (after_minus s) v is low)))
    h tt
