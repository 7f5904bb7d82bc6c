-- Characters, one behind another.
use Rattle.std.proofs.Common.{◌≡◌, ◌∙◌, ℕ, ◌+◌, ◌<◌, ◌≢◌, Bool, true, false, not, cond, ◌==◌, inl, inr, List, [], ◌∷◌, ◌++◌, codes, take, drop, slice_index, ap, subst, sym, refl, arith, eq-eqb}
use Rattle.std.specs.List.{list_all}
use Rattle.std.specs.Str.Parse.{digits_value}
use Rattle.std.proofs.lemmas.Bool.Decides.{nat_tests}
use Rattle.std.proofs.lemmas.Bool.{eqb-true}
use Rattle.std.proofs.lemmas.Grind.{get_or_after_one}
use Rattle.std.proofs.lemmas.List.{drop-drop, get_or-drop}
use Rattle.std.proofs.lemmas.List.Sums.{prefix_len_passes}
use Rattle.idl_lexer.proofs.Inside.{and_true, or_true}
use Rattle.idl_lexer.specs.Octets.{is_octal, is_one_of, run}
use Rattle.idl_lexer.specs.Readings.{reading, hex_reading, octal_reading, letter_reading, plain_reading}
use Rattle.idl_lexer.specs.Literals.{is_escape_letter, is_plain, AreCharacters, ClosedCharacters, none, more, IsCharacter, plain, letter, octal, hexadecimal}

-- one more at the end
pub AreCharacters-push : (quote : ℕ) (s : List ℕ) (m n v k : ℕ) (vs : List ℕ) → AreCharacters quote s m vs
    → IsCharacter quote (drop m s) n v → v ≢ 0 → k ≡ m + n → AreCharacters quote s k (vs ++ v ∷ [])
AreCharacters-push quote s m n v k vs (none s2) char other e =
    more _ n v 0 k [] char other (none (drop n s)) (omega arith)
AreCharacters-push quote s m n v k vs (more s2 n1 v1 m1 k1 vs1 first nz rest e1) char other e =
    let place : drop k1 s ≡ drop m1 (drop n1 s) = ap (λ j. drop j s) e1 ∙ sym (drop-drop m1 n1 s) in
    more _ n1 v1 (m1 + n) k (vs1 ++ v ∷ []) first nz
    (AreCharacters-push quote (drop n1 s) m1 n v (m1 + n) vs1 rest (rw place at char) other refl) (omega arith)

-- what one of these octets passes
pub one_passes : (p : ℕ → Bool) (ds : List ℕ) (c : ℕ) → list_all p ds ≡ true → is_one_of ds c ≡ true → p c ≡ true
one_passes p [] c all any = cc
one_passes p (d ∷ ds) c all any = elim (or_true (d == c) (is_one_of ds c) any) [
  | inl here ↦ ap p (sym (eqb-true d c here)) ∙ (and_true (p d) (list_all p ds) all).0
  | inr later ↦ one_passes p ds c (and_true (p d) (list_all p ds) all).1 later
]

pub not_false : (b : Bool) → not b ≡ true → b ≡ false
not_false true h = cc
not_false false h = refl

plain_no_backslash : (quote v : ℕ) → is_plain quote v ≡ true → (v == 92) ≡ false
plain_no_backslash quote v h = grind (arith, nat_tests)

first_octal : (s : List ℕ) → 0 < run is_octal s → is_octal (slice_index s 0) ≡ true
first_octal s h = prefix_len_passes is_octal s 0 0 h

pick : (s : List ℕ) (b0 b1 b2 : Bool) → (slice_index s 0 == 92) ≡ b0 → (slice_index s 1 == 120) ≡ b1
    → is_octal (slice_index s 1) ≡ b2
    → reading s ≡ cond b0 (cond b1 (hex_reading s) (cond b2 (octal_reading s) (letter_reading s))) (plain_reading s)
pick s b0 b1 b2 e0 e1 e2 = rw (e0, e1, e2) refl

letter_no_x : (c : ℕ) → is_escape_letter c ≡ true → (c == 120) ≡ false
letter_no_x c h = not_false (c == 120) (one_passes (λ d. not (d == 120)) (codes "ntvbrfa\\?'\"") c refl h)

letter_no_octal : (c : ℕ) → is_escape_letter c ≡ true → is_octal c ≡ false
letter_no_octal c h = not_false (is_octal c) (one_passes (λ d. not (is_octal d)) (codes "ntvbrfa\\?'\"") c refl h)

octal_no_x : (c : ℕ) → is_octal c ≡ true → (c == 120) ≡ false
octal_no_x c h = grind (arith, nat_tests)

-- a character is read in one way
pub IsCharacter-reading : (quote : ℕ) (s : List ℕ) (n v : ℕ) → IsCharacter quote s n v
    → (n ≡ (reading s).len) × (v ≡ (reading s).value)
IsCharacter-reading quote s n v (plain some here is one) =
    let other : (slice_index s 0 == 92) ≡ false = ap (λ c. c == 92) here ∙ plain_no_backslash quote v is in
    let r : reading s ≡ plain_reading s =
    pick s false (slice_index s 1 == 120) (is_octal (slice_index s 1)) other refl refl in
    (one ∙ sym (ap (λ q. q.len) r), sym here ∙ sym (ap (λ q. q.value) r))
IsCharacter-reading quote s n v (letter b e is two) =
    let r : reading s ≡ letter_reading s =
    pick s true false false (eq-eqb (slice_index s 0) 92 b) (letter_no_x (slice_index s 1) e)
    (letter_no_octal (slice_index s 1) e) in
    (two ∙ sym (ap (λ q. q.len) r), is ∙ sym (ap (λ q. q.value) r))
IsCharacter-reading quote s n v (octal m b digits small e) =
    let first : is_octal (slice_index s 1) ≡ true = ap is_octal (sym (get_or_after_one s 0 0))
    ∙ first_octal (drop 1 s) (omega (arith, digits.some, digits.whole)) in
    let r : reading s ≡ octal_reading s =
    pick s true false true (eq-eqb (slice_index s 0) 92 b) (octal_no_x (slice_index s 1) first) first in (
      e ∙ ap (λ k. k + 1) digits.whole ∙ sym (ap (λ q. q.len) r),
      digits.value
          ∙ ap (λ k. digits_value 8 (take k (drop 1 s))) digits.whole ∙ sym (ap (λ q. q.value) r),
    )
IsCharacter-reading quote s n v (hexadecimal m b x digits e) =
    let r : reading s ≡ hex_reading s =
    pick s true true (is_octal (slice_index s 1)) (eq-eqb (slice_index s 0) 92 b) (eq-eqb (slice_index s 1) 120 x)
    refl in (
      e ∙ ap (λ k. k + 2) digits.whole ∙ sym (ap (λ q. q.len) r),
      digits.value
          ∙ ap (λ k. digits_value 16 (take k (drop 2 s))) digits.whole ∙ sym (ap (λ q. q.value) r),
    )

pub same_value : (p q : ℕ) (s : List ℕ) (m n v w : ℕ) → IsCharacter p s m v → IsCharacter q s n w → v ≡ w
same_value p q s m n v w a b = (IsCharacter-reading p s m v a).1 ∙ sym (IsCharacter-reading q s n w b).1

pub same_len : (p q : ℕ) (s : List ℕ) (m n v w : ℕ) → IsCharacter p s m v → IsCharacter q s n w → m ≡ n
same_len p q s m n v w a b = (IsCharacter-reading p s m v a).0 ∙ sym (IsCharacter-reading q s n w b).0

-- what a step from characters that aren't at their end finds
pub record Step (s octets : List ℕ) : Type 0 where
  pub len : ℕ
  pub value : ℕ
  pub character : IsCharacter 34 s len value
  pub nonzero : value ≢ 0
  pub next : ClosedCharacters (drop len s)
  pub same : octets ≡ value ∷ next.octets

pub ClosedCharacters-step : (s : List ℕ) → slice_index s 0 ≢ 34 → (c : ClosedCharacters s) → Step s c.octets
ClosedCharacters-step s other c = from s c.octets c.inner other c.characters c.closes
  where
    from : (s vs : List ℕ) (k : ℕ) → slice_index s 0 ≢ 34 → AreCharacters 34 s k vs → slice_index s k ≡ 34 → Step s vs
    from s vs k other (none s1) closes = absurd (other closes)
    from s vs k other (more s1 n v m k1 vs1 char nz rest e) closes = record {
      len = n;
      value = v;
      character = char;
      nonzero = nz;
      next = record {
        octets = vs1;
        inner = m;
        characters = rest;
        closes =
            get_or-drop n s m 0 ∙ ap (slice_index s) (sym e) ∙ closes;
      };
      same = refl;
    }

-- the same, at the length that the code reads
pub Step-at : (s octets : List ℕ) (len value : ℕ) → Step s octets → IsCharacter 34 s len value
    → (next : ClosedCharacters (drop len s)) × (octets ≡ value ∷ next.octets)
Step-at s octets len value step char =
    moved s octets step.len len step.value value (same_len 34 34 s step.len len step.value value step.character char)
    (same_value 34 34 s step.len len step.value value step.character char) step.next step.same
  where
    moved : (s octets : List ℕ) (m n v w : ℕ) → m ≡ n → v ≡ w → (next : ClosedCharacters (drop m s))
        → octets ≡ v ∷ next.octets → (next : ClosedCharacters (drop n s)) × (octets ≡ w ∷ next.octets)
    moved s octets m n v w e f next same =
        let P : ℕ → Type 0 = λ k. (next : ClosedCharacters (drop k s)) × (octets ≡ v ∷ next.octets) in
        let Q : ℕ → Type 0 = λ u. (next : ClosedCharacters (drop n s)) × (octets ≡ u ∷ next.octets) in
        subst Q f (subst P e (next, same))

plain_no_quote : (v : ℕ) → v ≡ 34 → is_plain 34 v ≡ true → ⊥
plain_no_quote v e h = let no : is_plain 34 34 ≡ true = rw e at h in cc

pub no_character : (s : List ℕ) (n v : ℕ) → slice_index s 0 ≡ 34 → IsCharacter 34 s n v → ⊥
no_character s n v e (plain some here is one) = plain_no_quote v (sym here ∙ e) is
no_character s n v e (letter b h is two) = omega (arith, b, e)
no_character s n v e (octal m b digits small k) = omega (arith, b, e)
no_character s n v e (hexadecimal m b x digits k) = omega (arith, b, e)

pub ClosedCharacters-end : (s : List ℕ) → slice_index s 0 ≡ 34 → (c : ClosedCharacters s) → c.octets ≡ []
ClosedCharacters-end s e c = from s c.octets c.inner e c.characters
  where
    from : (s vs : List ℕ) (k : ℕ) → slice_index s 0 ≡ 34 → AreCharacters 34 s k vs → vs ≡ []
    from s vs k e (none s1) = refl
    from s vs k e (more s1 n v m k1 vs1 char nz rest f) = absurd (no_character s n v e char)
