-- The same octet by octet: behind the octet C2 it isn't settled yet what is written.
use Rattle.std.proofs.Common.{◌≡◌, ℕ, suc, ◌+◌, ◌/◌, ◌%◌, ◌<◌, ◌≤◌, Bool, true, false, cond, ◌&&◌, ◌==◌, nat_le, nat_lt, List, [], ◌∷◌, ◌++◌, length, get_or, inl, inr, ◌⊎◌, refl, sym, ap, ◌∙◌, subst, arith}
use Rattle.std.proofs.lemmas.Bool.{cases_eq, cases_lt, ne_eqb, lt-ltb, le-ltb, le-leb, lt-leb}
use Rattle.std.proofs.lemmas.Str.{encode_ascii, encodes-chars}
use Rattle.std.specs.Prelude.{flat_map}
use Rattle.std.specs.Str.{IsUtf8, chars}
use lib.Utf8.{encode, encodes}
use Rattle.value_text.specs.Escaped.{escape_of, written, escaped}

-- what was held back
abbrev pub held : Bool → List ℕ
held false = []
held true = 194 ∷ []

abbrev pub pass_plain : ℕ → (Bool → List ℕ) → List ℕ
pass_plain x k = cond (x == 194) (k true) (cond (x == 127) (escape_of 127 ++ k false) (x ∷ k false))

abbrev pub pass_byte : Bool → ℕ → (Bool → List ℕ) → List ℕ
pass_byte false x k = pass_plain x k
pass_byte true x k = cond (nat_le 128 x && nat_lt x 160) (escape_of x ++ k false) (194 ∷ pass_plain x k)

unfoldable pub pass : Bool → List ℕ → List ℕ
pass b [] = held b
pass b (x ∷ xs) = pass_byte b x (λ next. pass next xs)

-- octets that stand for themselves, and settle what was held back
abbrev pub AreLow : List ℕ → Type 0
AreLow [] = Unit {0}
AreLow (x ∷ xs) = (x < 127) × AreLow xs

pub kept : (x : ℕ) (t : List ℕ) → (x ≡ 194 → ⊥) → (x ≡ 127 → ⊥) → pass false (x ∷ t) ≡ x ∷ pass false t
unfolding pass
kept x t a b = rw (ne_eqb x 194 a, ne_eqb x 127 b)

pub kept_behind : (x : ℕ) (t : List ℕ) → (x < 128) ⊎ (160 ≤ x) → (x ≡ 194 → ⊥) → (x ≡ 127 → ⊥)
    → pass true (x ∷ t) ≡ 194 ∷ x ∷ pass false t
unfolding pass
kept_behind x t (inl low) a b = rw (lt-leb 128 x low, ne_eqb x 194 a, ne_eqb x 127 b)
kept_behind x t (inr high) a b = rw (le-leb 128 x (omega arith), le-ltb x 160 high, ne_eqb x 194 a, ne_eqb x 127 b)

pub escaped_behind : (x : ℕ) (t : List ℕ) → 128 ≤ x → x < 160 → pass true (x ∷ t) ≡ escape_of x ++ pass false t
unfolding pass
escaped_behind x t low high = rw (le-leb 128 x low, lt-ltb x 160 high)

pub kept_low : (b : Bool) (x : ℕ) (t : List ℕ) → x < 127 → pass b (x ∷ t) ≡ held b ++ (x ∷ pass false t)
kept_low false x t low = kept x t (λ e. omega arith) (λ e. omega arith)
kept_low true x t low = kept_behind x t (inl (omega arith)) (λ e. omega arith) (λ e. omega arith)

pub kept_all : (xs t : List ℕ) → AreLow xs → pass false (xs ++ t) ≡ xs ++ pass false t
kept_all [] t low = refl
kept_all (x ∷ xs) t low = kept_low false x (xs ++ t) low.0 ∙ ap (λ l. x ∷ l) (kept_all xs t low.1)

-- a character from U+007F to U+009F, and any other
written_escape : (c : ℕ) → 127 ≤ c → c ≤ 159 → written c ≡ escape_of c
written_escape c low high = rw (le-leb 127 c low, le-leb c 159 high)

written_plain : (c : ℕ) → (c < 127) ⊎ (159 < c) → written c ≡ encode c
written_plain c (inl low) = rw (lt-leb 127 c low)
written_plain c (inr high) = rw (le-leb 127 c (omega arith), lt-leb c 159 high)

-- a character of one, two or more octets
one_octet : (c : ℕ) (t : List ℕ) → c < 128 → pass false (encode c ++ t) ≡ written c ++ pass false t
unfolding pass
one_octet c t small = elim (cases_eq c 127) [
  | inl e ↦ subst (λ x. pass false (encode x ++ t) ≡ written x ++ pass false t) (sym e)
      (ap (λ l. pass false (l ++ t)) (encode_ascii 127 (omega arith)))
  | inr ne ↦
      let is = encode_ascii c small in
      ap (λ l. pass false (l ++ t)) is ∙ kept c t (λ e. omega arith) ne
      ∙ ap (λ l. l ++ pass false t) (sym (written_plain c (inl (omega arith)) ∙ is))
]

of_two : (c : ℕ) → 128 ≤ c → c < 2048 → encode c ≡ (192 + c / 64) ∷ (128 + c % 64) ∷ []
unfolding encode
of_two c low high = rw (le-ltb c 128 low, lt-ltb c 2048 high)

pub of_c2 : (c : ℕ) → 128 ≤ c → c < 192 → encode c ≡ 194 ∷ c ∷ []
of_c2 c low high =
    let first : 192 + c / 64 ≡ 194 = omega arith in
    let second : 128 + c % 64 ≡ c = omega arith in
    of_two c low (omega arith) ∙ ap (λ x. x ∷ (128 + c % 64) ∷ []) first ∙ ap (λ x. 194 ∷ x ∷ []) second

behind_c2 : (c : ℕ) (t : List ℕ) → 128 ≤ c → c < 192 → pass true (c ∷ t) ≡ written c ++ pass false t
behind_c2 c t low high = elim (cases_lt c 160) [
  | inl control ↦ escaped_behind c t low control
      ∙ ap (λ l. l ++ pass false t) (sym (written_escape c (omega arith) (omega arith)))
  | inr other ↦
      kept_behind c t (inr other) (λ e. omega arith) (λ e. omega arith)
      ∙ ap (λ l. l ++ pass false t) (sym (written_plain c (inr (omega arith)) ∙ of_c2 c low high))
]

after_c2 : (t : List ℕ) → pass false (194 ∷ t) ≡ pass true t
unfolding pass
after_c2 t = refl

two_octets : (c : ℕ) (t : List ℕ) → 128 ≤ c → c < 2048 → pass false (encode c ++ t) ≡ written c ++ pass false t
two_octets c t low high = elim (cases_lt c 192) [
  | inl small ↦ ap (λ l. pass false (l ++ t)) (of_c2 c low small) ∙ after_c2 (c ∷ t) ∙ behind_c2 c t low small
  | inr big ↦
      let is = of_two c low high in
      let first : 195 ≤ 192 + c / 64 = omega arith in
      let second : 128 + c % 64 < 192 = omega arith in
      ap (λ l. pass false (l ++ t)) is
      ∙ kept (192 + c / 64) ((128 + c % 64) ∷ t) (λ e. omega arith) (λ e. omega arith)
      ∙ ap (λ l. (192 + c / 64) ∷ l) (kept (128 + c % 64) t (λ e. omega arith) (λ e. omega arith))
      ∙ ap (λ l. l ++ pass false t) (sym (written_plain c (inr (omega arith)) ∙ is))
]

-- none of its octets is C2 or 7F
AreOthers : List ℕ → Type 0
AreOthers [] = Unit {0}
AreOthers (x ∷ xs) = ((x < 192) ⊎ (224 ≤ x)) × (128 ≤ x) × AreOthers xs

kept_others : (xs t : List ℕ) → AreOthers xs → pass false (xs ++ t) ≡ xs ++ pass false t
unfolding AreOthers
kept_others [] t h = refl
kept_others (x ∷ xs) t h =
    let far : (x ≡ 194 → ⊥) = λ e. elim h.0 [ inl low ↦ omega arith | inr high ↦ omega arith ] in
    let high : 128 ≤ x = h.1 in
    kept x (xs ++ t) far (λ e. omega arith) ∙ ap (λ l. x ∷ l) (kept_others xs t h.2)

next_other : (n : ℕ) → ((128 + n % 64 < 192) ⊎ (224 ≤ 128 + n % 64)) × (128 ≤ 128 + n % 64)
next_other n = (inl (omega arith), omega arith)

others : (c : ℕ) → 2048 ≤ c → AreOthers (encode c)
unfolding AreOthers encode
others c low = elim (cases_lt c 65536) [
  | inl three ↦ rw (le-ltb c 128 (omega arith), le-ltb c 2048 low, lt-ltb c 65536 three) (
    inr (omega arith),
    omega arith,
    ((next_other (c / 64)).0, (next_other (c / 64)).1, ((next_other c).0, (next_other c).1, tt)),
  )
  | inr four ↦ rw (le-ltb c 128 (omega arith), le-ltb c 2048 low, le-ltb c 65536 four) (
    inr (omega arith),
    omega arith,
    (
      (next_other (c / 4096)).0,
      (next_other (c / 4096)).1,
      ((next_other (c / 64)).0, (next_other (c / 64)).1, ((next_other c).0, (next_other c).1, tt)),
    ),
  )
]

more_octets : (c : ℕ) (t : List ℕ) → 2048 ≤ c → pass false (encode c ++ t) ≡ written c ++ pass false t
more_octets c t low = kept_others (encode c) t (others c low)
    ∙ ap (λ l. l ++ pass false t) (sym (written_plain c (inr (omega arith))))

one : (c : ℕ) (t : List ℕ) → pass false (encode c ++ t) ≡ written c ++ pass false t
one c t = elim (cases_lt c 128) [
  | inl small ↦ one_octet c t small
  | inr low ↦ elim (cases_lt c 2048) [ inl high ↦ two_octets c t low high | inr more ↦ more_octets c t more ]
]

of_characters : (cs : List ℕ) → pass false (encodes cs) ≡ flat_map written cs
unfolding pass
of_characters [] = refl
of_characters (c ∷ cs) = one c (encodes cs) ∙ ap (λ l. written c ++ l) (of_characters cs)

pub passed : (text : List ℕ) → IsUtf8 text → escaped text ≡ pass false text
passed text u = sym (of_characters (chars text)) ∙ ap (pass false) (encodes-chars text u)

-- where neither stands in it, a text stays
pub unchanged : (text : List ℕ)
    → ((k : ℕ) → k < length text → (get_or text k 0 ≡ 194 → ⊥) × (get_or text k 0 ≡ 127 → ⊥)) → pass false text ≡ text
unfolding pass
unchanged [] h = refl
unchanged (x ∷ xs) h =
    kept x xs (h 0 (omega arith)).0 (h 0 (omega arith)).1
    ∙ ap (λ l. x ∷ l) (unchanged xs (λ k below. h (suc k) (omega arith)))
