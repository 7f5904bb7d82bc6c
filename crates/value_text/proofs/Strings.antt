-- A string whose characters stand as escapes is read as before.
use Rattle.std.proofs.Common.{◌≡◌, ℕ, ◌+◌, ◌*◌, ◌/◌, ◌%◌, ◌<◌, ◌≤◌, Bool, true, false, cond, List, [], ◌∷◌, ◌++◌, Option, Some, None, inl, inr, ◌⊎◌, refl, sym, ap, ◌∙◌, subst, arith, append_assoc}
use Rattle.std.proofs.lemmas.Bool.{cases_eq, cases_lt, ne_eqb, lt-ltb, le-ltb, lt-leb}
use Rattle.std.proofs.lemmas.Str.{digit_value-digit_char}
use Rattle.std.specs.Char.{digit_char, encode_utf8}
use lib.Utf8.{encode}
use Rattle.json.specs.Text.{content, plain, prepend, code_unit, short_escape}
use Rattle.json.specs.Word.{is_operator, is_space}
use Rattle.json.specs.Lex.{Lexeme, Mode, lex, lex_byte, between, in_string, operator, space, other}
use Rattle.json.specs.Print.{escape_byte, escape}
use Rattle.json.proofs.Printed.Strings.{escape_byte_plain}
use Rattle.value_text.specs.Escaped.{escape_of}
use Rattle.value_text.proofs.Passed.{held, pass, AreLow, kept, kept_behind, escaped_behind, kept_low, kept_all, of_c2}

-- an octet that stands for itself in a string
stays_inside : (o s : Bool) (x : ℕ) (r : List ℕ) (k : Mode → List Lexeme)
    → lex_byte in_string (cond o operator (cond s space other)) x r k ≡ k in_string
stays_inside true s x r k = refl
stays_inside false true x r k = refl
stays_inside false false x r k = refl

lex_plain : (x : ℕ) (r : List ℕ) → (x ≡ 34 → ⊥) → (x ≡ 92 → ⊥) → lex in_string (x ∷ r) ≡ lex in_string r
unfolding lex
lex_plain x r q b = rw (ne_eqb x 34 q, ne_eqb x 92 b) (stays_inside (is_operator x) (is_space x) x r (λ m. lex m r))

read_plain : (x : ℕ) (r : List ℕ) → (x ≡ 34 → ⊥) → (x ≡ 92 → ⊥) → 32 ≤ x
    → content plain (x ∷ r) ≡ prepend (x ∷ []) (content plain r)
unfolding content
read_plain x r q b l = rw (ne_eqb x 34 q, ne_eqb x 92 b, le-ltb x 32 l)

-- the escape of a character below U+0100
digit_bounds : (n : ℕ) → n < 16 → (48 ≤ digit_char n) × (digit_char n < 103) × (digit_char n ≡ 92 → ⊥)
digit_bounds n small = elim (cases_lt n 10) [
  | inl low ↦ let is : digit_char n ≡ 48 + n = rw (lt-ltb n 10 low) in (omega arith, omega arith, λ e. omega arith)
  | inr high ↦ let is : digit_char n ≡ 87 + n = rw (le-ltb n 10 high) in (omega arith, omega arith, λ e. omega arith)
]

unit : (h l : ℕ) → h < 16 → l < 16 → code_unit 48 48 (digit_char h) (digit_char l) ≡ Some (h * 16 + l)
unfolding code_unit
unit h l a b = rw (
  digit_value-digit_char h (omega arith),
  digit_value-digit_char l (omega arith),
  lt-ltb h 16 a,
  lt-ltb l 16 b,
) (let e : 0 + h * 16 + l ≡ h * 16 + l = omega arith in ap Some e)

read_escape : (c : ℕ) (r : List ℕ) → c < 256 → content plain (escape_of c ++ r)
    ≡ prepend (encode_utf8 c) (content plain r)
unfolding content
read_escape c r small =
    let whole : (c / 16) * 16 + c % 16 ≡ c = omega arith in
    let is = unit (c / 16) (c % 16) (omega arith) (omega arith) ∙ ap Some whole in
    rw (is, lt-leb 0xd800 c (omega arith), lt-leb 0xdc00 c (omega arith)) refl

lex_escape : (c : ℕ) (r : List ℕ) → c < 256 → lex in_string (escape_of c ++ r) ≡ lex in_string r
unfolding lex
lex_escape c r small =
    let high = digit_bounds (c / 16) (omega arith) in
    let low = digit_bounds (c % 16) (omega arith) in
    lex_plain (digit_char (c / 16)) _ (λ e. omega arith) high.2
    ∙ lex_plain (digit_char (c % 16)) r (λ e. omega arith) low.2

low_escape : (c : ℕ) → c < 256 → AreLow (escape_of c)
low_escape c small =
    let high = digit_bounds (c / 16) (omega arith) in
    let low = digit_bounds (c % 16) (omega arith) in
    (omega arith, (omega arith, (omega arith, (omega arith, (omega arith, (omega arith, tt))))))

-- an octet that JSON escapes
record IsEscaped (x : ℕ) : Type 0 where
  rest : List ℕ
  is : escape_byte x ≡ 92 ∷ rest
  low : AreLow rest
  read : (r : List ℕ) → content plain (92 ∷ (rest ++ r)) ≡ prepend (x ∷ []) (content plain r)
  lexed : (r : List ℕ) → lex in_string (92 ∷ (rest ++ r)) ≡ lex in_string r

quote_escaped : IsEscaped 34
unfolding escape_byte content lex short_escape
quote_escaped = record { rest = 34 ∷ []; is = refl; low = (omega arith, tt); read = λ r. refl; lexed = λ r. refl }

backslash_escaped : IsEscaped 92
unfolding escape_byte content lex short_escape
backslash_escaped = record { rest = 92 ∷ []; is = refl; low = (omega arith, tt); read = λ r. refl; lexed = λ r. refl }

backspace_escaped : IsEscaped 8
unfolding escape_byte content lex short_escape
backspace_escaped = record { rest = 98 ∷ []; is = refl; low = (omega arith, tt); read = λ r. refl; lexed = λ r. refl }

tab_escaped : IsEscaped 9
unfolding escape_byte content lex short_escape
tab_escaped = record { rest = 116 ∷ []; is = refl; low = (omega arith, tt); read = λ r. refl; lexed = λ r. refl }

line_escaped : IsEscaped 10
unfolding escape_byte content lex short_escape
line_escaped = record { rest = 110 ∷ []; is = refl; low = (omega arith, tt); read = λ r. refl; lexed = λ r. refl }

form_escaped : IsEscaped 12
unfolding escape_byte content lex short_escape
form_escaped = record { rest = 102 ∷ []; is = refl; low = (omega arith, tt); read = λ r. refl; lexed = λ r. refl }

return_escaped : IsEscaped 13
unfolding escape_byte content lex short_escape
return_escaped = record { rest = 114 ∷ []; is = refl; low = (omega arith, tt); read = λ r. refl; lexed = λ r. refl }

ascii_itself : (c : ℕ) → c < 128 → encode_utf8 c ≡ c ∷ []
unfolding encode
ascii_itself c small = rw (lt-ltb c 128 small)

other_escaped : (x : ℕ) → x < 32 → (x ≡ 8 → ⊥) → (x ≡ 9 → ⊥) → (x ≡ 10 → ⊥) → (x ≡ 12 → ⊥) → (x ≡ 13 → ⊥) → IsEscaped x
unfolding escape_byte
other_escaped x small b t n f r =
    let low = low_escape x (omega arith) in
    record {
      rest = 117 ∷ 48 ∷ 48 ∷ digit_char (x / 16) ∷ digit_char (x % 16) ∷ [];
      is = rw (
        ne_eqb x 34 (λ e. omega arith),
        ne_eqb x 92 (λ e. omega arith),
        ne_eqb x 8 b,
        ne_eqb x 12 f,
        ne_eqb x 10 n,
        ne_eqb x 13 r,
        ne_eqb x 9 t,
        lt-ltb x 32 small,
      ) refl;
      low = low.1;
      read = λ r. read_escape x r (omega arith) ∙ ap (λ l. prepend l (content plain r)) (ascii_itself x (omega arith));
      lexed = λ r. lex_escape x r (omega arith);
    }

control_escaped : (x : ℕ) → x < 32 → IsEscaped x
control_escaped x small = elim (cases_eq x 8) [
  | inl e ↦ subst IsEscaped (sym e) backspace_escaped
  | inr b ↦ elim (cases_eq x 9) [
    | inl e ↦ subst IsEscaped (sym e) tab_escaped
    | inr t ↦ elim (cases_eq x 10) [
      | inl e ↦ subst IsEscaped (sym e) line_escaped
      | inr n ↦ elim (cases_eq x 12) [
        | inl e ↦ subst IsEscaped (sym e) form_escaped
        | inr f ↦ elim (cases_eq x 13) [
          | inl e ↦ subst IsEscaped (sym e) return_escaped
          | inr r ↦ other_escaped x small b t n f r
        ]
      ]
    ]
  ]
]

-- an octet that JSON leaves
record IsPlain (x : ℕ) : Type 0 where
  quote : x ≡ 34 → ⊥
  backslash : x ≡ 92 → ⊥
  high : 32 ≤ x

cases_of : (x : ℕ) → IsEscaped x ⊎ IsPlain x
cases_of x = elim (cases_lt x 32) [
  | inl small ↦ inl (control_escaped x small)
  | inr high ↦ elim (cases_eq x 34) [
    | inl e ↦ inl (subst IsEscaped (sym e) quote_escaped)
    | inr q ↦ elim (cases_eq x 92) [
      | inl e ↦ inl (subst IsEscaped (sym e) backslash_escaped)
      | inr b ↦ inr (record { quote = q; backslash = b; high = high })
    ]
  ]
]

prepend-nil : (o : Option (List ℕ)) → prepend [] o ≡ o
prepend-nil None = refl
prepend-nil (Some s) = refl

-- what is read of a text that begins with what was held back
held_read : (b : Bool) (u : List ℕ) → content plain (held b ++ u) ≡ prepend (held b) (content plain u)
unfolding content
held_read false u = sym (prepend-nil _)
held_read true u = refl

held_lexed : (b : Bool) (u : List ℕ) → lex in_string (held b ++ u) ≡ lex in_string u
unfolding lex
held_lexed false u = refl
held_lexed true u = refl

-- The text says what was held back and s, and ends before r.
pub record Says (held : List ℕ) (s : List ℕ) (text : List ℕ) (r : List ℕ) : Type 0 where
  pub read : content plain text ≡ Some (held ++ s)
  pub lexed : lex in_string text ≡ lex between r

-- one more front
more : (b : Bool) (front octets s u r : List ℕ)
    → ((w : List ℕ) → content plain (front ++ w) ≡ prepend octets (content plain w))
    → ((w : List ℕ) → lex in_string (front ++ w) ≡ lex in_string w)
    → Says [] s u r → Says (held b) (octets ++ s) (held b ++ (front ++ u)) r
more b front octets s u r read lexed says = record {
  read = held_read b (front ++ u) ∙ ap (prepend (held b)) (read u ∙ ap (prepend octets) says.read);
  lexed = held_lexed b (front ++ u) ∙ lexed u ∙ says.lexed;
}

delete_passed : (b : Bool) (t : List ℕ) → pass b (127 ∷ t) ≡ held b ++ (escape_of 127 ++ pass false t)
unfolding pass
delete_passed false t = refl
delete_passed true t = refl

module _ (s t r : List ℕ) (next : (b : Bool) → Says (held b) s (pass b t) r) where
  behind_escape : (b : Bool) (x : ℕ) → IsEscaped x → Says (held b) (x ∷ s) (pass b (escape_byte x ++ t)) r
  behind_escape b x e =
      let low : 92 < 127 = omega arith in
      let passed = ap (λ l. pass b (l ++ t)) e.is ∙ kept_low b 92 (e.rest ++ t) low
      ∙ ap (λ l. held b ++ (92 ∷ l)) (kept_all e.rest t e.low) in
      subst (λ l. Says (held b) (x ∷ s) l r) (sym passed)
      (more b (92 ∷ e.rest) (x ∷ []) s (pass false t) r e.read e.lexed (next false))

  itself : (b : Bool) (x : ℕ) → IsPlain x → pass b (x ∷ t) ≡ held b ++ (x ∷ pass false t)
      → Says (held b) (x ∷ s) (pass b (x ∷ t)) r
  itself b x p e = subst (λ l. Says (held b) (x ∷ s) l r) (sym e)
      (more b (x ∷ []) (x ∷ []) s (pass false t) r (λ w. read_plain x w p.quote p.backslash p.high)
      (λ w. lex_plain x w p.quote p.backslash) (next false))

  delete : (b : Bool) → Says (held b) (127 ∷ s) (pass b (127 ∷ t)) r
  delete b = subst (λ l. Says (held b) (127 ∷ s) l r) (sym (delete_passed b t))
      (more b (escape_of 127) (127 ∷ []) s (pass false t) r
      (λ w. read_escape 127 w (omega arith)
      ∙ ap (λ l. prepend l (content plain w)) (ascii_itself 127 (omega arith)))
      (λ w. lex_escape 127 w (omega arith)) (next false))

  lead : (b : Bool) → Says (held b) (194 ∷ s) (pass b (194 ∷ t)) r
  unfolding pass
  lead false = record { read = (next true).read; lexed = (next true).lexed }
  lead true = more true [] [] (194 ∷ s) (pass true t) r (λ w. sym (prepend-nil _)) (λ w. refl)
      (record { read = (next true).read; lexed = (next true).lexed })

  control : (x : ℕ) → 128 ≤ x → x < 160 → Says (194 ∷ []) (x ∷ s) (pass true (x ∷ t)) r
  control x low high =
      let octets = λ (w : List ℕ). read_escape x w (omega arith)
      ∙ ap (λ l. prepend l (content plain w)) (of_c2 x low (omega arith)) in
      let is = more false (escape_of x) (194 ∷ x ∷ []) s (pass false t) r octets (λ w. lex_escape x w (omega arith))
      (next false) in
      subst (λ l. Says (194 ∷ []) (x ∷ s) l r) (sym (escaped_behind x t low high))
      (record { read = is.read; lexed = is.lexed })

  behind_plain : (b : Bool) (x : ℕ) → IsPlain x → Says (held b) (x ∷ s) (pass b (x ∷ t)) r
  behind_plain b x p = elim (cases_eq x 194) [
    | inl e ↦ subst (λ y. Says (held b) (y ∷ s) (pass b (y ∷ t)) r) (sym e) (lead b)
    | inr no_lead ↦ elim (cases_eq x 127) [
      | inl e ↦ subst (λ y. Says (held b) (y ∷ s) (pass b (y ∷ t)) r) (sym e) (delete b)
      | inr no_delete ↦ by_place b no_lead no_delete (cases_lt x 128) (cases_lt x 160)
    ]
  ]
    where
      by_place : (b : Bool) → (x ≡ 194 → ⊥) → (x ≡ 127 → ⊥) → (x < 128) ⊎ (128 ≤ x) → (x < 160) ⊎ (160 ≤ x)
          → Says (held b) (x ∷ s) (pass b (x ∷ t)) r
      by_place false l d low high = itself false x p (kept x t l d)
      by_place true l d (inl low) high = itself true x p (kept_behind x t (inl low) l d)
      by_place true l d (inr low) (inl high) = control x low high
      by_place true l d (inr low) (inr high) = itself true x p (kept_behind x t (inr high) l d)

pub says : (b : Bool) (s r : List ℕ) → Says (held b) s (pass b (escape s ++ 34 ∷ r)) (pass false r)
unfolding content lex
says b [] r =
    let low : 34 < 127 = omega arith in
    subst (λ l. Says (held b) [] l (pass false r)) (sym (kept_low b 34 r low))
    (record { read = held_read b (34 ∷ pass false r); lexed = held_lexed b (34 ∷ pass false r) })
says b (x ∷ s) r =
    let t = escape s ++ 34 ∷ r in
    let ends = pass false r in
    let next : (b : Bool) → Says (held b) s (pass b t) ends = λ b. says b s r in
    subst (λ l. Says (held b) (x ∷ s) (pass b l) ends) (sym (append_assoc (escape_byte x) (escape s) (34 ∷ r)))
    (elim (cases_of x) [
      | inl e ↦ behind_escape s t ends next b x e
      | inr p ↦ subst (λ l. Says (held b) (x ∷ s) (pass b (l ++ t)) ends)
          (sym (escape_byte_plain x p.quote p.backslash p.high)) (behind_plain s t ends next b x p)
    ])
