-- Every octet of a token is ASCII and no line feed: so the source may be cut at its ends, and it lies on one line.
use Rattle.std.proofs.Common.{◌≡◌, ◌∙◌, ℕ, zero, suc, ◌+◌, ◌-◌, ◌<◌, ◌≤◌, ◌≢◌, Bool, true, false, not, ◌&&◌, ◌||◌, ◌==◌, ◌⊎◌, inl, inr, List, [], ◌∷◌, nat_lt, codes, length, take, drop, count_by, slice_index, refl, arith}
use Rattle.std.specs.Char.{is_ascii, is_ascii_hexdigit}
use Rattle.std.specs.List.{list_all}
use Rattle.std.specs.Str.{IsUtf8, IsCharBoundary}
use Rattle.std.proofs.lemmas.Bool.{cases_lt, eqb-true}
use Rattle.std.proofs.lemmas.Bool.Decides.{nat_tests}
use Rattle.std.proofs.lemmas.List.{get_or-drop, get_or-take, length-take}
use Rattle.std.proofs.lemmas.List.Folds.{list_all_at, length-prefix_len}
use Rattle.std.proofs.lemmas.List.Sums.{prefix_len_passes}
use Rattle.std.proofs.lemmas.Str.{IsCharBoundary-after_ascii}
use Rattle.idl_lexer.specs.declared.token.Kind.{Kind}
use Rattle.idl_lexer.specs.declared.token.Kind.TheVariants.{Ident, Keyword, Punct, Number, CharLit, TextLit, Pragma}
use Rattle.idl_lexer.specs.Octets.{is_word, is_one_of, is_line_feed, is_octal, run}
use Rattle.idl_lexer.specs.Words.{IsWord, IsIdentifier}
use Rattle.idl_lexer.specs.Numbers.{is_word_or_point}
use Rattle.idl_lexer.specs.Punctuation.{is_pair, is_punctuation, opens_comment}
use Rattle.idl_lexer.specs.Literals.{is_escape_letter, is_plain, IsCharacter, plain, letter, octal, hexadecimal, AreCharacters, none, more}
use Rattle.idl_lexer.specs.Directives.{line_of}
use Rattle.idl_lexer.specs.Forms.{Begins, IsPragmaLine}

-- an octet that may stand in a token
pub record Inner (c : ℕ) : Type 0 where
  pub ascii : c < 128
  pub on_line : c ≢ 10

numeral : (c d : ℕ) → c ≡ d → d < 128 → d ≢ 10 → Inner c
numeral c d e small other = record { ascii = omega arith; on_line = omega arith }

other : (p : ℕ → Bool) (c : ℕ) → p 10 ≡ false → p c ≡ true → c ≢ 10
other p c fails h = λ e. cc

word_ascii : (c : ℕ) → is_word c ≡ true → c < 128
word_ascii c h = grind (arith, nat_tests)

word_inner : (c : ℕ) → is_word c ≡ true → Inner c
word_inner c h = record { ascii = word_ascii c h; on_line = other is_word c refl h }

point_ascii : (c : ℕ) → is_word_or_point c ≡ true → c < 128
point_ascii c h = grind (arith, nat_tests)

point_inner : (c : ℕ) → is_word_or_point c ≡ true → Inner c
point_inner c h = record { ascii = point_ascii c h; on_line = other is_word_or_point c refl h }

octal_inner : (c : ℕ) → is_octal c ≡ true → Inner c
octal_inner c h = record { ascii = grind (arith, nat_tests); on_line = other is_octal c refl h }

hex_ascii : (c : ℕ) → is_ascii_hexdigit c ≡ true → c < 128
hex_ascii c h = grind (arith, nat_tests)

hex_inner : (c : ℕ) → is_ascii_hexdigit c ≡ true → Inner c
hex_inner c h = record { ascii = hex_ascii c h; on_line = other is_ascii_hexdigit c refl h }

plain_inner : (quote c : ℕ) → is_plain quote c ≡ true → Inner c
plain_inner quote c h = record { ascii = grind (arith, nat_tests); on_line = grind (arith, nat_tests) }

run_at : (p : ℕ → Bool) (s : List ℕ) (n k : ℕ) → n ≡ run p s → k < n → p (slice_index s k) ≡ true
run_at p s n k e lt = prefix_len_passes p s k 0 (omega arith)

at_inner : (s : List ℕ) (j k : ℕ) → j ≡ k → Inner (slice_index s j) → Inner (slice_index s k)
at_inner s j k e h = rw e at h

-- what stands behind the first octets
behind_inner : (s : List ℕ) (i j k : ℕ) → i + j ≡ k → Inner (slice_index (drop i s) j) → Inner (slice_index s k)
behind_inner s i j k e h = at_inner s (i + j) k e (rw (get_or-drop i s j 0) at h)

escaped_inner : (s : List ℕ) (inner k : ℕ) → slice_index s 0 ≡ 95 → IsWord (drop 1 s) inner → k < inner + 1
    → Inner (slice_index s k)
escaped_inner s inner zero u w lt = numeral _ 95 u (omega arith) (omega arith)
escaped_inner s inner (suc m) u w lt =
    behind_inner s 1 m (suc m) (omega arith) (word_inner _ (run_at is_word (drop 1 s) inner m w.whole (omega arith)))

identifier_inner : (s : List ℕ) (n k : ℕ) → IsIdentifier s n → k < n → Inner (slice_index s k)
identifier_inner s n k (inl name) lt = word_inner _ (run_at is_word s n k name.word.whole lt)
identifier_inner s n k (inr name) lt =
    escaped_inner s name.inner k name.underscore name.word (omega (arith, name.length))

pub and_true : (a b : Bool) → (a && b) ≡ true → (a ≡ true) × (b ≡ true)
and_true true b h = (refl, h)
and_true false b h = cc

pub or_true : (a b : Bool) → (a || b) ≡ true → (a ≡ true) ⊎ (b ≡ true)
or_true true b h = inl refl
or_true false b h = inr h

one_ascii : (ds : List ℕ) (c : ℕ) → list_all (λ d. nat_lt d 128) ds ≡ true → is_one_of ds c ≡ true → c < 128
one_ascii [] c all any = cc
one_ascii (d ∷ ds) c all any =
    let both = and_true (nat_lt d 128) (list_all (λ e. nat_lt e 128) ds) all in
    elim (or_true (d == c) (is_one_of ds c) any) [
      | inl here ↦ let small = both.0 in grind (arith, nat_tests, here, small)
      | inr later ↦ one_ascii ds c both.1 later
    ]

abbrev pub marks : List ℕ
marks = codes "{};:,()=<>[]|^&+-*/%"

mark_inner : (c : ℕ) → is_one_of marks c ≡ true → Inner c
mark_inner c h = record { ascii = one_ascii marks c refl h; on_line = other (is_one_of marks) c refl h }

pair_first : (a b : ℕ) → is_pair a b ≡ true → Inner a
pair_first a b h = record { ascii = grind (arith, nat_tests); on_line = other (λ c. is_pair c b) a refl h }

pair_second : (a b : ℕ) → is_pair a b ≡ true → Inner b
pair_second a b h = record { ascii = grind (arith, nat_tests); on_line = grind (arith, nat_tests) }

pair_inner : (s : List ℕ) (k : ℕ) → is_pair (slice_index s 0) (slice_index s 1) ≡ true → k < 2 → Inner (slice_index s k)
pair_inner s zero h lt = pair_first (slice_index s 0) (slice_index s 1) h
pair_inner s (suc zero) h lt = pair_second (slice_index s 0) (slice_index s 1) h
pair_inner s (suc (suc k)) h lt = absurd (omega arith)

punctuation_inner : (s : List ℕ) (n k : ℕ) → is_punctuation s n ≡ true → k < n → Inner (slice_index s k)
punctuation_inner s n k h lt =
    let a = slice_index s 0 in
    let b = slice_index s 1 in
    let single = n == 1 && is_one_of marks a in
    elim (or_true (n == 2 && is_pair a b) (single && not (is_pair a b) && not (opens_comment a b)) h) [
      | inl two ↦ (let both = and_true (n == 2) (is_pair a b) two in
          pair_inner s k both.1 (omega (arith, eqb-true n 2 both.0)))
      | inr one ↦ (
          let outer = and_true (single && not (is_pair a b)) (not (opens_comment a b)) one in
          let inner = and_true single (not (is_pair a b)) outer.0 in
          let both = and_true (n == 1) (is_one_of marks a) inner.0 in
          at_inner s 0 k (omega (arith, eqb-true n 1 both.0)) (mark_inner a both.1))
    ]

octal_digits : (s : List ℕ) (m k : ℕ) → slice_index s 0 ≡ 92 → m ≤ run is_octal (drop 1 s) → k < m + 1
    → Inner (slice_index s k)
octal_digits s m zero b some lt = numeral _ 92 b (omega arith) (omega arith)
octal_digits s m (suc j) b some lt =
    behind_inner s 1 j (suc j) (omega arith) (octal_inner _ (run_at is_octal (drop 1 s) _ j refl (omega arith)))

hex_digits : (s : List ℕ) (m k : ℕ) → slice_index s 0 ≡ 92 → slice_index s 1 ≡ 120
    → m ≤ run is_ascii_hexdigit (drop 2 s) → k < m + 2 → Inner (slice_index s k)
hex_digits s m zero b x some lt = numeral _ 92 b (omega arith) (omega arith)
hex_digits s m (suc zero) b x some lt = numeral _ 120 x (omega arith) (omega arith)
hex_digits s m (suc (suc j)) b x some lt =
    behind_inner s 2 j (suc (suc j)) (omega arith)
    (hex_inner _ (run_at is_ascii_hexdigit (drop 2 s) _ j refl (omega arith)))

letter_inner : (c : ℕ) → is_escape_letter c ≡ true → Inner c
letter_inner c h = record {
  ascii =
      one_ascii (codes "ntvbrfa\\?'\"") c refl h;
  on_line = other is_escape_letter c refl h;
}

letter_pair : (s : List ℕ) (k : ℕ) → slice_index s 0 ≡ 92 → is_escape_letter (slice_index s 1) ≡ true → k < 2
    → Inner (slice_index s k)
letter_pair s zero b e lt = numeral _ 92 b (omega arith) (omega arith)
letter_pair s (suc zero) b e lt = letter_inner _ e
letter_pair s (suc (suc k)) b e lt = absurd (omega arith)

character_inner : (quote : ℕ) (s : List ℕ) (n v k : ℕ) → IsCharacter quote s n v → k < n → Inner (slice_index s k)
character_inner quote s n v k (plain some here is one) lt =
    at_inner s 0 k (omega arith) (rw here (plain_inner quote v is))
character_inner quote s n v k (letter b e is two) lt = letter_pair s k b e (omega arith)
character_inner quote s n v k (octal m b digits small e) lt =
    octal_digits s m k b (omega (arith, digits.whole)) (omega arith)
character_inner quote s n v k (hexadecimal m b x digits e) lt =
    hex_digits s m k b x (omega (arith, digits.whole)) (omega arith)

characters_inner : (quote : ℕ) (s : List ℕ) (m k : ℕ) (vs : List ℕ) → AreCharacters quote s m vs → k < m
    → Inner (slice_index s k)
characters_inner quote s m k vs (none s1) lt = absurd (omega arith)
characters_inner quote s m k vs (more s1 n v m1 k1 vs1 char nz rest e) lt =
    elim (cases_lt k n) [
      | inl in_it ↦ character_inner quote s n v k char in_it
      | inr behind ↦ behind_inner s n (k - n) k (omega arith)
          (characters_inner quote (drop n s) m1 (k - n) vs1 rest (omega arith))
    ]

char_literal_inner : (s : List ℕ) (inner v k : ℕ) → slice_index s 0 ≡ 39 → IsCharacter 39 (drop 1 s) inner v
    → slice_index s (inner + 1) ≡ 39 → k < inner + 2 → Inner (slice_index s k)
char_literal_inner s inner v zero opens char closes lt = numeral _ 39 opens (omega arith) (omega arith)
char_literal_inner s inner v (suc j) opens char closes lt =
    elim (cases_lt j inner) [
      | inl in_it ↦ behind_inner s 1 j (suc j) (omega arith) (character_inner 39 (drop 1 s) inner v j char in_it)
      | inr behind ↦ at_inner s (inner + 1) (suc j) (omega arith) (numeral _ 39 closes (omega arith) (omega arith))
    ]

text_literal_inner : (s : List ℕ) (inner k : ℕ) (vs : List ℕ) → slice_index s 0 ≡ 34
    → AreCharacters 34 (drop 1 s) inner vs → slice_index s (inner + 1) ≡ 34 → k < inner + 2 → Inner (slice_index s k)
text_literal_inner s inner zero vs opens chars closes lt = numeral _ 34 opens (omega arith) (omega arith)
text_literal_inner s inner (suc j) vs opens chars closes lt =
    elim (cases_lt j inner) [
      | inl in_it ↦ behind_inner s 1 j (suc j) (omega arith) (characters_inner 34 (drop 1 s) inner j vs chars in_it)
      | inr behind ↦ at_inner s (inner + 1) (suc j) (omega arith) (numeral _ 34 closes (omega arith) (omega arith))
    ]

true_at : (p : ℕ → Bool) (xs : List ℕ) (i : ℕ) → i < length xs → list_all p xs ≡ true → p (slice_index xs i) ≡ true
true_at p xs i lt all = passed (p (slice_index xs i)) (list_all_at p xs i 0 lt)
  where
    passed : (b : Bool) → (b ≡ false → list_all p xs ≡ false) → b ≡ true
    passed true h = refl
    passed false h = let no = h refl in cc (no, all)

ascii_below : (c : ℕ) → is_ascii c ≡ true → c < 128
ascii_below c h = grind (arith, nat_tests)

abbrev on_one_line : ℕ → Bool
on_one_line c = not (is_line_feed c)

pragma_inner : (before s : List ℕ) (n k : ℕ) → IsPragmaLine before s n → k < n → Inner (slice_index s k)
pragma_inner before s n k line lt =
    let there : is_ascii (slice_index (line_of s) k) ≡ true =
    true_at is_ascii (line_of s) k (omega (arith, line.whole)) line.ascii in
    let long : length (line_of s) ≡ run on_one_line s = length-prefix_len on_one_line s in
    let same : slice_index (line_of s) k ≡ slice_index s k =
    get_or-take (run on_one_line s) s k 0 (omega (arith, line.whole, long)) in
    record {
      ascii = omega (arith, ascii_below _ there, same);
      on_line = other on_one_line _ refl (run_at on_one_line s n k (line.whole ∙ long) lt);
    }

pub Begins-inner : (kind : Kind) (before s : List ℕ) (n k : ℕ) → Begins kind before s n → k < n
    → Inner (slice_index s k)
Begins-inner Ident before s n k t lt = identifier_inner s n k t lt
Begins-inner Keyword before s n k t lt = word_inner _ (run_at is_word s n k t.word.whole lt)
Begins-inner Punct before s n k t lt = punctuation_inner s n k t lt
Begins-inner Number before s n k t lt = point_inner _ (run_at is_word_or_point s n k t.whole lt)
Begins-inner CharLit before s n k t lt =
    char_literal_inner s t.inner t.value k t.opens t.character t.closes (omega (arith, t.length))
Begins-inner TextLit before s n k t lt =
    text_literal_inner s t.inner k t.octets t.opens t.characters t.closes (omega (arith, t.length))
Begins-inner Pragma before s n k t lt = pragma_inner before s n k t lt

-- a source may be cut behind a token
pub cut_behind : (source : List ℕ) (at end : ℕ) (kind : Kind) (before : List ℕ) → IsUtf8 source → at < end
    → end ≤ length source → Begins kind before (drop at source) (end - at) → IsCharBoundary source end
cut_behind source at end kind before utf8 some le t =
    let last : Inner (slice_index source (end - 1)) =
    behind_inner source at (end - 1 - at) (end - 1) (omega arith)
    (Begins-inner kind before (drop at source) (end - at) (end - 1 - at) t (omega arith)) in
    let same : end - 1 + 1 ≡ end = omega arith in
    rw same at (IsCharBoundary-after_ascii source (end - 1) utf8 (omega arith) last.ascii)

no_feeds : (t : List ℕ) → ((k : ℕ) → k < length t → slice_index t k ≢ 10) → count_by is_line_feed t ≡ 0
no_feeds [] h = refl
no_feeds (c ∷ cs) h =
    let first : c ≢ 10 = h 0 (omega arith) in
    let rest : count_by is_line_feed cs ≡ 0 = no_feeds cs (λ k lt. h (suc k) (omega arith)) in
    grind (arith, nat_tests)

-- a token lies on one line
pub Begins-on_line : (kind : Kind) (before s : List ℕ) (n : ℕ) → n ≤ length s → Begins kind before s n
    → count_by is_line_feed (take n s) ≡ 0
Begins-on_line kind before s n within t =
    no_feeds (take n s) (λ k lt.
    let inside : k < n = omega (arith, length-take n s, lt) in
    let same : slice_index (take n s) k ≡ slice_index s k = get_or-take n s k 0 inside in
    let inner : Inner (slice_index s k) = Begins-inner kind before s n k t inside in
    rw same inner.on_line)
