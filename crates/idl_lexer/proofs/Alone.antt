-- A token's text is one token, and nothing more, by itself too.
use Rattle.std.proofs.Common.{◌≡◌, ◌∙◌, ℕ, zero, suc, ◌+◌, ◌-◌, ◌<◌, ◌≤◌, Bool, true, false, not, ◌&&◌, ◌||◌, ◌==◌, ◌⊎◌, inl, inr, List, [], ◌∷◌, cond, min, length, take, drop, slice_index, ap, sym, refl, arith}
use Rattle.std.specs.Char.{is_ascii_alphabetic, is_ascii_hexdigit}
use Rattle.std.specs.Str.Parse.{digits_value}
use Rattle.std.proofs.lemmas.Bool.{eqb-true}
use Rattle.std.proofs.lemmas.Bool.Decides.{nat_tests}
use Rattle.std.proofs.lemmas.List.{drop-take, get_or-take, get_or_past, length-take, take-take}
use Rattle.std.proofs.lemmas.List.Folds.{length-prefix_len}
use Rattle.idl_lexer.specs.declared.token.Kind.{Kind}
use Rattle.idl_lexer.specs.declared.token.Kind.TheVariants.{Ident, Keyword, Punct, Number, CharLit, TextLit, Pragma}
use Rattle.idl_lexer.specs.Octets.{is_line_feed, is_octal, is_one_of, is_word, run}
use Rattle.idl_lexer.specs.Words.{is_keyword, is_keyword_in_some_case, IsIdentifier, IsWord}
use Rattle.idl_lexer.specs.Numbers.{is_word_or_point, IsInteger}
use Rattle.idl_lexer.specs.Punctuation.{is_pair, is_punctuation, opens_comment}
use Rattle.idl_lexer.specs.Literals.{IsCharacter, plain, letter, octal, hexadecimal, IsEscapeDigits, AreCharacters, none, more, IsCharLiteral, IsTextLiteral}
use Rattle.idl_lexer.specs.Directives.{line_of}
use Rattle.idl_lexer.specs.Forms.{Begins, HasForm, IsPragmaLine}
use Rattle.idl_lexer.proofs.Inside.{and_true, marks, or_true}

cut_run : (b : Bool) (a r k : ℕ) → a ≡ min k r → cond b (1 + a) 0 ≡ min (suc k) (cond b (1 + r) 0)
cut_run true a r k h = omega arith
cut_run false a r k h = omega arith

-- a run ends where the text is cut, if not before
pub run-take : (p : ℕ → Bool) (k : ℕ) (s : List ℕ) → run p (take k s) ≡ min k (run p s)
run-take p zero s = omega arith
run-take p (suc k) [] = omega arith
run-take p (suc k) (c ∷ cs) = cut_run (p c) (run p (take k cs)) (run p cs) k (run-take p k cs)

whole_run : (p : ℕ → Bool) (s : List ℕ) (n : ℕ) → n ≡ run p s → n ≡ run p (take n s)
whole_run p s n e = omega (arith, run-take p n s)

pub drop_of_take : (i k : ℕ) (s : List ℕ) → i ≤ k → drop i (take k s) ≡ take (k - i) (drop i s)
drop_of_take i k s le =
    let split : k ≡ i + (k - i) = omega arith in
    ap (λ j. drop i (take j s)) split ∙ drop-take i (k - i) s

word_alone : (s : List ℕ) (n : ℕ) → 0 < n → IsWord s n → IsWord (take n s) n
word_alone s n some w = record {
  first = rw (get_or-take n s 0 0 some) w.first;
  whole = whole_run is_word s n w.whole;
}

keyword_alone : (s : List ℕ) (n : ℕ) → is_keyword (take n s) ≡ true → is_keyword (take n (take n s)) ≡ true
keyword_alone s n h = ap is_keyword (take-take n n s (omega arith)) ∙ h

run_some : (p : ℕ → Bool) (c : ℕ) (cs : List ℕ) → p c ≡ true → 0 < run p (c ∷ cs)
run_some p c cs h = rw h (omega arith)

letter_word : (c : ℕ) → is_ascii_alphabetic c ≡ true → is_word c ≡ true
letter_word c h = grind (arith, nat_tests)

pub word_some : (s : List ℕ) (n : ℕ) → IsWord s n → 0 < n
word_some [] n w = let no = w.first in cc
word_some (c ∷ cs) n w = omega (arith, w.whole, run_some is_word c cs (letter_word c w.first))

escaped_alone : (s : List ℕ) (n inner : ℕ) → n ≡ inner + 1 → IsWord (drop 1 s) inner → IsWord (drop 1 (take n s)) inner
escaped_alone s n inner e w =
    let behind : drop 1 (take n s) ≡ take inner (drop 1 s) = drop_of_take 1 n s (omega arith)
    ∙ ap (λ k. take k (drop 1 s)) (omega arith) in
    rw behind (word_alone (drop 1 s) inner (word_some (drop 1 s) inner w) w)

identifier_alone : (s : List ℕ) (n : ℕ) → 0 < n → IsIdentifier s n → IsIdentifier (take n s) n
identifier_alone s n some (inl name) = inl (record {
  word = word_alone s n some name.word;
  unlisted = ap (λ t. not (is_keyword_in_some_case t)) (take-take n n s (omega arith)) ∙ name.unlisted;
})
identifier_alone s n some (inr name) = inr (record {
  underscore = get_or-take n s 0 0 some ∙ name.underscore;
  inner = name.inner;
  word = escaped_alone s n name.inner name.length name.word;
  length = name.length;
})

-- what the test for punctuation looks at
abbrev pub is_mark_of : ℕ → ℕ → ℕ → Bool
is_mark_of n a b =
    (n == 2 && is_pair a b) || (n == 1 && is_one_of marks a && not (is_pair a b) && not (opens_comment a b))

no_pair : (a : ℕ) → not (is_pair a 0) ≡ true
no_pair a = grind (arith, nat_tests)

no_comment : (a : ℕ) → not (opens_comment a 0) ≡ true
no_comment a = grind (arith, nat_tests)

all_true : (m p q : Bool) → m ≡ true → p ≡ true → q ≡ true → (m && p && q) ≡ true
all_true m p q hm hp hq = rw (hm, hp, hq) refl

is_mark_alone : (a b : ℕ) → is_mark_of 1 a b ≡ true → is_mark_of 1 a 0 ≡ true
is_mark_alone a b h =
    let outer = and_true (is_one_of marks a && not (is_pair a b)) (not (opens_comment a b)) h in
    let inner = and_true (is_one_of marks a) (not (is_pair a b)) outer.0 in
    all_true (is_one_of marks a) (not (is_pair a 0)) (not (opens_comment a 0)) inner.0 (no_pair a) (no_comment a)

pub punctuation_len : (n a b : ℕ) → is_mark_of n a b ≡ true → (n ≡ 1) ⊎ (n ≡ 2)
punctuation_len n a b h =
    elim (or_true (n == 2 && is_pair a b) (n == 1 && is_one_of marks a && not (is_pair a b) && not (opens_comment a b))
    h) [
      | inl two ↦ inr (eqb-true n 2 (and_true (n == 2) (is_pair a b) two).0)
      | inr one ↦ (
          let outer = and_true (n == 1 && is_one_of marks a && not (is_pair a b)) (not (opens_comment a b)) one in
          let inner = and_true (n == 1 && is_one_of marks a) (not (is_pair a b)) outer.0 in
          inl (eqb-true n 1 (and_true (n == 1) (is_one_of marks a) inner.0).0))
    ]

punctuation_alone : (s : List ℕ) (n : ℕ) → is_punctuation s n ≡ true → is_punctuation (take n s) n ≡ true
punctuation_alone s n h =
    elim (punctuation_len n (slice_index s 0) (slice_index s 1) h) [
      | inl one ↦ (
          let first : slice_index (take n s) 0 ≡ slice_index s 0 = get_or-take n s 0 0 (omega arith) in
          let second : slice_index (take n s) 1 ≡ 0 = get_or_past (take n s) 1 0 (omega (arith, length-take n s)) in
          let alone : is_mark_of 1 (slice_index s 0) 0 ≡ true =
          is_mark_alone (slice_index s 0) (slice_index s 1) (rw one at h) in
          ap (λ k. is_mark_of k (slice_index (take n s) 0) (slice_index (take n s) 1)) one
          ∙ ap (λ a. is_mark_of 1 a (slice_index (take n s) 1)) first
          ∙ ap (is_mark_of 1 (slice_index s 0)) second
          ∙ alone)
      | inr two ↦ (
          let first : slice_index (take n s) 0 ≡ slice_index s 0 = get_or-take n s 0 0 (omega arith) in
          let second : slice_index (take n s) 1 ≡ slice_index s 1 = get_or-take n s 1 0 (omega arith) in
          ap (λ a. is_mark_of n a (slice_index (take n s) 1)) first ∙ ap (is_mark_of n (slice_index s 0)) second ∙ h)
    ]

number_alone : (s : List ℕ) (n : ℕ) → IsInteger s n → IsInteger (take n s) n
number_alone s n i =
    let same : take n (take n s) ≡ take n s = take-take n n s (omega arith) in record {
      whole = whole_run is_word_or_point s n i.whole;
      form = rw same i.form;
    }

digits_alone : (test : ℕ → Bool) (radix most : ℕ) (s : List ℕ) (n v k : ℕ) → n ≤ k
    → IsEscapeDigits test radix most s n v → IsEscapeDigits test radix most (take k s) n v
digits_alone test radix most s n v k le d = record {
  some = d.some;
  whole = omega (arith, d.whole, run-take test k s);
  value = d.value ∙ ap (digits_value radix) (sym (take-take n k s le));
}

-- a character is one also where the text is cut behind it
pub IsCharacter-take : (quote : ℕ) (s : List ℕ) (n v k : ℕ) → n ≤ k → IsCharacter quote s n v
    → IsCharacter quote (take k s) n v
IsCharacter-take quote s n v k le (plain some here is one) =
    plain (omega (arith, length-take k s)) (get_or-take k s 0 0 (omega arith) ∙ here) is one
IsCharacter-take quote s n v k le (letter b e is two) =
    let second : slice_index (take k s) 1 ≡ slice_index s 1 = get_or-take k s 1 0 (omega arith) in
    letter (get_or-take k s 0 0 (omega arith) ∙ b) (rw second e) (rw second is) two
IsCharacter-take quote s n v k le (octal m b digits small e) =
    let behind : drop 1 (take k s) ≡ take (k - 1) (drop 1 s) = drop_of_take 1 k s (omega arith) in
    octal m (get_or-take k s 0 0 (omega arith) ∙ b)
    (rw behind (digits_alone is_octal 8 3 (drop 1 s) m v (k - 1) (omega arith) digits)) small e
IsCharacter-take quote s n v k le (hexadecimal m b x digits e) =
    let behind : drop 2 (take k s) ≡ take (k - 2) (drop 2 s) = drop_of_take 2 k s (omega arith) in
    hexadecimal m (get_or-take k s 0 0 (omega arith) ∙ b) (get_or-take k s 1 0 (omega arith) ∙ x)
    (rw behind (digits_alone is_ascii_hexdigit 16 2 (drop 2 s) m v (k - 2) (omega arith) digits)) e

pub AreCharacters-take : (quote : ℕ) (s : List ℕ) (m k : ℕ) (vs : List ℕ) → m ≤ k → AreCharacters quote s m vs
    → AreCharacters quote (take k s) m vs
AreCharacters-take quote s m k vs le (none s1) = none (take k s)
AreCharacters-take quote s m k vs le (more s1 n v m1 k1 vs1 char nz rest e) =
    let behind : drop n (take k s) ≡ take (k - n) (drop n s) = drop_of_take n k s (omega arith) in
    more (take k s) n v m1 m vs1 (IsCharacter-take quote s n v k (omega arith) char) nz
    (rw behind (AreCharacters-take quote (drop n s) m1 (k - n) vs1 (omega arith) rest)) e

char_alone : (s : List ℕ) (n : ℕ) → IsCharLiteral s n → IsCharLiteral (take n s) n
char_alone s n t =
    let behind : drop 1 (take n s) ≡ take (n - 1) (drop 1 s) = drop_of_take 1 n s (omega (arith, t.length)) in record {
      opens = get_or-take n s 0 0 (omega (arith, t.length)) ∙ t.opens;
      value = t.value;
      inner = t.inner;
      character = rw behind (IsCharacter-take 39 (drop 1 s) t.inner t.value (n - 1) (omega (arith, t.length))
          t.character);
      closes = get_or-take n s (t.inner + 1) 0 (omega (arith, t.length)) ∙ t.closes;
      length = t.length;
    }

text_alone : (s : List ℕ) (n : ℕ) → IsTextLiteral s n → IsTextLiteral (take n s) n
text_alone s n t =
    let behind : drop 1 (take n s) ≡ take (n - 1) (drop 1 s) = drop_of_take 1 n s (omega (arith, t.length)) in record {
      opens = get_or-take n s 0 0 (omega (arith, t.length)) ∙ t.opens;
      octets = t.octets;
      inner = t.inner;
      characters = rw behind (AreCharacters-take 34 (drop 1 s) t.inner (n - 1) t.octets (omega (arith, t.length))
          t.characters);
      closes = get_or-take n s (t.inner + 1) 0 (omega (arith, t.length)) ∙ t.closes;
      length = t.length;
    }

pragma_alone : (before s : List ℕ) (n : ℕ) → IsPragmaLine before s n → IsPragmaLine [] (take n s) n
pragma_alone before s n t =
    let long : length (line_of s) ≡ run (λ c. not (is_line_feed c)) s =
    length-prefix_len (λ c. not (is_line_feed c)) s in
    let here : n ≡ run (λ c. not (is_line_feed c)) s = t.whole ∙ long in
    let again : run (λ c. not (is_line_feed c)) (take n s) ≡ n = sym (whole_run (λ c. not (is_line_feed c)) s n here) in
    let line : line_of (take n s) ≡ line_of s = ap (λ k. take k (take n s)) again ∙ take-take n n s (omega arith)
    ∙ ap (λ k. take k s) here in record {
      fresh = record { start = 0; within = omega arith; begins = inl refl; blank = refl };
      ascii = rw line t.ascii;
      form = rw line t.form;
      whole = t.whole ∙ ap length (sym line);
    }

pub Begins-alone : (kind : Kind) (before s : List ℕ) (n : ℕ) → 0 < n → Begins kind before s n
    → Begins kind [] (take n s) n
Begins-alone Ident before s n some t = identifier_alone s n some t
Begins-alone Keyword before s n some t =
    record { word = word_alone s n some t.word; listed = keyword_alone s n t.listed }
Begins-alone Punct before s n some t = punctuation_alone s n t
Begins-alone Number before s n some t = number_alone s n t
Begins-alone CharLit before s n some t = char_alone s n t
Begins-alone TextLit before s n some t = text_alone s n t
Begins-alone Pragma before s n some t = pragma_alone before s n t

-- so what is cut out of a source has the form of its kind
pub HasForm-cut : (kind : Kind) (before s : List ℕ) (n : ℕ) → 0 < n → n ≤ length s → Begins kind before s n
    → HasForm kind (take n s)
HasForm-cut kind before s n some within t =
    let long : length (take n s) ≡ n = omega (arith, length-take n s) in
    ∣ rw long (Begins-alone kind before s n some t) ∣₁
