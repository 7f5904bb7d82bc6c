-- A place of a source has one lexeme: its first two octets tell of which family, and in a family its length is one.
use Rattle.std.proofs.Common.{◌≡◌, ◌≢◌, ◌∙◌, ℕ, zero, suc, ◌+◌, ◌<◌, ◌≤◌, Bool, true, false, not, ◌&&◌, ◌||◌, ◌==◌, ◌⊎◌, inl, inr, List, [], ◌∷◌, Option, Some, None, cond, codes, length, map, take, drop, slice_index, ap, subst, sym, refl, arith}
use Rattle.std.specs.Char.{is_ascii, is_ascii_alphabetic, is_ascii_digit, to_ascii_lowercase}
use Rattle.std.specs.List.{list_all, list_any}
use Rattle.std.specs.Str.{bytes_eq, str_eq_ignore_ascii_case}
use Rattle.std.proofs.lemmas.Bool.{cases_lt}
use Rattle.std.proofs.lemmas.Bool.Decides.{nat_tests}
use Rattle.std.proofs.lemmas.List.{get_or-drop, get_or-take}
use Rattle.std.proofs.lemmas.Slice.Eq.{bytes_eq-Decides}
use Rattle.idl_lexer.specs.declared.token.Kind.{Kind}
use Rattle.idl_lexer.specs.declared.token.Kind.TheVariants.{Ident, Keyword, Punct, Number, CharLit, TextLit, Pragma}
use Rattle.idl_lexer.specs.Octets.{is_blank, is_line_feed, is_one_of, is_word, run}
use Rattle.idl_lexer.specs.Words.{is_keyword, is_keyword_in_some_case, keywords, IsIdentifier, IsKeyword}
use Rattle.idl_lexer.specs.Numbers.{IsInteger, IsLiteral}
use Rattle.idl_lexer.specs.Punctuation.{is_pair, is_punctuation, opens_comment}
use Rattle.idl_lexer.specs.Literals.{AreCharacters, none, more, IsCharLiteral, IsTextLiteral}
use Rattle.idl_lexer.specs.Directives.{directive_part, is_kept_word, line_of, pragma_word, word_of, IsFresh, IsKept, prefix, id, version, IsPragma, IsSkipped, marker, line, pragma}
use Rattle.idl_lexer.specs.Gaps.{closes_at, IsBlockComment, IsLineComment, blank, line_comment, block_comment, directive}
use Rattle.idl_lexer.specs.Lexemes.{HasNoForm, IsForm}
use Rattle.idl_lexer.specs.inner.Steps.{HasNoWord}
use Rattle.idl_lexer.proofs.Inside.{and_true, marks, or_true}
use Rattle.idl_lexer.proofs.Alone.{is_mark_of, punctuation_len}
use Rattle.idl_lexer.proofs.Characters.{no_character, not_false, one_passes, same_len}

pub data Family : Type 0 where
  of_hash : Family
  of_line : Family
  of_block : Family
  of_char : Family
  of_text : Family
  of_number : Family
  of_blank : Family
  of_mark : Family
  of_word : Family

-- of what begins with these two octets
abbrev pub family : ℕ → ℕ → Family
family a b =
    cond (a == 35) of_hash
    (cond (opens_comment a b) (cond (b == 47) of_line of_block)
    (cond (a == 39) of_char (cond (a == 34) of_text
    (cond (is_ascii_digit a) of_number (cond (is_blank a) of_blank (cond (is_one_of marks a) of_mark of_word))))))

pick :
    (a b : ℕ) (b1 b2 b3 b4 b5 b6 b7 : Bool) → (a == 35) ≡ b1 → opens_comment a b ≡ b2 → (a == 39) ≡ b3 → (a == 34) ≡ b4
    → is_ascii_digit a ≡ b5 → is_blank a ≡ b6 → is_one_of marks a ≡ b7
    → family a b ≡ cond b1 of_hash (cond b2 (cond (b == 47) of_line of_block) (cond b3 of_char (cond b4 of_text
    (cond b5 of_number (cond b6 of_blank (cond b7 of_mark of_word))))))
pick a b b1 b2 b3 b4 b5 b6 b7 e1 e2 e3 e4 e5 e6 e7 =
    ap (λ x. cond x of_hash (cond (opens_comment a b) (cond (b == 47) of_line of_block)
    (cond (a == 39) of_char (cond (a == 34) of_text
    (cond (is_ascii_digit a) of_number (cond (is_blank a) of_blank (cond (is_one_of marks a) of_mark of_word)))))))
    e1
    ∙ ap (λ x. cond b1 of_hash
    (cond x (cond (b == 47) of_line of_block)
    (cond (a == 39) of_char (cond (a == 34) of_text
    (cond (is_ascii_digit a) of_number (cond (is_blank a) of_blank (cond (is_one_of marks a) of_mark of_word)))))))
    e2
    ∙ ap (λ x. cond b1 of_hash
    (cond b2 (cond (b == 47) of_line of_block)
    (cond x of_char (cond (a == 34) of_text
    (cond (is_ascii_digit a) of_number (cond (is_blank a) of_blank (cond (is_one_of marks a) of_mark of_word)))))))
    e3
    ∙ ap (λ x. cond b1 of_hash
    (cond b2 (cond (b == 47) of_line of_block)
    (cond b3 of_char (cond x of_text
    (cond (is_ascii_digit a) of_number (cond (is_blank a) of_blank (cond (is_one_of marks a) of_mark of_word)))))))
    e4
    ∙ ap (λ x. cond b1 of_hash
    (cond b2 (cond (b == 47) of_line of_block)
    (cond b3 of_char (cond b4 of_text
    (cond x of_number (cond (is_blank a) of_blank (cond (is_one_of marks a) of_mark of_word))))))) e5
    ∙ ap (λ x. cond b1 of_hash
    (cond b2 (cond (b == 47) of_line of_block)
    (cond b3 of_char (cond b4 of_text
    (cond b5 of_number (cond x of_blank (cond (is_one_of marks a) of_mark of_word))))))) e6
    ∙ ap (λ x. cond b1 of_hash
    (cond b2 (cond (b == 47) of_line of_block)
    (cond b3 of_char (cond b4 of_text (cond b5 of_number (cond b6 of_blank (cond x of_mark of_word))))))) e7

-- ---- what the first octets of each family are

pub family_hash : (a b : ℕ) → a ≡ 35 → family a b ≡ of_hash
family_hash a b e = ap (λ x. family x b) e

pub family_line : (a b : ℕ) → a ≡ 47 → b ≡ 47 → family a b ≡ of_line
family_line a b e f = ap (λ x. family x b) e ∙ ap (family 47) f

pub family_block : (a b : ℕ) → a ≡ 47 → b ≡ 42 → family a b ≡ of_block
family_block a b e f = ap (λ x. family x b) e ∙ ap (family 47) f

pub family_char : (a b : ℕ) → a ≡ 39 → family a b ≡ of_char
family_char a b e = ap (λ x. family x b) e

pub family_text : (a b : ℕ) → a ≡ 34 → family a b ≡ of_text
family_text a b e = ap (λ x. family x b) e

pub refuted : (b : Bool) → (b ≡ true → ⊥) → b ≡ false
refuted true h = absurd (h refl)
refuted false h = refl

no_number : (n a : ℕ) → (a ≡ n → ⊥) → (a == n) ≡ false
no_number n a h = grind (arith, nat_tests)

no_comment : (a b : ℕ) → (a ≡ 47 → ⊥) → opens_comment a b ≡ false
no_comment a b h = grind (arith, nat_tests)

digit_range : (a : ℕ) → is_ascii_digit a ≡ true → (48 ≤ a) × (a ≤ 57)
digit_range a h = grind (arith, nat_tests)

blank_range : (a : ℕ) → is_blank a ≡ true → a ≤ 32
blank_range a h = grind (arith, nat_tests)

word_range : (a : ℕ) → (is_ascii_alphabetic a || a == 95) ≡ true → 65 ≤ a
word_range a h = grind (arith, nat_tests)

no_digit : (a : ℕ) → (a < 48) ⊎ (57 < a) → is_ascii_digit a ≡ false
no_digit a h = grind (arith, nat_tests)

no_blank : (a : ℕ) → 32 < a → is_blank a ≡ false
no_blank a h = grind (arith, nat_tests)

pub family_number : (a b : ℕ) → is_ascii_digit a ≡ true → family a b ≡ of_number
family_number a b h =
    let range = digit_range a h in
    pick a b false false false false true (is_blank a) (is_one_of marks a) (no_number 35 a (λ e. omega arith))
    (no_comment a b (λ e. omega arith)) (no_number 39 a (λ e. omega arith)) (no_number 34 a (λ e. omega arith)) h
    refl refl

pub family_blank : (a b : ℕ) → is_blank a ≡ true → family a b ≡ of_blank
family_blank a b h =
    let range = blank_range a h in
    pick a b false false false false false true (is_one_of marks a) (no_number 35 a (λ e. omega arith))
    (no_comment a b (λ e. omega arith)) (no_number 39 a (λ e. omega arith)) (no_number 34 a (λ e. omega arith))
    (no_digit a (inl (omega arith))) h refl

abbrev only_mark : ℕ → Bool
only_mark a = not (a == 35) && not (a == 39) && not (a == 34) && not (is_ascii_digit a) && not (is_blank a) && not
    (is_ascii_alphabetic a || a == 95)

record OnlyMark (a : ℕ) : Type 0 where
  hash : (a == 35) ≡ false
  quote : (a == 39) ≡ false
  quotes : (a == 34) ≡ false
  digit : is_ascii_digit a ≡ false
  blank : is_blank a ≡ false
  word : (is_ascii_alphabetic a || a == 95) ≡ false

is_only_mark : (a : ℕ) → is_one_of marks a ≡ true → OnlyMark a
is_only_mark a h =
    let all : only_mark a ≡ true = one_passes only_mark marks a refl h in
    let p1 = and_true (not (a == 35) && not (a == 39) && not (a == 34) && not (is_ascii_digit a) && not (is_blank a))
    (not (is_ascii_alphabetic a || a == 95)) all in
    let p2 = and_true (not (a == 35) && not (a == 39) && not (a == 34) && not (is_ascii_digit a)) (not (is_blank a))
    p1.0 in
    let p3 = and_true (not (a == 35) && not (a == 39) && not (a == 34)) (not (is_ascii_digit a)) p2.0 in
    let p4 = and_true (not (a == 35) && not (a == 39)) (not (a == 34)) p3.0 in
    let p5 = and_true (not (a == 35)) (not (a == 39)) p4.0 in
    record {
      hash = not_false (a == 35) p5.0;
      quote = not_false (a == 39) p5.1;
      quotes = not_false (a == 34) p4.1;
      digit = not_false (is_ascii_digit a) p3.1;
      blank = not_false (is_blank a) p2.1;
      word = not_false (is_ascii_alphabetic a || a == 95) p1.1;
    }

pub family_mark : (a b : ℕ) → is_one_of marks a ≡ true → opens_comment a b ≡ false → family a b ≡ of_mark
family_mark a b h other =
    let is = is_only_mark a h in
    pick a b false false false false false false true is.hash other is.quote is.quotes is.digit is.blank h

pub family_word : (a b : ℕ) → (is_ascii_alphabetic a || a == 95) ≡ true → family a b ≡ of_word
family_word a b h =
    let range = word_range a h in
    let no_mark : is_one_of marks a ≡ false =
    refuted (is_one_of marks a) (λ e. let is = (is_only_mark a e).word in let both : true ≡ false = sym h ∙ is in
    cc) in
    pick a b false false false false false false false (no_number 35 a (λ e. omega arith))
    (no_comment a b (λ e. omega arith)) (no_number 39 a (λ e. omega arith)) (no_number 34 a (λ e. omega arith))
    (no_digit a (inr (omega arith))) (no_blank a (omega arith)) no_mark

-- ---- what has one of the forms is of the family that its first octets tell

pub record IsDirective (before s : List ℕ) (form : Option Kind) (n : ℕ) : Type 0 where
  pub fresh : IsFresh before
  pub ascii : list_all is_ascii (line_of s) ≡ true
  pub whole : n ≡ length (line_of s)
  pub which : ((form ≡ Some Pragma) × IsKept (line_of s)) ⊎ ((form ≡ None) × IsSkipped (line_of s))

abbrev pub OfFamily : Family → List ℕ → List ℕ → Option Kind → ℕ → Type 0
OfFamily of_hash before s form n = IsDirective before s form n
OfFamily of_line before s form n = (form ≡ None) × IsLineComment s n
OfFamily of_block before s form n = (form ≡ None) × IsBlockComment s n
OfFamily of_char before s form n = (form ≡ Some CharLit) × IsCharLiteral s n
OfFamily of_text before s form n = (form ≡ Some TextLit) × IsTextLiteral s n
OfFamily of_number before s form n = (form ≡ Some Number) × IsInteger s n
OfFamily of_blank before s form n = (form ≡ None) × (n ≡ run is_blank s)
OfFamily of_mark before s form n = (form ≡ Some Punct) × (is_punctuation s n ≡ true)
OfFamily of_word before s form n = ((form ≡ Some Keyword) × IsKeyword s n) ⊎ ((form ≡ Some Ident) × IsIdentifier s n)

literal_first : (t : List ℕ) → IsLiteral t → is_ascii_digit (slice_index t 0) ≡ true
literal_first t (inl d) = let h = d.first in grind (arith, nat_tests)
literal_first t (inr (inl o)) = rw o.first refl
literal_first t (inr (inr x)) = rw x.first refl

integer_first : (s : List ℕ) (n : ℕ) → IsLiteral (take n s) → is_ascii_digit (slice_index s 0) ≡ true
integer_first s zero h = let no = literal_first (take 0 s) h in cc
integer_first s (suc n) h = ap is_ascii_digit (sym (get_or-take (suc n) s 0 0 (omega arith)))
    ∙ literal_first (take (suc n) s) h

mark_first : (n a b : ℕ) → is_mark_of n a b ≡ true → (is_one_of marks a ≡ true) × (opens_comment a b ≡ false)
mark_first n a b h = elim (or_true (n == 2 && is_pair a b)
    (n == 1 && is_one_of marks a && not (is_pair a b) && not (opens_comment a b)) h) [
      | inl two ↦ pair_first a b (and_true (n == 2) (is_pair a b) two).1
      | inr one ↦ (
          let outer = and_true (n == 1 && is_one_of marks a && not (is_pair a b)) (not (opens_comment a b)) one in
          let inner = and_true (n == 1 && is_one_of marks a) (not (is_pair a b)) outer.0 in
          ((and_true (n == 1) (is_one_of marks a) inner.0).1, not_false (opens_comment a b) outer.1))
    ]
  where
    at_one : (a b c : ℕ) → is_one_of marks c ≡ true → (c ≡ 47 → ⊥) → (a == c) ≡ true
        → (is_one_of marks a ≡ true) × (opens_comment a b ≡ false)
    at_one a b c h other e =
        let same : a ≡ c = grind (arith, nat_tests) in
        (ap (is_one_of marks) same ∙ h, no_comment a b (λ f. other (sym same ∙ f)))

    pair_first : (a b : ℕ) → is_pair a b ≡ true → (is_one_of marks a ≡ true) × (opens_comment a b ≡ false)
    pair_first a b h = elim (or_true (a == 58 && b == 58) (a == 60 && b == 60) h) [
      | inl colons ↦ at_one a b 58 refl (λ e. omega arith) (and_true (a == 58) (b == 58) colons).0
      | inr less ↦ at_one a b 60 refl (λ e. omega arith) (and_true (a == 60) (b == 60) less).0
    ]

word_first : (a : ℕ) → is_ascii_alphabetic a ≡ true → (is_ascii_alphabetic a || a == 95) ≡ true
word_first a h = ap (λ x. x || a == 95) h

escape_first : (a : ℕ) → a ≡ 95 → (is_ascii_alphabetic a || a == 95) ≡ true
escape_first a h = ap (λ x. is_ascii_alphabetic x || x == 95) h

identifier_first : (s : List ℕ) (n : ℕ) → IsIdentifier s n
    → (is_ascii_alphabetic (slice_index s 0) || slice_index s 0 == 95) ≡ true
identifier_first s n (inl name) = word_first (slice_index s 0) name.word.first
identifier_first s n (inr name) = escape_first (slice_index s 0) name.underscore

abbrev family_at : List ℕ → Family
family_at s = family (slice_index s 0) (slice_index s 1)

hash_first : (l : List ℕ) → IsSkipped l → slice_index l 0 ≡ 35
hash_first l (marker m) = m.hash
hash_first l (line m) = m.hash
hash_first l (pragma m) = m.pragma.hash

kept_first : (l : List ℕ) → IsKept l → slice_index l 0 ≡ 35
kept_first l (prefix p w e) = p.hash
kept_first l (id p w e) = p.hash
kept_first l (version p w e) = p.hash

pub take_first : (n c : ℕ) (s cs : List ℕ) → take n s ≡ c ∷ cs → slice_index s 0 ≡ c
take_first zero c s cs e = cc
take_first (suc n) c [] cs e = cc
take_first (suc n) c (x ∷ xs) cs e = ap (λ t. slice_index t 0) e

line_first : (n c : ℕ) (s : List ℕ) → slice_index (take n s) 0 ≡ suc c → slice_index s 0 ≡ suc c
line_first zero c s e = absurd (omega (arith, e))
line_first (suc n) c s e = sym (get_or-take (suc n) s 0 0 (omega arith)) ∙ e

of_line_first : (s : List ℕ) → slice_index (line_of s) 0 ≡ 35 → slice_index s 0 ≡ 35
of_line_first s e = line_first (run (λ c. not (is_line_feed c)) s) 34 s e

by_family : (f : Family) (before s : List ℕ) (form : Option Kind) (n : ℕ) → family_at s ≡ f → OfFamily f before s form n
    → OfFamily (family_at s) before s form n
by_family f before s form n e is =
    let P : Family → Type 0 = λ g. OfFamily g before s form n in subst P (sym e) is

sorted : (form : Option Kind) (before s : List ℕ) (n : ℕ) → IsForm form before s n
    → OfFamily (family_at s) before s form n
sorted (Some Ident) before s n f =
    by_family of_word before s (Some Ident) n (family_word (slice_index s 0) (slice_index s 1) (identifier_first s n f))
    (inr (refl, f))
sorted (Some Keyword) before s n f =
    by_family of_word before s (Some Keyword) n
    (family_word (slice_index s 0) (slice_index s 1) (word_first (slice_index s 0) f.word.first)) (inl (refl, f))
sorted (Some Punct) before s n f =
    let is = mark_first n (slice_index s 0) (slice_index s 1) f in
    by_family of_mark before s (Some Punct) n (family_mark (slice_index s 0) (slice_index s 1) is.0 is.1) (refl, f)
sorted (Some Number) before s n f =
    by_family of_number before s (Some Number) n
    (family_number (slice_index s 0) (slice_index s 1) (integer_first s n f.form)) (refl, f)
sorted (Some CharLit) before s n f =
    by_family of_char before s (Some CharLit) n (family_char (slice_index s 0) (slice_index s 1) f.opens) (refl, f)
sorted (Some TextLit) before s n f =
    by_family of_text before s (Some TextLit) n (family_text (slice_index s 0) (slice_index s 1) f.opens) (refl, f)
sorted (Some Pragma) before s n f =
    by_family of_hash before s (Some Pragma) n
    (family_hash (slice_index s 0) (slice_index s 1) (of_line_first s (kept_first (line_of s) f.form)))
    (record { fresh = f.fresh; ascii = f.ascii; whole = f.whole; which = inl (refl, f.form) })
sorted None before s n (blank h e) =
    by_family of_blank before s None n (family_blank (slice_index s 0) (slice_index s 1) h) (refl, e)
sorted None before s n (line_comment f) =
    by_family of_line before s None n (family_line (slice_index s 0) (slice_index s 1) f.first f.second) (refl, f)
sorted None before s n (block_comment f) =
    by_family of_block before s None n (family_block (slice_index s 0) (slice_index s 1) f.first f.second) (refl, f)
sorted None before s n (directive fresh ascii f e) =
    by_family of_hash before s None n
    (family_hash (slice_index s 0) (slice_index s 1) (of_line_first s (hash_first (line_of s) f)))
    (record { fresh = fresh; ascii = ascii; whole = e; which = inr (refl, f) })

-- ---- in a family there is one form, of one length

word_part : (s cs : List ℕ) (c : ℕ) → word_of s ≡ c ∷ cs → slice_index s 0 ≡ c
word_part s cs c e = take_first (run is_word s) c s cs e

kept_word : (l : List ℕ) → IsKept l → IsPragma l × (is_kept_word (pragma_word l) ≡ true)
kept_word l (prefix p w e) = (p, ap is_kept_word w)
kept_word l (id p w e) = (p, ap is_kept_word w)
kept_word l (version p w e) = (p, ap is_kept_word w)

pub kept_or_skipped : (l : List ℕ) → IsKept l → IsSkipped l → ⊥
kept_or_skipped l k (marker m) =
    let first : slice_index (directive_part l) 0 ≡ 112 =
    word_part (directive_part l) (codes "ragma") 112 (kept_word l k).0.word in
    let no : is_ascii_digit 112 ≡ true = ap is_ascii_digit (sym first) ∙ m.number.some in cc
kept_or_skipped l k (line m) = let no : codes "pragma" ≡ codes "line" = sym (kept_word l k).0.word ∙ m.word in cc
kept_or_skipped l k (pragma m) = let no : true ≡ false = sym (kept_word l k).1 ∙ not_false _ m.other in cc

abbrev IsOne : (form other : Option Kind) (n m : ℕ) → Type 0
IsOne form other n m = (form ≡ other) × (n ≡ m)

directive_one : (before s : List ℕ) (form other : Option Kind) (n m : ℕ) → IsDirective before s form n
    → IsDirective before s other m → IsOne form other n m
directive_one before s form other n m a b = (which a.which b.which, a.whole ∙ sym b.whole)
  where
    which : ((form ≡ Some Pragma) × IsKept (line_of s)) ⊎ ((form ≡ None) × IsSkipped (line_of s))
        → ((other ≡ Some Pragma) × IsKept (line_of s)) ⊎ ((other ≡ None) × IsSkipped (line_of s)) → form ≡ other
    which (inl x) (inl y) = x.0 ∙ sym y.0
    which (inl x) (inr y) = absurd (kept_or_skipped (line_of s) x.1 y.1)
    which (inr x) (inl y) = absurd (kept_or_skipped (line_of s) y.1 x.1)
    which (inr x) (inr y) = x.0 ∙ sym y.0

same_first : (s : List ℕ) (i j : ℕ) → closes_at s (i + 2) ≡ true → ((k : ℕ) → k < j → closes_at s (k + 2) ≡ false)
    → j ≤ i
same_first s i j closes before = elim (cases_lt i j) [
  | inl less ↦ (let no : true ≡ false = sym closes ∙ before i less in cc)
  | inr le ↦ le
]

block_one : (s : List ℕ) (n m : ℕ) → IsBlockComment s n → IsBlockComment s m → n ≡ m
block_one s n m a b = omega (
  arith,
  a.length,
  b.length,
  same_first s a.inner b.inner a.closes b.before,
  same_first s b.inner a.inner b.closes a.before,
)

char_one : (s : List ℕ) (n m : ℕ) → IsCharLiteral s n → IsCharLiteral s m → n ≡ m
char_one s n m a b = omega
    (arith, a.length, b.length, same_len 39 39 (drop 1 s) a.inner b.inner a.value b.value a.character b.character)

pub characters_one : (s : List ℕ) (k j : ℕ) (vs ws : List ℕ) → AreCharacters 34 s k vs → slice_index s k ≡ 34
    → AreCharacters 34 s j ws → slice_index s j ≡ 34 → k ≡ j
characters_one s k j vs ws (none s1) e (none s2) f = refl
characters_one s k j vs ws (none s1) e (more s2 n v m j2 vs2 char nz rest g) f = absurd (no_character s n v e char)
characters_one s k j vs ws (more s2 n v m k2 vs2 char nz rest g) e (none s1) f = absurd (no_character s n v f char)
characters_one s k j vs ws (more s1 n v m k1 vs1 char nz rest g) e (more s2 n' v' m' j2 vs2 char' nz' rest' g') f =
    let same : n ≡ n' = same_len 34 34 s n n' v v' char char' in
    let there : AreCharacters 34 (drop n s) m' vs2 = rw same rest' in
    let left : slice_index (drop n s) m ≡ 34 = get_or-drop n s m 0 ∙ ap (slice_index s) (sym g) ∙ e in
    let right : slice_index (drop n s) m' ≡ 34 = get_or-drop n s m' 0 ∙ ap (slice_index s) (omega arith) ∙ f in
    omega (arith, g, g', characters_one (drop n s) m m' vs1 vs2 rest left there right)

text_one : (s : List ℕ) (n m : ℕ) → IsTextLiteral s n → IsTextLiteral s m → n ≡ m
text_one s n m a b =
    let left : slice_index (drop 1 s) a.inner ≡ 34 = get_or-drop 1 s a.inner 0 ∙ ap (slice_index s) (omega arith)
    ∙ a.closes in
    let right : slice_index (drop 1 s) b.inner ≡ 34 = get_or-drop 1 s b.inner 0 ∙ ap (slice_index s) (omega arith)
    ∙ b.closes in
    omega (
      arith,
      a.length,
      b.length,
      characters_one (drop 1 s) a.inner b.inner a.octets b.octets a.characters left
          b.characters right,
    )

mark_len : (n a b : ℕ) → is_mark_of n a b ≡ true → n ≡ cond (is_pair a b) 2 1
mark_len n a b h = elim (punctuation_len n a b h) [
  | inl one ↦ (
      let here : is_mark_of 1 a b ≡ true = rw one at h in
      let outer = and_true (is_one_of marks a && not (is_pair a b)) (not (opens_comment a b)) here in
      one ∙ sym (ap (λ x. cond x 2 1)
      (not_false (is_pair a b) (and_true (is_one_of marks a) (not (is_pair a b)) outer.0).1)))
  | inr two ↦ (
      let here : is_mark_of 2 a b ≡ true = rw two at h in
      two ∙ sym (ap (λ x. cond x 2 1) (pair (is_pair a b) here)))
]
  where
    pair : (p : Bool) → (p || false) ≡ true → p ≡ true
    pair true h = refl
    pair false h = h

listed : (w : List ℕ) (ks : List (List ℕ)) → list_any (λ k. bytes_eq k w) ks ≡ true
    → list_any (λ k. str_eq_ignore_ascii_case k w) ks ≡ true
listed w [] h = h
listed w (k ∷ ks) h = elim (or_true (bytes_eq k w) (list_any (λ j. bytes_eq j w) ks) h) [
  | inl here ↦ (
      let same : k ≡ w = (bytes_eq-Decides k w).0 here in
      let alike : str_eq_ignore_ascii_case k w ≡ true =
      rw same ((bytes_eq-Decides (map to_ascii_lowercase w) (map to_ascii_lowercase w)).1 refl) in
      ap (λ b. b || list_any (λ j. str_eq_ignore_ascii_case j w) ks) alike)
  | inr later ↦ (
      let there : list_any (λ j. str_eq_ignore_ascii_case j w) ks ≡ true = listed w ks later in
      ap (λ b. str_eq_ignore_ascii_case k w || b) there ∙ or_last (str_eq_ignore_ascii_case k w))
]
  where
    or_last : (b : Bool) → (b || true) ≡ true
    or_last true = refl
    or_last false = refl

-- a word isn't both
pub keyword_or_identifier : (s : List ℕ) (n m : ℕ) → IsKeyword s n → IsIdentifier s m → ⊥
keyword_or_identifier s n m k (inl name) =
    let same : n ≡ m = k.word.whole ∙ sym name.word.whole in
    let here : is_keyword (take m s) ≡ true = rw same at k.listed in
    let no : true ≡ false = sym (listed (take m s) keywords here)
    ∙ not_false (is_keyword_in_some_case (take m s)) name.unlisted in cc
keyword_or_identifier s n m k (inr name) = let no : is_ascii_alphabetic 95 ≡ true =
    ap is_ascii_alphabetic (sym name.underscore) ∙ k.word.first in cc

pub identifier_one : (s : List ℕ) (n m : ℕ) → IsIdentifier s n → IsIdentifier s m → n ≡ m
identifier_one s n m (inl a) (inl b) = a.word.whole ∙ sym b.word.whole
identifier_one s n m (inl a) (inr b) = let no : is_ascii_alphabetic 95 ≡ true =
    ap is_ascii_alphabetic (sym b.underscore) ∙ a.word.first in cc
identifier_one s n m (inr a) (inl b) = let no : is_ascii_alphabetic 95 ≡ true =
    ap is_ascii_alphabetic (sym a.underscore) ∙ b.word.first in cc
identifier_one s n m (inr a) (inr b) = omega (arith, a.length, b.length, a.word.whole, b.word.whole)

word_one : (s : List ℕ) (form other : Option Kind) (n m : ℕ) → ((form ≡ Some Keyword) × IsKeyword s n)
    ⊎ ((form ≡ Some Ident) × IsIdentifier s n) → ((other ≡ Some Keyword) × IsKeyword s m)
    ⊎ ((other ≡ Some Ident) × IsIdentifier s m) → IsOne form other n m
word_one s form other n m (inl a) (inl b) = (a.0 ∙ sym b.0, a.1.word.whole ∙ sym b.1.word.whole)
word_one s form other n m (inl a) (inr b) = absurd (keyword_or_identifier s n m a.1 b.1)
word_one s form other n m (inr a) (inl b) = absurd (keyword_or_identifier s m n b.1 a.1)
word_one s form other n m (inr a) (inr b) = (a.0 ∙ sym b.0, identifier_one s n m a.1 b.1)

one : (f : Family) (before s : List ℕ) (form other : Option Kind) (n m : ℕ) → OfFamily f before s form n
    → OfFamily f before s other m → IsOne form other n m
one of_hash before s form other n m a b = directive_one before s form other n m a b
one of_line before s form other n m a b = (a.0 ∙ sym b.0, a.1.whole ∙ sym b.1.whole)
one of_block before s form other n m a b = (a.0 ∙ sym b.0, block_one s n m a.1 b.1)
one of_char before s form other n m a b = (a.0 ∙ sym b.0, char_one s n m a.1 b.1)
one of_text before s form other n m a b = (a.0 ∙ sym b.0, text_one s n m a.1 b.1)
one of_number before s form other n m a b = (a.0 ∙ sym b.0, a.1.whole ∙ sym b.1.whole)
one of_blank before s form other n m a b = (a.0 ∙ sym b.0, a.1 ∙ sym b.1)
one of_mark before s form other n m a b = (
  a.0 ∙ sym b.0,
  mark_len n (slice_index s 0) (slice_index s 1) a.1
      ∙ sym (mark_len m (slice_index s 0) (slice_index s 1) b.1),
)
one of_word before s form other n m a b = word_one s form other n m a b

pub one_form : (before s : List ℕ) (form other : Option Kind) (n m : ℕ) → IsForm form before s n
    → IsForm other before s m → (form ≡ other) × (n ≡ m)
one_form before s form other n m a b =
    one (family_at s) before s form other n m (sorted form before s n a) (sorted other before s m b)

-- what no form of the family is, is none at all
pub none_of : (f : Family) (before s : List ℕ) → family_at s ≡ f
    → ((form : Option Kind) (n : ℕ) → OfFamily f before s form n → ⊥) → HasNoForm before s
none_of f before s e h form n is = h form n (rw e at (sorted form before s n is))

-- nothing stands at the end
pub none_at_end : (before : List ℕ) → HasNoForm before []
none_at_end before = none_of of_word before [] refl no
  where
    no : (form : Option Kind) (n : ℕ) → OfFamily of_word before [] form n → ⊥
    no form n (inl k) = let h = k.1.word.first in cc
    no form n (inr (_, inl name)) = let h = name.word.first in cc
    no form n (inr (_, inr name)) = let h = name.underscore in absurd (omega (arith, h))

-- ---- where no form of a family stands, none does

-- the first octets are of no family but those of marks and words
pub record IsOther (a b : ℕ) : Type 0 where
  pub hash : a ≢ 35
  pub quote : a ≢ 39
  pub quotes : a ≢ 34
  pub line : a ≡ 47 → b ≢ 47
  pub block : a ≡ 47 → b ≢ 42
  pub digit : is_ascii_digit a ≡ false
  pub blank : is_blank a ≡ false

pub no_comment_of : (a b : ℕ) → (a ≡ 47 → b ≢ 47) → (a ≡ 47 → b ≢ 42) → opens_comment a b ≡ false
no_comment_of a b h k = grind (arith, nat_tests)

pub none_other :
    (before s : List ℕ) → IsOther (slice_index s 0) (slice_index s 1) → ((n : ℕ) → is_punctuation s n ≡ false)
    → HasNoWord s
    → HasNoForm before s
none_other before s is no_mark no_word = by_mark (is_one_of marks (slice_index s 0)) refl
  where
    neither : (m : Bool) (form : Option Kind) (n : ℕ) → OfFamily (cond m of_mark of_word) before s form n → ⊥
    neither true form n x = let no : true ≡ false = sym x.1 ∙ no_mark n in cc
    neither false form n (inl k) = no_word n (inr k.1)
    neither false form n (inr k) = no_word n (inl k.1)

    by_mark : (m : Bool) → is_one_of marks (slice_index s 0) ≡ m → HasNoForm before s
    by_mark m e =
        none_of (cond m of_mark of_word) before s
        (pick (slice_index s 0) (slice_index s 1) false false false false false false m
        (no_number 35 (slice_index s 0) is.hash)
        (no_comment_of (slice_index s 0) (slice_index s 1) is.line is.block)
        (no_number 39 (slice_index s 0) is.quote) (no_number 34 (slice_index s 0) is.quotes) is.digit is.blank e)
        (neither m)

pub none_number : (before s : List ℕ) → is_ascii_digit (slice_index s 0) ≡ true → ((n : ℕ) → IsInteger s n → ⊥)
    → HasNoForm before s
none_number before s first never =
    none_of of_number before s (family_number (slice_index s 0) (slice_index s 1) first) (λ form n x. never n x.1)

pub none_block : (before s : List ℕ) → slice_index s 0 ≡ 47 → slice_index s 1 ≡ 42 → ((n : ℕ) → IsBlockComment s n → ⊥)
    → HasNoForm before s
none_block before s first second never =
    none_of of_block before s (family_block (slice_index s 0) (slice_index s 1) first second) (λ form n x. never n x.1)

pub none_char : (before s : List ℕ) → slice_index s 0 ≡ 39 → ((n : ℕ) → IsCharLiteral s n → ⊥) → HasNoForm before s
none_char before s first never =
    none_of of_char before s (family_char (slice_index s 0) (slice_index s 1) first) (λ form n x. never n x.1)

pub none_text : (before s : List ℕ) → slice_index s 0 ≡ 34 → ((n : ℕ) → IsTextLiteral s n → ⊥) → HasNoForm before s
none_text before s first never =
    none_of of_text before s (family_text (slice_index s 0) (slice_index s 1) first) (λ form n x. never n x.1)

pub none_directive : (before s : List ℕ) → slice_index s 0 ≡ 35
    → (IsFresh before → list_all is_ascii (line_of s) ≡ true → IsKept (line_of s) ⊎ IsSkipped (line_of s) → ⊥)
    → HasNoForm before s
none_directive before s first never =
    none_of of_hash before s (family_hash (slice_index s 0) (slice_index s 1) first)
    (λ form n x. never x.fresh x.ascii (either x.which))
  where
    either : {A B : Type 0} {form : Option Kind} → ((form ≡ Some Pragma) × A) ⊎ ((form ≡ None) × B) → A ⊎ B
    either (inl x) = inl x.1
    either (inr x) = inr x.1
