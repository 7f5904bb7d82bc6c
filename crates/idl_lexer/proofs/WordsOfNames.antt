-- The identifiers of a scoped name are its words.
use Rattle.std.proofs.Common.{◌≡◌, ◌∙◌, ℕ, zero, suc, ◌+◌, ◌<◌, Bool, true, false, not, cond, inl, inr, List, [], ◌∷◌, ◌++◌, append_assoc, length, take, drop, slice_index, ap, sym, refl, arith}
use Rattle.std.specs.Char.{is_ascii_alphabetic}
use Rattle.std.specs.Str.{IsAscii}
use Rattle.std.proofs.lemmas.Bool.Decides.{nat_tests}
use Rattle.std.proofs.lemmas.List.{append-nil}
use Rattle.std.proofs.lemmas.List.Folds.{length-prefix_len}
use Rattle.idl_lexer.specs.Octets.{is_blank, is_word, past, run}
use Rattle.idl_lexer.specs.Words.{IsIdentifier, IsWord}
use Rattle.idl_lexer.specs.Directives.{IsName, IsScope, IsScopedName, plain, rooted, more}
use Rattle.idl_lexer.specs.Identifiers.{identifiers_of, joined, words}

one_plus : (k : ℕ) → 1 + k ≡ suc k
one_plus k = omega arith

past_first : (p : ℕ → Bool) (c : ℕ) (cs : List ℕ) → p c ≡ true → past p (c ∷ cs) ≡ past p cs
past_first p c cs h = rw (h, one_plus (run p cs)) refl

front_of : (p : ℕ → Bool) (c : ℕ) (cs : List ℕ) → p c ≡ true → take (run p (c ∷ cs)) (c ∷ cs) ≡ c ∷ take (run p cs) cs
front_of p c cs h = rw (h, one_plus (run p cs)) refl

past_step : (p : ℕ → Bool) (c : ℕ) (cs : List ℕ) (b : Bool) → p c ≡ b → (b ≡ true → is_word c ≡ false)
    → words (past p cs) ≡ words cs → words (past p (c ∷ cs)) ≡ words (c ∷ cs)
past_step p c cs true h others rest = ap words (past_first p c cs h) ∙ rest ∙ rw (others refl) refl
past_step p c cs false h others rest = rw h refl

-- what stands in no word may be left out
pub words-past : (p : ℕ → Bool) → ((c : ℕ) → p c ≡ true → is_word c ≡ false) → (s : List ℕ) → words (past p s) ≡ words s
words-past p others [] = refl
words-past p others (c ∷ cs) = past_step p c cs (p c) refl (others c) (words-past p others cs)

run_none : (p : ℕ → Bool) (s : List ℕ) → p (slice_index s 0) ≡ false → run p s ≡ 0
run_none p [] h = refl
run_none p (c ∷ cs) h = rw h refl

run_some : (s : List ℕ) → is_word (slice_index s 0) ≡ true → 0 < run is_word s
run_some [] h = cc
run_some (c ∷ cs) h = rw h (omega arith)

run_starts : (b : Bool) (n : ℕ) → 0 < cond b (1 + n) 0 → b ≡ true
run_starts true n h = refl
run_starts false n h = absurd (omega arith)

word_step : (c : ℕ) (cs : List ℕ) (b : Bool) → is_word (slice_index cs 0) ≡ b → is_word c ≡ true
    → (0 < run is_word cs → words cs ≡ take (run is_word cs) cs ∷ words (past is_word cs))
    → words (c ∷ cs) ≡ take (run is_word (c ∷ cs)) (c ∷ cs) ∷ words (past is_word (c ∷ cs))
word_step c cs true next here rest =
    rw (here, next) (ap (joined c) (rest (run_some cs next)))
    ∙ ap (λ w. w ∷ words (past is_word cs)) (sym (front_of is_word c cs here))
    ∙ ap (λ t. take (run is_word (c ∷ cs)) (c ∷ cs) ∷ words t) (sym (past_first is_word c cs here))
word_step c cs false next here rest =
    let none = run_none is_word cs next in
    let alone : take (run is_word (c ∷ cs)) (c ∷ cs) ≡ c ∷ [] =
    front_of is_word c cs here ∙ ap (λ n. c ∷ take n cs) none in
    let behind : past is_word (c ∷ cs) ≡ cs = past_first is_word c cs here ∙ ap (λ n. drop n cs) none in
    rw (here, next) refl
    ∙ ap (λ w. w ∷ words cs) (sym alone)
    ∙ ap (λ t. take (run is_word (c ∷ cs)) (c ∷ cs) ∷ words t) (sym behind)

-- a text that begins with a word
pub words-word : (s : List ℕ) → 0 < run is_word s → words s ≡ take (run is_word s) s ∷ words (past is_word s)
words-word [] some = absurd (omega arith)
words-word (c ∷ cs) some =
    word_step c cs (is_word (slice_index cs 0)) refl (run_starts (is_word c) (run is_word cs) some) (words-word cs)

abbrev is_other : ℕ → Bool
is_other c = not (is_word c)

none_step : (c : ℕ) (cs : List ℕ) (b : Bool) → is_word c ≡ b → run is_word (past is_other (c ∷ cs)) ≡ 0
    → (run is_word (past is_other cs) ≡ 0 → words cs ≡ []) → words (c ∷ cs) ≡ []
none_step c cs true here h rest =
    let there : past is_other (c ∷ cs) ≡ c ∷ cs = rw here refl in
    let some : run is_word (c ∷ cs) ≡ 1 + run is_word cs = rw here refl in
    absurd (omega (arith, some, ap (run is_word) there, h))
none_step c cs false here h rest =
    let other : is_other c ≡ true = rw here refl in
    rw here refl ∙ rest (sym (ap (run is_word) (past_first is_other c cs other)) ∙ h)

-- a text that has no word behind what stands in none
pub words-none : (s : List ℕ) → run is_word (past (λ c. not (is_word c)) s) ≡ 0 → words s ≡ []
words-none [] h = refl
words-none (c ∷ cs) h = none_step c cs (is_word c) refl h (words-none cs)

not_word : (c : ℕ) → not (is_word c) ≡ true → is_word c ≡ false
not_word c h = not_true (is_word c) h
  where
    not_true : (b : Bool) → not b ≡ true → b ≡ false
    not_true true h = cc
    not_true false h = refl

word_ascii : (c : ℕ) → is_word c ≡ true → c < 128
word_ascii c h = grind (arith, nat_tests)

pub word-IsAscii : (s : List ℕ) → IsAscii (take (run is_word s) s)
word-IsAscii [] i = omega arith
word-IsAscii (c ∷ cs) i = ascii_step c cs (is_word c) refl (word-IsAscii cs) i
  where
    ascii_step : (c : ℕ) (cs : List ℕ) (b : Bool) → is_word c ≡ b → IsAscii (take (run is_word cs) cs)
        → IsAscii (take (run is_word (c ∷ cs)) (c ∷ cs))
    ascii_step c cs true here rest zero = rw (front_of is_word c cs here) (word_ascii c here)
    ascii_step c cs true here rest (suc i) = rw (front_of is_word c cs here) (rest i)
    ascii_step c cs false here rest i = rw here (omega arith)

-- ---- names

letter_word : (c : ℕ) → is_ascii_alphabetic c ≡ true → is_word c ≡ true
letter_word c h = grind (arith, nat_tests)

escape_word : (s : List ℕ) → slice_index s 0 ≡ 95 → run is_word s ≡ run is_word (drop 1 s) + 1
escape_word [] h = absurd (omega arith)
escape_word (c ∷ cs) h = rw h (omega arith)

word_whole : (s : List ℕ) (n : ℕ) → IsWord s n → (n ≡ run is_word s) × (0 < run is_word s)
word_whole s n w = (w.whole, run_some s (letter_word (slice_index s 0) w.first))

-- an identifier is a whole word
identifier_word : (s : List ℕ) (n : ℕ) → IsIdentifier s n → (n ≡ run is_word s) × (0 < run is_word s)
identifier_word s n (inl name) = word_whole s n name.word
identifier_word s n (inr name) =
    let all = escape_word s name.underscore in
    (omega (arith, all, name.length, name.word.whole), omega (arith, all))

blank_other : (c : ℕ) → is_blank c ≡ true → is_word c ≡ false
blank_other c h = grind (arith, nat_tests)

name_words : (s r : List ℕ) (name : IsName s r) → words s ≡ take name.long s ∷ words r
name_words s r name =
    let word = identifier_word s name.long name.name in
    words-word s word.1
    ∙ ap (λ n. take n s ∷ words (drop n s)) (sym word.0)
    ∙ ap (λ ws. take name.long s ∷ ws) (sym (words-past is_blank blank_other (drop name.long s))
    ∙ ap words (sym name.rest))

colons : (s : List ℕ) → slice_index s 0 ≡ 58 → slice_index s 1 ≡ 58 → words s ≡ words (drop 2 s)
colons [] h k = absurd (omega arith)
colons (c ∷ []) h k = absurd (omega arith)
colons (c ∷ d ∷ ds) h k = rw (h, k) refl

scope_words : (s r : List ℕ) → IsScope s r → words s ≡ words r
scope_words s r scope =
    colons s scope.first scope.second ∙ sym (words-past is_blank blank_other (drop 2 s)) ∙ ap words (sym scope.rest)

name_first : (s r : List ℕ) (name : IsScopedName s r) → words s ≡ identifiers_of name ++ words r
name_first s r (plain r1 name) = name_words s r name
name_first s r (rooted a r1 scope name) = scope_words s a scope ∙ name_words a r name
name_first s r (more a b r1 front scope name) =
    name_first s a front
    ∙ ap (λ ws. identifiers_of front ++ ws) (scope_words a b scope ∙ name_words b r name)
    ∙ sym (append_assoc (identifiers_of front) (take name.long b ∷ []) (words r))

-- a whole text that is a name has its identifiers as words
pub words-IsScopedName : (s : List ℕ) (name : IsScopedName s []) → words s ≡ identifiers_of name
words-IsScopedName s name = name_first s [] name ∙ append-nil (identifiers_of name)

-- ---- a step over a text

-- where nothing is cut off as a word, none is left
pub words-end : (s from word rest : List ℕ) (n : ℕ) → from ≡ past (λ c. not (is_word c)) s → n ≡ run is_word from
    → word ≡ take n from → rest ≡ drop n from → length word ≡ 0 → (words s ≡ []) × (words rest ≡ [])
words-end s from word rest n skipped counted cut left none =
    let zero_long : run is_word from ≡ 0 = sym (length-prefix_len is_word from)
    ∙ ap (λ k. length (take k from)) (sym counted) ∙ ap length (sym cut) ∙ none in
    let all : words s ≡ [] = words-none s (ap (run is_word) (sym skipped) ∙ zero_long) in (
      all,
      ap words (left ∙ ap (λ k. drop k from) (counted ∙ zero_long) ∙ skipped)
          ∙ words-past (λ c. not (is_word c)) not_word s ∙ all,
    )

-- what is cut off is the first word
pub words-step : (s from word rest : List ℕ) (n : ℕ) → from ≡ past (λ c. not (is_word c)) s → n ≡ run is_word from
    → word ≡ take n from → rest ≡ drop n from → 0 < length word → words s ≡ word ∷ words rest
words-step s from word rest n skipped counted cut left some =
    let long : length word ≡ run is_word from = ap length cut ∙ ap (λ k. length (take k from)) counted
    ∙ length-prefix_len is_word from in
    let begins : words from ≡ take (run is_word from) from ∷ words (past is_word from) =
    words-word from (omega (arith, long)) in
    sym (words-past (λ c. not (is_word c)) not_word s) ∙ ap words (sym skipped) ∙ begins
    ∙ ap (λ k. take k from ∷ words (drop k from)) (sym counted) ∙ ap (λ w. w ∷ words (drop n from)) (sym cut)
    ∙ ap (λ r. word ∷ words r) (sym left)
