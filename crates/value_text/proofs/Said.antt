-- The text says the same tokens.
use Rattle.std.proofs.Common.{◌≡◌, ℕ, ◌<◌, Bool, true, false, cond, ◌&&◌, List, [], ◌∷◌, ◌++◌, refl, sym, ap, ap₂, ◌∙◌, subst, arith, append_assoc}
use Rattle.std.specs.Str.{IsUtf8}
use Rattle.json.specs.Token.{Token, begin_object, end_object, begin_array, end_array, key, string, number, boolean, null, bad}
use Rattle.json.specs.Word.{ends_word, word}
use Rattle.json.specs.Lex.{Lexeme, token, comma, colon, string_token, lex, between, fresh, punctuate, tokens}
use Rattle.json.specs.Print.{escape, quoted, token_text, begins, ends, print_from, print, IsPrintableOrBad, ArePrintableOrBad}
use Rattle.json.proofs.Numbered.{ArePrintableOrBad-tokens}
use Rattle.json.proofs.Printed.Strings.{content-escape, lex-escape}
use Rattle.json.proofs.Printed.Numbers.{lex-number, in_word-ended}
use Rattle.value_text.specs.Escaped.{escaped}
use Rattle.value_text.proofs.Passed.{pass, passed, kept_low, kept_all, AreLow}
use Rattle.value_text.proofs.Strings.{says}
use Rattle.value_text.proofs.Numbers.{low_number}

-- after a value stands a comma, a closing bracket or nothing
ended : (ts : List Token) → ends_word (print_from true ts) ≡ true
unfolding print_from
ended [] = refl
ended (begin_object ∷ ts) = refl
ended (end_object ∷ ts) = refl
ended (begin_array ∷ ts) = refl
ended (end_array ∷ ts) = refl
ended (key s ∷ ts) = refl
ended (string s ∷ ts) = refl
ended (number s ∷ ts) = refl
ended (boolean b ∷ ts) = refl
ended (null ∷ ts) = refl
ended (bad ∷ ts) = refl

pass_ended : (ts : List Token) → ends_word (pass false (print_from true ts)) ≡ true
unfolding print_from pass
pass_ended [] = refl
pass_ended (begin_object ∷ ts) = refl
pass_ended (end_object ∷ ts) = refl
pass_ended (begin_array ∷ ts) = refl
pass_ended (end_array ∷ ts) = refl
pass_ended (key s ∷ ts) = refl
pass_ended (string s ∷ ts) = refl
pass_ended (number s ∷ ts) = refl
pass_ended (boolean b ∷ ts) = refl
pass_ended (null ∷ ts) = refl
pass_ended (bad ∷ ts) = refl

-- a string
lex_quoted : (s r : List ℕ) → lex between (quoted s ++ r) ≡ token (string s) ∷ lex between r
unfolding lex
lex_quoted s r =
    ap (λ l. lex between (34 ∷ l)) (append_assoc (escape s) (34 ∷ []) r)
    ∙ ap₂ (λ o l. token (string_token o) ∷ l) (content-escape s r) (lex-escape s r)

lex_passed : (s r : List ℕ) → lex between (pass false (quoted s ++ r)) ≡ token (string s) ∷ lex between (pass false r)
unfolding lex pass
lex_passed s r =
    let is = says false s r in
    ap (λ l. lex between (pass false (34 ∷ l))) (append_assoc (escape s) (34 ∷ []) r)
    ∙ ap₂ (λ o l. token (string_token o) ∷ l) is.read is.lexed

module _ (r : List ℕ) (same : lex between (pass false r) ≡ lex between r) where
  -- one octet of its own
  mark : (x : ℕ) (m : Lexeme) → x < 127 → ((u : List ℕ) → lex between (x ∷ u) ≡ m ∷ lex between u)
      → lex between (pass false (x ∷ r)) ≡ lex between (x ∷ r)
  mark x m low is = ap (lex between) (kept_low false x r low) ∙ is (pass false r) ∙ ap (λ l. m ∷ l) same ∙ sym (is r)

  quoted_same : (s : List ℕ) → lex between (pass false (quoted s ++ r)) ≡ lex between (quoted s ++ r)
  quoted_same s = lex_passed s r ∙ ap (λ l. token (string s) ∷ l) same ∙ sym (lex_quoted s r)

  -- a word that ends
  word_same : (w : List ℕ) (t : Token) → AreLow w → ends_word r ≡ true → ends_word (pass false r) ≡ true
      → ((u : List ℕ) → ends_word u ≡ true → lex between (w ++ u) ≡ token t ∷ lex between u)
      → lex between (pass false (w ++ r)) ≡ lex between (w ++ r)
  word_same w t low ends passed_ends is = ap (lex between) (kept_all w r low) ∙ is (pass false r) passed_ends
      ∙ ap (λ l. token t ∷ l) same ∙ sym (is r ends)

lex_mark : (u : List ℕ) → (lex between (123 ∷ u) ≡ token begin_object ∷ lex between u)
    × (lex between (125 ∷ u) ≡ token end_object ∷ lex between u)
    × (lex between (91 ∷ u) ≡ token begin_array ∷ lex between u)
    × (lex between (93 ∷ u) ≡ token end_array ∷ lex between u)
    × (lex between (58 ∷ u) ≡ colon ∷ lex between u) × (lex between (44 ∷ u) ≡ comma ∷ lex between u)
unfolding lex
lex_mark u = (refl, refl, refl, refl, refl, refl)

true_word : (u : List ℕ) → ends_word u ≡ true → lex between (116 ∷ 114 ∷ 117 ∷ 101 ∷ u)
    ≡ token (boolean true) ∷ lex between u
unfolding lex word
true_word u e = ap₂ (λ b l. token (cond b (boolean true) bad) ∷ l) e (in_word-ended u e)

false_word : (u : List ℕ) → ends_word u ≡ true → lex between (102 ∷ 97 ∷ 108 ∷ 115 ∷ 101 ∷ u)
    ≡ token (boolean false) ∷ lex between u
unfolding lex word
false_word u e = ap₂ (λ b l. token (cond b (boolean false) bad) ∷ l) e (in_word-ended u e)

null_word : (u : List ℕ) → ends_word u ≡ true → lex between (110 ∷ 117 ∷ 108 ∷ 108 ∷ u) ≡ token null ∷ lex between u
unfolding lex word
null_word u e = ap₂ (λ b l. token (cond b null bad) ∷ l) e (in_word-ended u e)

abbrev Same : List ℕ → Type 0
Same text = lex between (pass false text) ≡ lex between text

token_same : (t : Token) (ts : List Token) → IsPrintableOrBad t → Same (print_from (ends t) ts)
    → Same (token_text t ++ print_from (ends t) ts)
token_same begin_object ts h same = mark _ same 123 (token begin_object) (omega arith) (λ u. (lex_mark u).0)
token_same end_object ts h same = mark _ same 125 (token end_object) (omega arith) (λ u. (lex_mark u).1)
token_same begin_array ts h same = mark _ same 91 (token begin_array) (omega arith) (λ u. (lex_mark u).2)
token_same end_array ts h same = mark _ same 93 (token end_array) (omega arith) (λ u. (lex_mark u).3)
token_same (key s) ts h same =
    let r = print_from false ts in
    subst Same (sym (append_assoc (quoted s) (58 ∷ []) r))
    (quoted_same (58 ∷ r) (mark r same 58 colon (omega arith) (λ u. (lex_mark u).4)) s)
token_same (string s) ts h same = quoted_same _ same s
token_same (number s) ts h same =
    word_same _ same s (number s) (low_number s h) (ended ts) (pass_ended ts) (λ u e. lex-number s u h e)
token_same (boolean true) ts h same =
    word_same _ same (116 ∷ 114 ∷ 117 ∷ 101 ∷ []) (boolean true)
    (omega arith, (omega arith, (omega arith, (omega arith, tt)))) (ended ts) (pass_ended ts) true_word
token_same (boolean false) ts h same =
    word_same _ same (102 ∷ 97 ∷ 108 ∷ 115 ∷ 101 ∷ []) (boolean false)
    (omega arith, (omega arith, (omega arith, (omega arith, (omega arith, tt))))) (ended ts) (pass_ended ts)
    false_word
token_same null ts h same =
    word_same _ same (110 ∷ 117 ∷ 108 ∷ 108 ∷ []) null (omega arith, (omega arith, (omega arith, (omega arith, tt))))
    (ended ts) (pass_ended ts) null_word
token_same bad ts h same = same

separated : (b : Bool) (text : List ℕ) → Same text → Same (cond b (44 ∷ []) [] ++ text)
separated false text same = same
separated true text same = mark text same 44 comma (omega arith) (λ u. (lex_mark u).5)

print_same : (after : Bool) (ts : List Token) → ArePrintableOrBad ts → Same (print_from after ts)
unfolding print_from lex pass
print_same after [] h = refl
print_same after (t ∷ ts) h = separated (after && begins t) _ (token_same t ts h.0 (print_same (ends t) ts h.1))

pub says_the_same : (said : List Token) → IsUtf8 (print said) → tokens (print said) ≡ said
    → tokens (escaped (print said)) ≡ said
says_the_same said u back =
    let printable = subst ArePrintableOrBad back (ArePrintableOrBad-tokens (print said)) in
    ap tokens (passed (print said) u) ∙ ap (punctuate fresh) (print_same false said printable) ∙ back
