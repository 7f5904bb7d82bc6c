-- What the form of a pragma says of its parts.
use Rattle.std.proofs.Common.{◌≡◌, ◌∙◌, ℕ, zero, suc, ◌<◌, Bool, true, not, List, [], ◌∷◌, codes, length, take, ap, sym, arith}
use Rattle.std.specs.Char.{is_ascii}
use Rattle.std.specs.List.{list_all}
use Rattle.std.specs.Str.{IsAscii}
use Rattle.std.proofs.Math.Logic.{∥∥₁_elim, ∥∥₁_map}
use Rattle.std.proofs.Props.{props}
use Rattle.std.proofs.lemmas.Bool.Decides.{nat_tests}
use Rattle.std.proofs.lemmas.List.{take_all}
use Rattle.std.proofs.lemmas.List.Folds.{length-prefix_len}
use Rattle.std.proofs.lemmas.Str.{IsAscii-drop}
use Rattle.idl_lexer.specs.declared.token.Kind.TheVariants.{Pragma}
use Rattle.idl_lexer.specs.Octets.{is_line_feed, past, run}
use Rattle.idl_lexer.specs.Directives.{line_of, before_quote, pragma_rest, pragma_word, version_place, IsIdEnd, IsKept, prefix, id, version, IsScopedName, IsVersionEnd}
use Rattle.idl_lexer.specs.Forms.{HasForm, IsPragmaLine}
use Rattle.idl_lexer.proofs.Inside.{and_true}

line_whole : (text : List ℕ) → IsPragmaLine [] text (length text) → line_of text ≡ text
line_whole text p =
    let long : length (line_of text) ≡ run (λ c. not (is_line_feed c)) text =
    length-prefix_len (λ c. not (is_line_feed c)) text in
    take_all (run (λ c. not (is_line_feed c)) text) text (omega (arith, p.whole, long))

kept : (text : List ℕ) → IsPragmaLine [] text (length text) → IsKept text
kept text p = rw (line_whole text p) at p.form

ascii_below : (c : ℕ) → is_ascii c ≡ true → c < 128
ascii_below c h = grind (arith, nat_tests)

all_ascii : (bs : List ℕ) → list_all is_ascii bs ≡ true → IsAscii bs
all_ascii [] h i = omega arith
all_ascii (c ∷ cs) h zero = ascii_below c (and_true (is_ascii c) (list_all is_ascii cs) h).0
all_ascii (c ∷ cs) h (suc i) = all_ascii cs (and_true (is_ascii c) (list_all is_ascii cs) h).1 i

pub pragma_ascii : (text : List ℕ) → HasForm Pragma text → IsAscii text
pragma_ascii text form i =
    ∥∥₁_elim form (hlevel props) (λ p. all_ascii text (ap (list_all is_ascii) (sym (line_whole text p)) ∙ p.ascii) i)

past_ascii : (p : ℕ → Bool) (s : List ℕ) → IsAscii s → IsAscii (past p s)
past_ascii p s h = IsAscii-drop s (run p s) h

pub rest_ascii : (text : List ℕ) → HasForm Pragma text → IsAscii (pragma_rest text)
rest_ascii text form =
    past_ascii _ _ (past_ascii _ _
    (past_ascii _ _ (past_ascii _ _ (past_ascii _ _ (IsAscii-drop text 1 (pragma_ascii text form))))))

id_end : (text : List ℕ) → IsKept text → pragma_word text ≡ codes "ID" → IsIdEnd (pragma_rest text)
id_end text (prefix p w e) is = let wrong : codes "prefix" ≡ codes "ID" = sym w ∙ is in cc
id_end text (id p w e) is = e
id_end text (version p w e) is = let wrong : codes "version" ≡ codes "ID" = sym w ∙ is in cc

version_end : (text : List ℕ) → IsKept text → ¬ (pragma_word text ≡ codes "prefix") → ¬ (pragma_word text ≡ codes "ID")
    → (pragma_word text ≡ codes "version") × IsVersionEnd (pragma_rest text)
version_end text (prefix p w e) a b = absurd (a w)
version_end text (id p w e) a b = absurd (b w)
version_end text (version p w e) a b = (w, e)

pub id_scoped : (text : List ℕ) → HasForm Pragma text → pragma_word text ≡ codes "ID"
    → ∥ IsScopedName (before_quote (pragma_rest text)) [] ∥₁
id_scoped text form is = ∥∥₁_map form (λ p. (id_end text (kept text p) is).name)

pub version_word : (text : List ℕ) → HasForm Pragma text → ¬ (pragma_word text ≡ codes "prefix")
    → ¬ (pragma_word text ≡ codes "ID") → pragma_word text ≡ codes "version"
version_word text form a b = ∥∥₁_elim form (hlevel props) (λ p. (version_end text (kept text p) a b).0)

pub version_scoped : (text : List ℕ) → HasForm Pragma text → ¬ (pragma_word text ≡ codes "prefix")
    → ¬ (pragma_word text ≡ codes "ID")
    → ∥ IsScopedName (take (version_place (pragma_rest text)) (pragma_rest text)) [] ∥₁
version_scoped text form a b = ∥∥₁_map form (λ p. (version_end text (kept text p) a b).1.name)
