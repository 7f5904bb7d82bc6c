-- Among the words of one's own length.
use Rattle.std.proofs.Common.{◌≡◌, ◌∙◌, ℕ, Bool, true, List, [], ◌∷◌, Bor, filter, length, map, ◌==◌, ◌||◌, ap, refl, sym, eq-eqb}
use Rattle.std.specs.Char.{to_ascii_lowercase}
use Rattle.std.specs.List.{list_any}
use Rattle.std.specs.Str.{bytes_eq, str_eq_ignore_ascii_case}
use Rattle.std.proofs.lemmas.List.{length-map}
use Rattle.std.proofs.lemmas.Map.Views.{any-filter_same}
use Rattle.std.proofs.lemmas.Slice.Eq.{bytes_eq-Decides}
use Rattle.idl_lexer.specs.Words.{keywords}

list_any-map : (p : List ℕ → Bool) (ts : List (Bor (List ℕ)))
    → list_any (λ (t : Bor (List ℕ)). p t.now) ts ≡ list_any p (map (λ (t : Bor (List ℕ)). t.now) ts)
list_any-map p [] = refl
list_any-map p (t ∷ ts) = ap (λ b. p t.now || b) (list_any-map p ts)

same_len : (a b : List ℕ) → bytes_eq a b ≡ true → length a ≡ length b
same_len a b h = ap length ((bytes_eq-Decides a b).0 h)

-- a test that holds of texts of w's length alone finds a keyword just where it finds one of that length
pub among : (p : List ℕ → Bool) (w : List ℕ) (ts : List (Bor (List ℕ)))
    → ((k : List ℕ) → p k ≡ true → length k ≡ length w)
    → map (λ (t : Bor (List ℕ)). t.now) ts ≡ filter (λ k. length k == length w) keywords
    → list_any (λ (t : Bor (List ℕ)). p t.now) ts ≡ list_any p keywords
among p w ts only are =
    list_any-map p ts ∙ ap (list_any p) are
    ∙ any-filter_same p (λ k. length k == length w) true (λ k h. eq-eqb (length k) (length w) (only k h)) keywords

pub same_text_len : (w k : List ℕ) → bytes_eq k w ≡ true → length k ≡ length w
same_text_len w k h = same_len k w h

pub any_case_len : (w k : List ℕ) → str_eq_ignore_ascii_case k w ≡ true → length k ≡ length w
any_case_len w k h =
    sym (length-map k to_ascii_lowercase) ∙ same_len (map to_ascii_lowercase k) (map to_ascii_lowercase w) h
    ∙ length-map w to_ascii_lowercase
