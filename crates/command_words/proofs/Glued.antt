-- The words from a place on.
use Rattle.std.proofs.Common.{◌≡◌, ℕ, zero, suc, ◌+◌, ◌<◌, ◌≤◌, true, false, List, [], ◌∷◌, ◌++◌, Bor, length, take, drop, get_or, append_assoc, refl, sym, ap, ◌∙◌, codes, arith}
use Rattle.std.proofs.lemmas.List.{take-append-drop}
use Rattle.std.specs.Str.{bytes_eq}
use Rattle.clap.specs.Words.{Text}
use Rattle.command_words.specs.Spoken.{glued, joined, spoken}
use Rattle.command_words.specs.Words.{texts}

-- the word at a place, and those behind it
pub here : (words : List (Bor Text)) (i : ℕ) (none : Bor Text) → i < length words
    → drop i (texts words) ≡ (get_or words i none).now ∷ drop (i + 1) (texts words)
here [] i none inside = absurd (omega arith)
here (word ∷ words) zero none inside = refl
here (word ∷ words) (suc i) none inside =
    let more : suc (i + 1) ≡ suc i + 1 = omega arith in
    here words i none (omega arith) ∙ ap (λ k. (get_or words i none).now ∷ drop k (word.now ∷ texts words)) more

front : (words : List Text) (i : ℕ) (word : Text) (rest : List Text) → drop i words ≡ word ∷ rest
    → take (i + 1) words ≡ take i words ++ word ∷ []
front [] zero word rest e = absurd cc
front [] (suc i) word rest e = absurd cc
front (first ∷ words) zero word rest e = let is : first ≡ word = cc in ap (λ w. w ∷ []) is
front (first ∷ words) (suc i) word rest e =
    let more : suc i + 1 ≡ suc (i + 1) = omega arith in
    ap (λ k. take k (first ∷ words)) more ∙ ap (λ l. first ∷ l) (front words i word rest e)

module _ (words : List Text) (i : ℕ) (word : Text) (rest : List Text) (there : drop i words ≡ word ∷ rest)
    (so_far : glued words ≡ take i words ++ glued (drop i words)) where
  pub text_there : bytes_eq word (codes "--text") ≡ true → glued words ≡ take i words ++ joined (drop i words)
  text_there is =
      let one : glued (word ∷ rest) ≡ joined (word ∷ rest) = rw is refl in
      so_far ∙ ap (λ l. take i words ++ l) (ap glued there ∙ one ∙ ap joined (sym there))

  pub end_there : bytes_eq word (codes "--text") ≡ false → bytes_eq word (codes "--") ≡ true → glued words ≡ words
  end_there other is =
      let one : glued (word ∷ rest) ≡ word ∷ rest = rw (other, is) refl in
      so_far ∙ ap (λ l. take i words ++ l) (ap glued there ∙ one ∙ sym there) ∙ take-append-drop i words

  pub other_there : bytes_eq word (codes "--text") ≡ false → bytes_eq word (codes "--") ≡ false
      → glued words ≡ take (i + 1) words ++ glued rest
  other_there other again =
      let one : glued (word ∷ rest) ≡ word ∷ glued rest = rw (other, again) refl in
      so_far ∙ ap (λ l. take i words ++ l) (ap glued there ∙ one)
      ∙ sym (append_assoc (take i words) (word ∷ []) (glued rest))
      ∙ ap (λ l. l ++ glued rest) (sym (front words i word rest there))

-- the words of the command
pub of_encode : (words : List Text) → 2 ≤ length words → bytes_eq (get_or words 1 []) (codes "encode") ≡ true
    → spoken words ≡ take 2 words ++ glued (drop 2 words)
of_encode [] long is = absurd (omega arith)
of_encode (program ∷ []) long is = absurd (omega arith)
of_encode (program ∷ command ∷ rest) long is = rw is refl

pub of_others : (words : List Text) → (2 ≤ length words → bytes_eq (get_or words 1 []) (codes "encode") ≡ false)
    → spoken words ≡ words
of_others [] not = refl
of_others (program ∷ []) not = refl
of_others (program ∷ command ∷ rest) not = let is = not (omega arith) in rw is refl
