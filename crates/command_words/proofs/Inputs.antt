-- In which form a value to encode or to decode is asked for.
use Rattle.std.proofs.Common.{◌≡◌, ◌∙◌, refl, sym, false, true, List, Option, Some, None, is_some, codes, ap, Bool}
use Rattle.clap.specs.Words.{Row, Text, first_of, one_of}
use Rattle.command_words.specs.declared.requests.value.Way.{Way}
use Rattle.command_words.specs.declared.requests.value.Way.TheVariants.{Encode, Decode}
use Rattle.command_words.specs.declared.requests.value.Form.{Form}
use Rattle.command_words.specs.declared.requests.value.Form.TheVariants as forms
use Rattle.command_words.specs.Words.{TellsInput}
use Rattle.command_words.proofs.FoundRequests.{same_some}

pub not_none : (found : Option Text) (text : Text) → found ≡ Some text → found ≡ None → ⊥
not_none found text some none = let bad : Some text ≡ None = sym some ∙ none in absurd cc

module _ (rows : List Row) where
  -- the word HEX alone asks for the form in digits
  pub by_tape : (way : Way) (form : Form) (input hex : Text) → way ≡ Encode → TellsInput way form rows input
      → first_of (codes "HEX") rows ≡ Some hex → first_of (codes "text") rows ≡ None
      → (forms.Hex ≡ form) × (hex ≡ input)
  by_tape Encode forms.Hex input hex is tells h t = (refl, same_some _ _ _ h tells.0)
  by_tape Encode forms.Text input hex is tells h t = absurd (not_none _ hex h tells.0)
  by_tape Decode form input hex is tells h t = absurd cc

  -- the option `--text` alone asks for text
  pub by_words : (way : Way) (form : Form) (input text : Text) → way ≡ Encode → TellsInput way form rows input
      → first_of (codes "HEX") rows ≡ None → first_of (codes "text") rows ≡ Some text
      → (forms.Text ≡ form) × (text ≡ input)
  by_words Encode forms.Hex input text is tells h t = absurd (not_none _ text t tells.1)
  by_words Encode forms.Text input text is tells h t = (refl, same_some _ _ _ t tells.1)
  by_words Decode form input text is tells h t = absurd cc

  -- a value that is asked for isn't named twice, and is named
  pub is_clear : (way : Way) (form : Form) (input : Text) → way ≡ Encode → TellsInput way form rows input
      → is_some (first_of (codes "HEX") rows) ≡ is_some (first_of (codes "text") rows) → ⊥
  is_clear Encode forms.Hex input is tells same =
      let bad : true ≡ false = sym (ap is_some tells.0) ∙ same ∙ ap is_some tells.1 in absurd cc
  is_clear Encode forms.Text input is tells same =
      let bad : false ≡ true = sym (ap is_some tells.0) ∙ same ∙ ap is_some tells.1 in absurd cc
  is_clear Decode form input is tells same = absurd cc

  -- octets to decode are the word HEX
  pub by_octets : (way : Way) (form : Form) (input : Text) → way ≡ Decode → TellsInput way form rows input
      → first_of (codes "HEX") rows ≡ Some input
  by_octets Decode forms.Hex input is tells = tells.0
  by_octets Decode forms.Text input is tells = tells.0
  by_octets Encode form input is tells = absurd cc

  -- the flag tells the form
  pub by_flag : (way : Way) (form : Form) (input : Text) (flag : Bool) → way ≡ Decode → TellsInput way form rows input
      → (one_of (codes "text") rows ≡ Some (codes "true") → flag ≡ true)
      → (one_of (codes "text") rows ≡ Some (codes "false") → flag ≡ false)
      → (flag ≡ true → forms.Text ≡ form) × (flag ≡ false → forms.Hex ≡ form)
  by_flag Decode forms.Hex input flag is tells on off = (λ yes. let no = off tells.1 in absurd cc, λ no. refl)
  by_flag Decode forms.Text input flag is tells on off = (λ yes. refl, λ no. let yes = on tells.1 in absurd cc)
  by_flag Encode form input flag is tells on off = absurd cc
