-- The texts for which words stand.
use Rattle.std.specs.Prelude.{◌≡◌, ◌≢◌, ℕ, List, ◌∷◌, Option, Some, None, codes}
use Rattle.std.specs.Str.{IsUtf8}
use Rattle.command_tables.specs.Named.{Passing, IsUnread}
use Rattle.command_tables.specs.declared.refusal.Refusal.{Refusal}
use Rattle.command_tables.specs.declared.refusal.Refusal.TheVariants.{Unsaid}
use Rattle.command_words.specs.declared.requests.value.Form.{Form}
use Rattle.command_words.specs.declared.requests.value.Form.TheVariants.{Text}
use Rattle.command_words.specs.declared.requests.value.Way.{Way}
use Rattle.command_words.specs.declared.requests.value.Way.TheVariants.{Encode}

-- where a word for a text has it from: standard input for `-`, the file behind `@`, or else none but itself
pub record IsSource (word : List ℕ) (source : Option (List ℕ)) : Type 0 where
  pub standard : word ≡ codes "-" → source ≡ Some (codes "/dev/stdin")
  pub file : (name : List ℕ) → word ≡ 64 ∷ name → source ≡ Some name
  pub own : word ≢ codes "-" → ((name : List ℕ) → word ≢ 64 ∷ name) → source ≡ None

abbrev pub IsHadFrom : Passing → List ℕ → Option (List ℕ) → List ℕ → Type 0
IsHadFrom Reads word None text = text ≡ word
IsHadFrom Reads word (Some file) text = Reads file text

-- the text that a word stands for
pub record IsTextFor (Reads : Passing) (word text : List ℕ) : Type 0 where
  pub source : Option (List ℕ)
  pub from : IsSource word source
  pub had : IsHadFrom Reads word source text

-- what a word stands for: a text where a value is to be encoded from text, else itself
abbrev pub IsInput : Passing → Form → Way → List ℕ → List ℕ → Type 0
IsInput Reads Text Encode word input = IsTextFor Reads word input
IsInput Reads form way word input = input ≡ word

-- ---- refusals

-- the file can't be read, or is no text
abbrev pub IsNoTextIn : Passing → List ℕ → Refusal → Type 0
IsNoTextIn Reads file (Unsaid fault) = (octets : List ℕ) × Reads file octets × (IsUtf8 octets → ⊥)
IsNoTextIn Reads file refusal = IsUnread Reads file refusal

-- the word for a text stands for none
pub record HasNoInput (Reads : Passing) (word : List ℕ) (refusal : Refusal) : Type 0 where
  pub file : List ℕ
  pub from : IsSource word (Some file)
  pub none : IsNoTextIn Reads file refusal

abbrev pub IsInputFault : Passing → Form → Way → List ℕ → Refusal → Type 0
IsInputFault Reads Text Encode word refusal = HasNoInput Reads word refusal
IsInputFault Reads form way word refusal = ⊥
