-- What is told of the reference that a word stands for.
use Rattle.std.specs.Prelude.{◌⊎◌, ℕ, List}
use Rattle.std.specs.Str.{IsTrimAscii}
use Rattle.reference_listing.specs.Described.{IsDescription}
use Rattle.reference_listing.specs.Refusal.{SpellsNone}
use Rattle.reference_listing.specs.declared.spelled_references.fault.SpellingFault.{SpellingFault}
use Rattle.reference_listing.specs.declared.spelled_references.fault.SpellingFault.TheVariants.{BadIor, BadCorbaloc, NoMemory}
use Rattle.command_tables.specs.Named.{Passing}
use Rattle.command_tables.specs.Texts.{HasNoInput, IsTextFor}
use Rattle.command_tables.specs.declared.refusal.Refusal.TheVariants as refusals
use Rattle.value_text.specs.declared.fault.Refusal.{Refusal as TextFault}
use Rattle.idlc_main.specs.declared.fault.Fault.{Fault}
use Rattle.idlc_main.specs.declared.fault.Fault.TheVariants.{Refused, NotSpelled}

-- the text that a word stands for, without the blanks around it
pub record IsBareText (Reads : Passing) (word text : List ℕ) : Type 0 where
  pub whole : List ℕ
  pub stands : IsTextFor Reads word whole
  pub bare : IsTrimAscii whole text

-- lines of the reference that it spells
pub record IsDescribed (Reads : Passing) (word lines : List ℕ) : Type 0 where
  pub text : List ℕ
  pub is : IsBareText Reads word text
  pub described : IsDescription text lines

-- it spells none
pub record IsUnspelled (Reads : Passing) (word : List ℕ) : Type 0 where
  pub text : List ℕ
  pub is : IsBareText Reads word text
  pub none : SpellsNone text

-- its file is none of text
abbrev pub IsNoText : Passing → List ℕ → Type 0
IsNoText Reads word = (fault : TextFault) × HasNoInput Reads word (refusals.Unsaid fault)

abbrev pub IsNoReference : Passing → List ℕ → SpellingFault → Type 0
IsNoReference Reads word BadIor = IsUnspelled Reads word ⊎ IsNoText Reads word
IsNoReference Reads word BadCorbaloc = IsUnspelled Reads word
IsNoReference Reads word NoMemory = Unit {0}

-- the word's file can't be read, or what the word stands for is no reference
abbrev pub IsDescriptionFault : Passing → List ℕ → Fault → Type 0
IsDescriptionFault Reads word (Refused (refusals.Unsaid fault)) = ⊥
IsDescriptionFault Reads word (Refused refusals.NoMemory) = Unit {0}
IsDescriptionFault Reads word (Refused refusal) = HasNoInput Reads word refusal
IsDescriptionFault Reads word (NotSpelled fault) = IsNoReference Reads word fault
IsDescriptionFault Reads word fault = ⊥
