-- What is printed of the reference that a text spells.
use Rattle.std.specs.Prelude.{◌≡◌, ℕ, Bool, true, false, List, [], ◌++◌, codes}
use Rattle.reference_texts.specs.References.{Reference}
use Rattle.reference_texts.specs.Texts.{IsTextOf, SpellsOctets}
use Rattle.reference_listing.specs.Lines.{IsTold}
use Rattle.reference_listing.specs.Spelled.{SpellsReference, is_url}

-- the octets of the reference in digits, and its lines
pub record IsToldOf (digits : List ℕ) (reference : Reference) (lines : List ℕ) : Type 0 where
  pub octets : List ℕ
  pub spelled : SpellsOctets digits octets
  pub told : IsTold octets reference lines

-- of a URL a line with the reference in digits, and what this says
pub record IsToldOfUrl (reference : Reference) (lines : List ℕ) : Type 0 where
  pub digits : List ℕ
  pub text : IsTextOf reference digits
  pub rest : List ℕ
  pub lines_are : lines ≡ digits ++ codes "\n" ++ rest
  pub told : IsToldOf digits reference rest

abbrev pub IsToldBy : Bool → List ℕ → Reference → List ℕ → Type 0
IsToldBy true text reference lines = IsToldOfUrl reference lines
IsToldBy false text reference lines = IsToldOf text reference lines

-- Lines of the reference that the text spells.
pub record IsDescription (text lines : List ℕ) : Type 0 where
  pub reference : Reference
  pub spells : SpellsReference text reference
  pub told : IsToldBy (is_url text) text reference lines
