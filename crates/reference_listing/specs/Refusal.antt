-- What a fault says.
use Rattle.std.specs.Prelude.{◌≡◌, ℕ, true, false, List}
use Rattle.reference_texts.specs.References.{Reference}
use Rattle.reference_listing.specs.Spelled.{SpellsReference, is_url}
use Rattle.reference_listing.specs.declared.spelled_references.fault.SpellingFault.{SpellingFault}
use Rattle.reference_listing.specs.declared.spelled_references.fault.SpellingFault.TheVariants.{BadIor, BadCorbaloc, NoMemory}

-- the text spells no reference
abbrev pub SpellsNone : List ℕ → Type 0
SpellsNone text = (reference : Reference) → SpellsReference text reference → ⊥

-- why a text is refused: it spells none, in digits or as a URL; or memory was wanted
abbrev pub RefusesSpelling : SpellingFault → List ℕ → Type 0
RefusesSpelling NoMemory text = Unit {0}
RefusesSpelling BadIor text = (is_url text ≡ false) × SpellsNone text
RefusesSpelling BadCorbaloc text = (is_url text ≡ true) × SpellsNone text
