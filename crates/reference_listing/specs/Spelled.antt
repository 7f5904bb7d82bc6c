-- Which reference a text spells: `IOR:` and digits, or a corbaloc URL.
use Rattle.std.specs.Prelude.{◌≡◌, ℕ, Bool, true, false, nat_eq, List, [], ◌∷◌, codes}
use Rattle.std.specs.List.{starts_with}
use Rattle.reference_texts.specs.References.{Reference}
use Rattle.reference_texts.specs.Profiles.{IsProfile}
use Rattle.reference_texts.specs.Texts.{Spells}
use Rattle.reference_texts.specs.Places.{Place, SpellsCorbaloc}

-- the reference to the object of a place: without an id, with one profile, of IIOP 1.2
pub record IsOfPlace (place : Place) (reference : Reference) : Type 0 where
  pub octets : List ℕ
  pub profile : IsProfile place.host place.port place.key octets
  pub is : reference ≡ record { type_id = []; profiles = (0, octets) ∷ [] }

-- what a URL stands for
pub record SpellsUrl (text : List ℕ) (reference : Reference) : Type 0 where
  pub place : Place
  pub spells : SpellsCorbaloc text place
  pub is : IsOfPlace place reference

abbrev pub is_url : List ℕ → Bool
is_url text = starts_with nat_eq text (codes "corbaloc:")

-- by whether it is a URL
abbrev pub SpellsBy : Bool → List ℕ → Reference → Type 0
SpellsBy true text reference = SpellsUrl text reference
SpellsBy false text reference = Spells text reference

abbrev pub SpellsReference : List ℕ → Reference → Type 0
SpellsReference text reference = SpellsBy (is_url text) text reference
