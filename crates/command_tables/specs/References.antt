-- The line that the command for references prints.
use Rattle.std.specs.Prelude.{◌≡◌, ◌≢◌, ℕ, ◌<◌, List, [], ◌∷◌, ◌++◌, length, slice_index, Option, Some, None, if◌then◌else◌}
use Rattle.std.specs.Str.{bytes_eq}
use Rattle.type_model.specs.declared.signatures.Interface.{Interface}
use Rattle.type_model.specs.ModelRules.{Parts}
use Rattle.reference_texts.specs.References.{Reference}
use Rattle.reference_texts.specs.Profiles.{IsProfile}
use Rattle.reference_texts.specs.Texts.{IsTextOf}
use Rattle.command_words.specs.Requests.{ReferenceParts}

-- A word for an object: the key is what stands before the first equals sign, and isn't empty.
pub record IsObject (word key name : List ℕ) : Type 0 where
  pub word_is : word ≡ key ++ 61 ∷ name
  pub first : (i : ℕ) → i < length key → slice_index key i ≢ 61
  pub some : 0 < length key

-- the first interface of a name
abbrev pub interface_named : List ℕ → List Interface → Option Interface
interface_named name [] = None
interface_named name (interface ∷ more) =
    if bytes_eq interface.name name then Some interface else interface_named name more

-- a reference with one profile, of IIOP
abbrev pub reference_with : List ℕ → List ℕ → Reference
reference_with id octets = record { type_id = id; profiles = (0, octets) ∷ [] }

-- the text of the reference with the profile of this host, port and key
pub record IsReferenceText (host : List ℕ) (port : ℕ) (key id text : List ℕ) : Type 0 where
  pub octets : List ℕ
  pub profile : IsProfile host port key octets
  pub text_is : IsTextOf (reference_with id octets) text

-- the reference to an object of an interface
pub record IsText (model : Parts) (ask : ReferenceParts) (text : List ℕ) : Type 0 where
  pub key : List ℕ
  pub name : List ℕ
  pub object : IsObject ask.object key name
  pub interface : Interface
  pub named : interface_named name model.interfaces ≡ Some interface
  pub reference : IsReferenceText ask.host ask.port key interface.id text

pub record IsReferenceLine (model : Parts) (ask : ReferenceParts) (line : List ℕ) : Type 0 where
  pub text : List ℕ
  pub line_is : line ≡ text ++ 10 ∷ []
  pub text_is : IsText model ask text
