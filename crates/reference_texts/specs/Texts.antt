-- Stringified object references (ISO/IEC 19500-2, IOR: stringified object references).
use Rattle.std.specs.Prelude.{◌≡◌, List, ℕ, ◌++◌, map, codes, Ok}
use Rattle.std.specs.Char.{to_ascii_lowercase}
use Rattle.hex.specs.Hex.{decode_of, encode_lower}
use Rattle.reference_texts.specs.References.{Reference, reference_tree}
use Rattle.reference_texts.specs.Encapsulations.{Encapsulates, IsWritten}

-- what stands behind `IOR:`, whose letters are of either case
pub record HasDigits (text digits : List ℕ) : Type 0 where
  pub prefix : List ℕ
  pub text_is : text ≡ prefix ++ digits
  pub prefix_is : map to_ascii_lowercase prefix ≡ codes "ior:"

-- the octets in digits
pub record SpellsOctets (text octets : List ℕ) : Type 0 where
  pub digits : List ℕ
  pub behind : HasDigits text digits
  pub digits_are : decode_of digits ≡ Ok octets

-- what is read
pub record Spells (text : List ℕ) (reference : Reference) : Type 0 where
  pub octets : List ℕ
  pub spelled_so : SpellsOctets text octets
  pub encapsulated : Encapsulates 13 (reference_tree reference) octets

-- octets in digits
abbrev pub spelled : List ℕ → List ℕ
spelled octets = codes "IOR:" ++ encode_lower octets

-- what is written
pub record IsTextOf (reference : Reference) (text : List ℕ) : Type 0 where
  pub octets : List ℕ
  pub text_is : text ≡ spelled octets
  pub written : IsWritten 13 (reference_tree reference) octets
