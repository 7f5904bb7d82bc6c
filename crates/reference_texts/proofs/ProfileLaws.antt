-- A profile that is written tells the key that it was written with.
use Rattle.std.proofs.Common.{◌≡◌, ℕ, List, refl}
use Rattle.reference_texts.specs.Profiles.{body_tree, new_body, HasKey, IsProfile}
use Rattle.reference_texts.proofs.Encapsulated.{written_once, written_read}
use Rattle.reference_texts.proofs.ProfileKeys.{profile_key_once}

pub key_told : (host : List ℕ) (port : ℕ) (key octets : List ℕ) → IsProfile host port key octets
    → HasKey (0, octets) key
key_told host port key octets is = record {
  tag = refl;
  body = new_body host port key;
  major = refl;
  key_is = refl;
  encapsulated = written_read 25 (body_tree (new_body host port key) 2) octets is.written;
}

pub key_alone : (host : List ℕ) (port : ℕ) (key other octets : List ℕ) → IsProfile host port key octets
    → HasKey (0, octets) other → other ≡ key
key_alone host port key other octets is told =
    profile_key_once (0, octets) other key told (key_told host port key octets is)

pub profile_once : (host : List ℕ) (port : ℕ) (key a b : List ℕ) → IsProfile host port key a → IsProfile host port key b
    → a ≡ b
profile_once host port key a b one other =
    written_once 25 (body_tree (new_body host port key) 2) a b one.written other.written
