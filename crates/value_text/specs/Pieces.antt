-- Pieces of the texts of values. A text is JSON (RFC 8259), seen as the tokens of the crate json of the kit.
use Rattle.std.specs.Prelude.{ℕ, suc, ℤ, Bool, false, ◌==◌}
use Rattle.std.specs.Prelude.{List, [], ◌∷◌, ◌++◌, length, encode_utf8_all}
use Rattle.std.specs.Fmt.{signed_decimal}
use Rattle.json.specs.Token.{Token, begin_object, end_object, begin_array, end_array, key, number}
pub use Rattle.value_text.specs.Octets.{octet_of, octet_of_tree, octets_of}

-- octet n as the character U+00nn: every octet has one, and no two have the same
abbrev pub characters : List ℕ → List ℕ
characters octets = encode_utf8_all octets

-- a number without a fraction, an exponent or a needless sign
abbrev pub digits : ℤ → Token
digits n = number (signed_decimal n)

-- one text behind the other
abbrev pub joined : List (List Token) → List Token
joined [] = []
joined (text ∷ texts) = text ++ joined texts

-- a list of these texts
abbrev pub listed : List (List Token) → List Token
listed texts = begin_array ∷ (joined texts ++ end_array ∷ [])

-- texts with their names
abbrev pub paired : List (List ℕ × List Token) → List Token
paired [] = []
paired (pair ∷ pairs) = key pair.0 ∷ (pair.1 ++ paired pairs)

-- an object of these members
abbrev pub object_of : List (List ℕ × List Token) → List Token
object_of pairs = begin_object ∷ (paired pairs ++ end_object ∷ [])

-- there are names, one for each of so many parts
abbrev pub are_named : List (List ℕ) → ℕ → Bool
are_named [] n = false
are_named (label ∷ labels) n = suc (length labels) == n
