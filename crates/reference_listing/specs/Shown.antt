-- Octets as a person reads them (own).
use Rattle.std.specs.Prelude.{◌&&◌, ℕ, List, [], ◌∷◌, codes, nat_eq, nat_le, if◌then◌else◌}
use Rattle.std.specs.List.{flat_map}
use Rattle.hex.specs.Hex.{encode_lower}
use Rattle.type_graph.specs.declared.width.Order.{Order}
use Rattle.type_graph.specs.declared.width.Order.TheVariants.{Big, Little}

-- a character of ASCII that is printed, a backslash twice, any other octet by its number
abbrev pub shown_octet : ℕ → List ℕ
shown_octet octet =
    if nat_eq octet 92 then 92 ∷ 92 ∷ []
    else if nat_le 32 octet && nat_le octet 126 then octet ∷ []
    else 92 ∷ 120 ∷ encode_lower (octet ∷ [])

abbrev pub shown : List ℕ → List ℕ
shown = flat_map shown_octet

-- in hexadecimal; a bar where there are none
abbrev pub digits : List ℕ → List ℕ
digits [] = codes "-"
digits (octet ∷ octets) = encode_lower (octet ∷ octets)

abbrev pub order_word : Order → List ℕ
order_word Big = codes "big"
order_word Little = codes "little"
