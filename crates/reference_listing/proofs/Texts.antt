-- Lines of parts.
use Rattle.std.proofs.Common.{◌≡◌, ℕ, false, List, [], ◌∷◌, ◌++◌, length, codes, nat_eq, refl, ◌∙◌, append_assoc}
use Rattle.hex.specs.Hex.{encode_lower}
use Rattle.reference_listing.specs.Pieces.{behind_line}

-- the line of some octets, of which these are the digits
pub some_behind : (indent octets digits line : List ℕ) → nat_eq (length octets) 0 ≡ false → digits ≡ encode_lower octets
    → line ≡ indent ++ codes "behind " ++ digits ++ codes "\n" → line ≡ behind_line indent octets
some_behind indent [] digits line e d is = absurd (cc)
some_behind indent (octet ∷ octets) digits line e d is = is ∙ simp d
