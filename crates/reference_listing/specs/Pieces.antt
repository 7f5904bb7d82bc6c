-- Lines, and what stands in them (own).
use Rattle.std.specs.Prelude.{◌≡◌, ◌&&◌, ◌⊎◌, ℕ, suc, Bool, true, List, [], ◌∷◌, ◌++◌, codes, nat_eq, nat_le, if◌then◌else◌}
use Rattle.std.specs.Fmt.{decimal}
use Rattle.std.specs.List.{flat_map, list_all}
use Rattle.hex.specs.Hex.{encode_lower}
use Rattle.reference_listing.specs.Shown.{digits}

-- ---- octets that no value has

-- an octet of a gap that isn't zero, with its place in the encapsulation
abbrev pub gap_line : List ℕ → ℕ × ℕ → List ℕ
gap_line indent gap =
    indent ++ codes "gap " ++ decimal gap.0 ++ codes " octets " ++ encode_lower (gap.1 ∷ []) ++ codes "\n"

abbrev pub gap_lines : List ℕ → List (ℕ × ℕ) → List ℕ
gap_lines indent = flat_map (gap_line indent)

-- the octets behind a value, if there are some
abbrev pub behind_line : List ℕ → List ℕ → List ℕ
behind_line indent [] = []
behind_line indent (octet ∷ octets) = indent ++ codes "behind " ++ encode_lower (octet ∷ octets) ++ codes "\n"

-- ---- tags

-- a capital letter, a digit or an underscore
abbrev pub is_tag_letter : ℕ → Bool
is_tag_letter octet =
    if nat_eq octet 95 then true
    else if nat_le 48 octet && nat_le octet 57 then true else nat_le 65 octet && nat_le octet 90

-- a tag by its number, behind which its name may stand
pub record IsTag (tag : ℕ) (text : List ℕ) : Type 0 where
  pub name : List ℕ
  pub letters : list_all is_tag_letter name ≡ true
  pub is : (text ≡ decimal tag) ⊎ (text ≡ decimal tag ++ 32 ∷ name)

-- a component of a profile
pub record IsComponent (number : ℕ) (component : ℕ × List ℕ) (line : List ℕ) : Type 0 where
  pub tag : List ℕ
  pub tag_is : IsTag component.0 tag
  pub line_is : line
      ≡ codes "  component " ++ decimal number ++ codes " tag " ++ tag ++ codes " octets " ++ digits component.1
      ++ codes "\n"

-- components one behind the other, from a number on
pub record IsThen (First Rest : List ℕ → Type 0) (text : List ℕ) : Type 0 where
  pub first : List ℕ
  pub rest : List ℕ
  pub text_is : text ≡ first ++ rest
  pub here : First first
  pub there : Rest rest

abbrev pub AreLines : {A : Type 0} → (ℕ → A → List ℕ → Type 0) → ℕ → List A → List ℕ → Type 0
AreLines IsLine number [] text = text ≡ []
AreLines IsLine number (one ∷ more) text = IsThen (IsLine number one) (AreLines IsLine (suc number) more) text
