-- The lines that say what a reference says, octet by octet (own).
use Rattle.std.specs.Prelude.{◌≡◌, ℕ, List, [], ◌++◌, codes}
use Rattle.std.specs.Fmt.{decimal}
use Rattle.reference_texts.specs.Encapsulations.{EncapsulatesSo, Manner}
use Rattle.reference_texts.specs.Profiles.{body_node, body_tree}
use Rattle.reference_texts.specs.References.{Reference, reference_tree}
use Rattle.reference_listing.specs.Listings.{Iiop, IsRow, OfIiop, OfOther, Row}
use Rattle.reference_listing.specs.Shown.{digits, order_word, shown}
use Rattle.reference_listing.specs.Pieces.{AreLines, IsComponent, IsTag, behind_line, gap_lines}

-- ---- profiles

-- the version, the order, the host, the port and the key of a profile of IIOP
abbrev pub address_lines : ℕ → Iiop → List ℕ
address_lines number iiop =
    codes "profile " ++ decimal number ++ codes " IIOP " ++ decimal iiop.body.major ++ codes "."
    ++ decimal iiop.body.minor ++ codes " order " ++ order_word iiop.order ++ codes "\n  host " ++ shown iiop.body.host
    ++ codes "\n  port " ++ decimal iiop.body.port ++ codes "\n  key " ++ digits iiop.body.key
    ++ codes "\n  key as text " ++ shown iiop.body.key ++ codes "\n"

-- a profile of IIOP: each of its octets is told, or a zero in a gap
pub record IsIiopText (number : ℕ) (profile : ℕ × List ℕ) (iiop : Iiop) (text : List ℕ) : Type 0 where
  pub gaps : List (ℕ × ℕ)
  pub so : EncapsulatesSo (body_node iiop.body.minor) (body_tree iiop.body iiop.body.minor)
      (record { order = iiop.order; gaps = gaps; behind = iiop.behind }) profile.1
  pub components : List ℕ
  pub components_are : AreLines IsComponent 0 iiop.body.components components
  pub text_is : text
      ≡ address_lines number iiop ++ components ++ gap_lines (codes "  ") gaps ++ behind_line (codes "  ") iiop.behind

-- any other profile: its tag and all of its octets
pub record IsOtherText (number : ℕ) (tag : ℕ) (octets : List ℕ) (text : List ℕ) : Type 0 where
  pub tag_text : List ℕ
  pub tag_is : IsTag tag tag_text
  pub text_is : text
      ≡ codes "profile " ++ decimal number ++ codes " tag " ++ tag_text ++ codes "\n  octets " ++ digits octets
      ++ codes "\n"

abbrev pub IsRowText : ℕ → ℕ × List ℕ → Row → List ℕ → Type 0
IsRowText number profile (OfIiop iiop) text = IsIiopText number profile iiop text
IsRowText number profile (OfOther tag octets) text = IsOtherText number tag octets text

-- a profile by what it says
pub record IsProfileText (number : ℕ) (profile : ℕ × List ℕ) (text : List ℕ) : Type 0 where
  pub row : Row
  pub row_is : IsRow profile row
  pub told : IsRowText number profile row text

-- ---- references

-- The lines of the octets of a reference: each octet is told, or a zero in a gap.
pub record IsTold (octets : List ℕ) (reference : Reference) (lines : List ℕ) : Type 0 where
  pub manner : Manner
  pub so : EncapsulatesSo 13 (reference_tree reference) manner octets
  pub profiles : List ℕ
  pub profiles_are : AreLines IsProfileText 0 reference.profiles profiles
  pub lines_are : lines
      ≡ codes "type " ++ shown reference.type_id ++ codes "\norder " ++ order_word manner.order ++ codes "\n"
      ++ profiles ++ gap_lines [] manner.gaps ++ behind_line [] manner.behind
