-- What is listed of a reference (ISO/IEC 19500-2, IOP: IOR; IIOP: IIOP IOR profiles): what each of its profiles says.
use Rattle.std.specs.Prelude.{◌≡◌, ℕ, List, [], ◌∷◌, ◌++◌}
use Rattle.type_graph.specs.declared.width.Order.{Order}
use Rattle.type_graph.specs.Words.{reading}
use Rattle.giop_types.specs.Fields.{Holds}
use Rattle.reference_texts.specs.Encapsulations.{flag_of}
use Rattle.reference_texts.specs.Profiles.{Body, body_node, body_tree}
use Rattle.reference_texts.specs.References.{Reference, owned_pairs}
use Rattle.reference_listing.specs.declared.listing.IiopBody.{IiopBody}
use Rattle.reference_listing.specs.declared.listing.IiopProfile.{IiopProfile}
use Rattle.reference_listing.specs.declared.listing.ListedProfile.{ListedProfile}
use Rattle.reference_listing.specs.declared.listing.ListedProfile.TheVariants as listed
use Rattle.reference_listing.specs.declared.listing.Listing.{Listing}

-- a profile of IIOP: the byte order of its encapsulation, its body, and the octets behind the body
pub record Iiop : Type 0 where
  pub order : Order
  pub body : Body
  pub behind : List ℕ

-- The profile is this one of IIOP, version 1. Each of its octets is the flag of the order, one of the body, or behind.
pub record IsIiop (profile : ℕ × List ℕ) (iiop : Iiop) : Type 0 where
  pub tag : profile.0 ≡ 0
  pub major : iiop.body.major ≡ 1
  -- version 1.0 has no components
  pub bare : iiop.body.minor ≡ 0 → iiop.body.components ≡ []
  pub front : List ℕ
  pub octets_are : profile.1 ≡ flag_of iiop.order ∷ front ++ iiop.behind
  pub holds : Holds (reading iiop.order) (body_node iiop.body.minor) 1 (body_tree iiop.body iiop.body.minor) front

-- a row: a profile of IIOP; or any other, by its tag and its octets
pub data Row : Type 0 where
  OfIiop : Iiop → Row
  OfOther : ℕ → List ℕ → Row

-- A profile that can be read as one of IIOP is listed so.
abbrev pub IsRow : ℕ × List ℕ → Row → Type 0
IsRow profile (OfIiop iiop) = IsIiop profile iiop
IsRow profile (OfOther tag octets) = (profile ≡ (tag, octets)) × ((iiop : Iiop) → IsIiop profile iiop → ⊥)

-- a row for each profile, in order
abbrev pub AreRows : List (ℕ × List ℕ) → List Row → Type 0
AreRows [] [] = Unit {0}
AreRows [] (row ∷ rows) = ⊥
AreRows (profile ∷ profiles) [] = ⊥
AreRows (profile ∷ profiles) (row ∷ rows) = IsRow profile row × AreRows profiles rows

-- the id, and the rows
pub record Lists (reference : Reference) (type_id : List ℕ) (rows : List Row) : Type 0 where
  pub type_id_is : type_id ≡ reference.type_id
  pub rows_are : AreRows reference.profiles rows

-- ---- what a listing says

abbrev pub body_of : IiopBody → Body
body_of body = record {
  major = body.major;
  minor = body.minor;
  host = body.host.items;
  port = body.port;
  key = body.key.items;
  components = owned_pairs body.components.items;
}

abbrev pub iiop_of : IiopProfile → Iiop
iiop_of profile = record { order = profile.order; body = body_of profile.body; behind = profile.behind.items }

abbrev pub row_of : ListedProfile → Row
row_of (listed.Iiop profile) = OfIiop (iiop_of profile)
row_of (listed.Other tag octets) = OfOther tag octets.items

abbrev pub rows_of : List ListedProfile → List Row
rows_of [] = []
rows_of (profile ∷ profiles) = row_of profile ∷ rows_of profiles

abbrev pub IsListing : Reference → Listing → Type 0
IsListing reference listing = Lists reference listing.type_id.items (rows_of listing.profiles.items)
