-- The gaps of profiles.
use Rattle.std.specs.Prelude.{ℕ, List}
use Rattle.reference_texts.specs.Encapsulations.{EncapsulatesSo}
use Rattle.reference_texts.specs.Profiles.{body_node, body_tree}
use Rattle.reference_listing.specs.Listings.{Iiop}

-- the octets are those of the profile with these octets in its gaps
abbrev pub AreGapsOf : List ℕ → Iiop → List (ℕ × ℕ) → Type 0
AreGapsOf octets iiop gaps =
    EncapsulatesSo (body_node iiop.body.minor) (body_tree iiop.body iiop.body.minor)
    (record { order = iiop.order; gaps = gaps; behind = iiop.behind }) octets
