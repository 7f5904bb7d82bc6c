use Rattle.reference_listing.specs.Listings.{Iiop, IsIiop, iiop_of}
use Rattle.giop_types.proofs.Found.{none_then, some_then}
use Rattle.giop.proofs.ProfileKeys.{has_key, no_key}
use Rattle.giop.proofs.reading.profile.profile_key.Goals as goal

pub returns-in-Some : goal.returns-in-Some
returns-in-Some c =
    has_key (c.args.tag, c.args.octets.now) (iiop_of c.in-Some.profile)
    (some_then c.in_ok-profile.field-0 c.in-Some.profile
    (λ profile. IsIiop (c.args.tag, c.args.octets.now) (iiop_of profile))
    c.in-Some.is c.in_ok-profile.ensures.found)

pub returns-in-None : goal.returns-in-None
returns-in-None c =
    no_key (c.args.tag, c.args.octets.now)
    (none_then c.in_ok-profile.field-0 ((iiop : Iiop) → IsIiop (c.args.tag, c.args.octets.now) iiop → ⊥) c.in-None.is
    c.in_ok-profile.ensures.refused)
