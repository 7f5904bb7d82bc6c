use Rattle.std.proofs.Common.{List, ℕ}
use Rattle.reference_texts.specs.Profiles.{Body}
use Rattle.reference_listing.specs.inner.Bodies.{IsSomeFront}
use Rattle.giop_types.proofs.Found.{none_then}
use Rattle.reference_listing.proofs.Fronts.{no_profile}
use Rattle.reference_listing.proofs.body.iiop_profile.Goals as goal

pub returns-in-None-clause-refused : goal.returns-in-None-clause-refused
returns-in-None-clause-refused c =
    no_profile c.args.tag c.in-Some.order c.args.octets.now c.in-Some.inside.now c.in-Some.ensures.found
    (none_then c.in_ok-body.field-0
    ((body : Body) (behind : List ℕ) → IsSomeFront c.in-Some.inside.now c.in-Some.order body behind → ⊥) c.in-None.is
    c.in_ok-body.ensures.refused)
