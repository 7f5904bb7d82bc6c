use Rattle.std.proofs.Common.{List, ℕ, true}
use Rattle.reference_texts.specs.Profiles.{Body}
use Rattle.reference_listing.specs.inner.Bodies.{IsFront}
use Rattle.giop_types.proofs.Found.{none_then}
use Rattle.reference_listing.proofs.Fronts.{none_lately}
use Rattle.reference_listing.proofs.body.some_body.Goals as goal

pub returns-in-None-clause-refused : goal.returns-in-None-clause-refused
returns-in-None-clause-refused c =
    none_lately c.args.octets.now c.args.order c.front_body-in-None.result
    (none_then c.in_ok-found.field-0
    ((body : Body) (behind : List ℕ) → IsFront c.args.octets.now c.args.order true body behind → ⊥) c.in-None.is
    c.in_ok-found.ensures.refused) c.front_body-in-None.ensures.refused
