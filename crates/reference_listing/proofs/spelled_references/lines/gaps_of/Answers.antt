use Rattle.std.proofs.Common.{ℕ, subst}
use Rattle.reference_texts.specs.Encapsulations.{Encapsulates, IsSo}
use Rattle.reference_texts.specs.Manners.{manner_of}
use Rattle.reference_texts.specs.Profiles.{body_tree}
use Rattle.reference_listing.specs.Listings.{iiop_of}
use Rattle.reference_listing.proofs.Manners.{listed_read, listed_so}
use Rattle.reference_listing.proofs.spelled_references.lines.gaps_of.Goals as goal

pub unreachable-requires : goal.unreachable-requires
unreachable-requires c =
    let none = rw c.in-Err-BadIor.field-0-is at c.in-Err-BadIor.ensures.refused in
    let iiop = iiop_of c.args.profile.now in
    let value = body_tree iiop.body iiop.body.minor in
    none value (rw c.node_of.ensures.node (listed_read c.args.tag c.args.octets.now iiop c.requires))

pub returns-in-Ok : goal.returns-in-Ok
returns-in-Ok c =
    let manner = manner_of c.in-Ok.field-0 in
    listed_so c.args.tag c.args.octets.now (iiop_of c.args.profile.now) manner c.requires
    (subst (λ (n : ℕ). IsSo n manner c.args.octets.now) c.node_of.ensures.node c.in-Ok.ensures.found)
