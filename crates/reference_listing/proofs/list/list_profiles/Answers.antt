use Rattle.std.proofs.Common.{List, ℕ, subst}
use Rattle.reference_listing.specs.Listings.{IsRow, row_of}
use Rattle.reference_listing.proofs.Rows.{rows_more}
use Rattle.reference_listing.proofs.list.list_profiles.Goals as goal

pub loop-tag-preserved : goal.loop-tag-preserved
loop-tag-preserved c =
    let one = c.loop-tag-item.result in
    rows_more c.args.profiles.now c.loop-tag.tag-index one c.loop-tag.listed.items c.push.new.self.items
    c.in_ok-profile.profile c.loop-tag-test.true c.loop-tag-item.is c.loop-tag.invariant
    (subst (λ (octets : List ℕ). IsRow (one.0, octets) (row_of c.in_ok-profile.profile)) c.as_slice.ensures.value
    c.in_ok-profile.ensures) c.in-Ok.ensures.items
