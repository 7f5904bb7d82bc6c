use Rattle.std.proofs.Common.{sym, ◌∙◌}
use Rattle.reference_listing.specs.Listings.{body_of}
use Rattle.giop_types.proofs.Found.{no_tape, none_then, some_then}
use Rattle.reference_listing.proofs.Fronts.{bools_differ, bools_same, front_found, nothing_held, same_version, some_body}
use Rattle.reference_listing.proofs.body.front_body.Goals.{then-body-ne1-via-then-body-ne1, then-body-ne1-via-else-body-ne1+then-is_later-later}
use Rattle.reference_listing.proofs.body.front_body.Goals as goal

pub returns-in-None-clause-refused : goal.returns-in-None-clause-refused
returns-in-None-clause-refused c =
    nothing_held c.args.octets.now c.args.order c.args.later c.node_of.result c.node_of.ensures.node
    (none_then c.in_ok-read.field-0 _ c.in-None.is c.in_ok-read.ensures.none)

pub returns-in_default : goal.returns-in_default
returns-in_default c = record {
  found = tt;
  within = tt;
  refused = λ body behind f. some_body c.args.octets.now c.args.order c.args.later c.node_of.result
      c.in-Some.read.0.items
      c.as_slice.result.now c.in-Some.read.1 c.node_of.ensures.node c.as_slice.ensures.value
      (some_then c.in_ok-read.field-0 c.in-Some.read _ c.in-Some.is c.in_ok-read.ensures.found)
      (no_tape c.in-Err.fault _ c.in_default.not-NoMemory c.in-Err.ensures.refused);
}

pub returns-then-body-ne1-clause-refused : goal.returns-then-body-ne1-clause-refused
returns-then-body-ne1-clause-refused c = λ body behind f.
    let v = same_version c.args.octets.now c.args.order c.args.later c.node_of.result c.in-Some.read.0.items
    c.as_slice.result.now c.in-Some.read.1 (body_of c.in-Ok.body) c.node_of.ensures.node c.as_slice.ensures.value
    (some_then c.in_ok-read.field-0 c.in-Some.read _ c.in-Some.is c.in_ok-read.ensures.found) c.in-Ok.ensures.found body
    behind f in
    elim c.then-body-ne1.branch [
      | then-body-ne1-via-then-body-ne1 w ↦ w.if-body-ne1.true v.0
      | then-body-ne1-via-else-body-ne1+then-is_later-later w ↦ bools_differ w.is_later.result c.args.later
          w.if-is_later-later.true (w.is_later.ensures ∙ v.1)
    ]

pub returns-clause-found : goal.returns-clause-found
returns-clause-found c =
    front_found c.args.octets.now c.args.order c.args.later c.node_of.result c.in-Some.read.0.items
    c.as_slice.result.now
    c.in-Some.read.1 (body_of c.in-Ok.body) c.node_of.ensures.node c.as_slice.ensures.value
    (some_then c.in_ok-read.field-0 c.in-Some.read _ c.in-Some.is c.in_ok-read.ensures.found)
    c.in-Ok.ensures.found c.if-body-ne1.false
    (sym c.is_later.ensures ∙ bools_same c.is_later.result c.args.later c.if-is_later-later.false)
