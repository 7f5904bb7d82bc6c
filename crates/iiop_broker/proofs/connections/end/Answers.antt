use Rattle.std.proofs.Common.{subst}
use Rattle.iiop_broker.specs.Kept.{streams_of}
use Rattle.iiop_broker.specs.Listed.{IsPlace}
use Rattle.iiop_broker.proofs.Places.{is_there}
use Rattle.iiop_broker.proofs.connections.end.Goals as goal

pub returns-in-Some-clause-left : goal.returns-in-Some-clause-left
returns-in-Some-clause-left c =
    let p = subst (λ xs. IsPlace 0 c.args.c c.in-Some.place (streams_of xs)) c.as_slice.ensures.value
    c.in-Some.ensures.found in
    record {
      there = is_there c.args.c c.in-Some.place (streams_of c.args.connections.now.items) p;
      now = c.remove_at.ensures c.args.c p;
    }
