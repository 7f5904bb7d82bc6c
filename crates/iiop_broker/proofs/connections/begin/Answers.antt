use Rattle.std.proofs.Common.{refl, subst}
use Rattle.iiop_broker.specs.Kept.{streams_of}
use Rattle.iiop_broker.specs.Listed.{IsPlace}
use Rattle.iiop_broker.proofs.Places.{is_there}
use Rattle.iiop_broker.proofs.connections.begin.Goals as goal

pub returns-in-Some-clause-refused : goal.returns-in-Some-clause-refused
returns-in-Some-clause-refused c = (
  is_there c.args.c c.in-Some.field-0 (streams_of c.args.connections.now.items)
      (subst (λ xs. IsPlace 0 c.args.c c.in-Some.field-0 (streams_of xs)) c.as_slice.ensures.value
      c.in-Some.ensures.found),
  refl,
)
