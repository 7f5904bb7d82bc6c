use Rattle.std.proofs.Common.{List, ◌+◌, subst, sym}
use Rattle.giop_types.specs.declared.tapes.reading.Tagged.{Tagged}
use Rattle.giop_types.specs.TapeParts.{AreFront, pairs_of}
use Rattle.giop_types.proofs.PartLaws.{front_more, no_next}
use Rattle.giop_types.proofs.tapes.reading.split_each.Goals as goal

pub returns-in_default-clause-refused : goal.returns-in_default-clause-refused
returns-in_default-clause-refused c =
    no_next c.loop.counter c.args.count c.args.tape.now (pairs_of c.loop.all.items) c.loop.rest.now c.loop-test.true
    c.loop.invariant c.in_default.ensures.refused

pub loop-preserved : goal.loop-preserved
loop-preserved c =
    let more = front_more c.loop.counter c.args.tape.now c.loop.all.items c.in-Some.one c.loop.rest.now
    c.in-Some.more.now c.loop.invariant c.in-Some.ensures.found.0 c.in-Some.ensures.found.1 in
    subst (λ (all : List Tagged). AreFront (c.loop.counter + 1) c.args.tape.now (pairs_of all) c.in-Some.more.now)
    (sym c.in-Ok.ensures.items) more
