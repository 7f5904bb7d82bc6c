use Rattle.std.proofs.Common.{◌≡◌, ◌∙◌, Some, ap, sym, subst, slice_get, slice_set, arith}
use Rattle.iiop_broker.specs.Kept.{stream_of, streams_of}
use Rattle.iiop_broker.specs.Listed.{IsPlace}
use Rattle.iiop_broker.proofs.Places.{item_at, put_place, streams_below, streams_set, streams_was}
use Rattle.iiop_broker.proofs.connections.exchange.Goals as goal

pub index_mut-requires : goal.index_mut-requires
index_mut-requires c =
    let below = streams_below c.args.c c.args.place c.args.connections.now.items c.requires in
    omega (arith, below, c.args.connections.now.ok)

pub returns-clause-was : goal.returns-clause-was
returns-clause-was c =
    let old = c.args.connections.now.items in
    let item = c.index_mut.result.now in
    let there : slice_get old c.args.place ≡ Some item =
    item_at old c.args.place item (streams_below c.args.c c.args.place old c.requires)
    ∙ ap Some (sym c.index_mut.ensures.value) in
    streams_was c.args.c c.args.place old item c.requires there
    ∙ ap (λ one. Some (stream_of one.1)) (sym c.replace-was.ensures.value)

pub returns-clause-now : goal.returns-clause-now
returns-clause-now c =
    let old = c.args.connections.now.items in
    streams_set c.args.c c.args.place old (slice_set old c.args.place c.replace-was.new.dest) c.args.kept c.requires
    (ap (slice_set old c.args.place) c.replace-was.ensures.after)

pub returns-clause-place : goal.returns-clause-place
returns-clause-place c =
    subst (IsPlace 0 c.args.c c.args.place) (sym (returns-clause-now c))
    (put_place c.args.c c.args.place (streams_of c.args.connections.now.items) (stream_of c.args.kept) c.requires)
