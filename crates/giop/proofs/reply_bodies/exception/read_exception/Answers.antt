use Rattle.type_graph.specs.Value.{Tree}
use Rattle.giop.specs.Bodies.{BeginsWith, exception_tree}
use Rattle.giop.specs.inner.ReplyBodiesTapes.{HasTape}
use Rattle.giop_types.proofs.Found.{none_then, some_then}
use Rattle.giop.proofs.Exceptions.{exception_found, exception_there}
use Rattle.giop.proofs.reply_bodies.exception.read_exception.Goals as goal

pub returns-in-None-clause-refused : goal.returns-in-None-clause-refused
returns-in-None-clause-refused c = λ exception h.
    none_then c.in_ok-tape.field-0 ((value : Tree) → BeginsWith c.args.order 23 c.args.place value c.args.octets.now
    → ⊥)
    c.in-None.is c.in_ok-tape.ensures.refused (exception_tree exception) h

pub returns-in_default-clause-refused : goal.returns-in_default-clause-refused
returns-in_default-clause-refused c = λ exception h.
    exception_there c.args.order c.args.place c.args.octets.now c.in-Some.tape.items c.as_slice.result.now
    c.as_slice.ensures.value
    (some_then c.in_ok-tape.field-0 c.in-Some.tape
    (λ tape. HasTape c.args.order 23 c.args.place c.args.octets.now tape.items)
    c.in-Some.is c.in_ok-tape.ensures.found) c.in_default.ensures.refused

pub returns-clause-found : goal.returns-clause-found
returns-clause-found c =
    let parts = c.in-Some-split.parts in
    exception_found c.args.order c.args.place c.args.octets.now c.in-Some.tape.items c.as_slice.result.now parts.id.now
    parts.minor parts.completion c.in_ok-from_slice.field-0.items c.as_slice.ensures.value
    (some_then c.in_ok-tape.field-0 c.in-Some.tape
    (λ tape. HasTape c.args.order 23 c.args.place c.args.octets.now tape.items)
    c.in-Some.is c.in_ok-tape.ensures.found) c.in-Some-split.ensures.found c.in_ok-from_slice.ensures.items
