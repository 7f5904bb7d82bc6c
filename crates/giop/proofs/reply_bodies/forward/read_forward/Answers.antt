use Rattle.type_graph.specs.Value.{Tree}
use Rattle.reference_texts.specs.References.{reference_of, reference_tree}
use Rattle.giop.specs.Bodies.{BeginsWith}
use Rattle.giop.specs.inner.ReplyBodiesTapes.{HasTape}
use Rattle.giop_types.proofs.Found.{no_tape, none_then, some_then}
use Rattle.giop.proofs.Forwards.{reference_found, reference_there}
use Rattle.giop.proofs.reply_bodies.forward.read_forward.Goals as goal

pub returns-in-None-clause-refused : goal.returns-in-None-clause-refused
returns-in-None-clause-refused c = λ reference h.
    none_then c.in_ok-tape.field-0 ((value : Tree) → BeginsWith c.args.order 13 c.args.place value c.args.octets.now
    → ⊥)
    c.in-None.is c.in_ok-tape.ensures.refused (reference_tree reference) h

pub returns-in-Ok-clause-found : goal.returns-in-Ok-clause-found
returns-in-Ok-clause-found c =
    reference_found c.args.order c.args.place c.args.octets.now c.in-Some.tape.items c.as_slice.result.now
    c.in-Ok.ensures.found.0 (reference_of c.in-Ok.ior) c.as_slice.ensures.value
    (some_then c.in_ok-tape.field-0 c.in-Some.tape
    (λ tape. HasTape c.args.order 13 c.args.place c.args.octets.now tape.items)
    c.in-Some.is c.in_ok-tape.ensures.found) c.in-Ok.ensures.found.1

pub returns : goal.returns
returns c = record {
  found = tt;
  refused = λ reference h. reference_there c.args.order c.args.place c.args.octets.now c.in-Some.tape.items
      c.as_slice.result.now c.as_slice.ensures.value
      (some_then c.in_ok-tape.field-0 c.in-Some.tape
      (λ tape. HasTape c.args.order 13 c.args.place c.args.octets.now tape.items)
      c.in-Some.is c.in_ok-tape.ensures.found)
      (no_tape c.in-Err.fault _ c.in_default.not-NoMemory c.in-Err.ensures.refused);
}
