use Rattle.reference_texts.specs.References.{reference_of}
use Rattle.reference_texts.proofs.Faults.{reading_refused}
use Rattle.reference_texts.proofs.ReferenceTapes.{reference_read, reference_there}
use Rattle.reference_texts.proofs.text.read_reference.Goals as goal
use Rattle.type_graph.proofs.Refusals.{only_if_weaker}
use Rattle.reference_texts.specs.Refusal.{wants_memory}

pub returns-in-Err-clause-refused : goal.returns-in-Err-clause-refused
returns-in-Err-clause-refused c =
    only_if_weaker (wants_memory c.in-Err.fault) _ _ (λ none reference. none _) c.in-Err.ensures.refused

pub returns-in-Ok-reference_in-clause-found : goal.returns-in-Ok-reference_in-clause-found
returns-in-Ok-reference_in-clause-found c =
    reference_read c.args.octets.now c.in-Ok.tape.items c.as_slice.result.now c.in-Ok-reference_in.ensures.found.0
    (reference_of c.in-Ok-reference_in.ior) c.as_slice.ensures.value c.in-Ok.ensures.found
    c.in-Ok-reference_in.ensures.found.1

pub returns-clause-refused : goal.returns-clause-refused
returns-clause-refused c =
    reading_refused c.in-Err-reference_in.fault c.from.result _ _ c.from.ensures
    (λ none. absurd (reference_there c.args.octets.now c.in-Ok.tape.items c.as_slice.result.now c.as_slice.ensures.value
    c.in-Ok.ensures.found none)) c.in-Err-reference_in.ensures.refused
