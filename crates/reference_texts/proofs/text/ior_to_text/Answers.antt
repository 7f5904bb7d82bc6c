use Rattle.reference_texts.proofs.text.ior_to_text.Goals as goal
use Rattle.type_graph.proofs.Refusals.{only_if_weaker}
use Rattle.reference_texts.specs.Refusal.{wants_memory}

pub returns-in-Err-clause-refused : goal.returns-in-Err-clause-refused
returns-in-Err-clause-refused c =
    only_if_weaker (wants_memory c.in-Err.fault) _ _ (λ none text is. none is.octets is.written)
    c.in-Err.ensures.refused
