use Rattle.std.proofs.Common.{List, ℕ, sym, subst}
use Rattle.reference_texts.specs.Texts.{SpellsOctets}
use Rattle.reference_texts.specs.Refusal.{wants_memory}
use Rattle.reference_texts.proofs.Faults.{err_weaker}
use Rattle.reference_texts.proofs.TextLaws.{spelled_there}
use Rattle.reference_texts.proofs.text.ior_from_text.Goals as goal
use Rattle.type_graph.proofs.Refusals.{only_if_weaker}

pub returns-in-Ok-clause-refused : goal.returns-in-Ok-clause-refused
returns-in-Ok-clause-refused c =
    let spelled = subst (λ (o : List ℕ). SpellsOctets c.args.text.now o) (sym c.as_slice.ensures.value)
    c.in-Ok.ensures.found in
    err_weaker c.read_reference.result _ _
    (λ none reference s. none reference (spelled_there c.args.text.now c.as_slice.result.now reference spelled s))
    c.read_reference.ensures.refused

pub returns-in-Err-clause-refused : goal.returns-in-Err-clause-refused
returns-in-Err-clause-refused c =
    only_if_weaker (wants_memory c.in-Err.fault) _ _ (λ none reference s. none s.octets s.spelled_so)
    c.in-Err.ensures.refused
