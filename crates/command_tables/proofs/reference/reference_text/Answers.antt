use Rattle.reference_texts.specs.References.{reference_of}
use Rattle.reference_texts.proofs.Faults.{err_weaker}
use Rattle.command_tables.proofs.References.{no_profile, text_there}
use Rattle.command_tables.proofs.reference.reference_text.Goals as goal
use Rattle.type_graph.proofs.Refusals.{only_if_weaker}
use Rattle.reference_texts.specs.Refusal.{wants_memory}

pub returns-in-Err-clause-refused : goal.returns-in-Err-clause-refused
returns-in-Err-clause-refused c =
    only_if_weaker (wants_memory c.in-Err.fault) _ _
    (no_profile c.args.host.now c.args.key.now c.args.id.now c.as_bytes.result.now c.as_bytes-2.result.now c.args.port
    c.as_bytes.ensures.value c.as_bytes-2.ensures.value) c.in-Err.ensures.refused

pub returns-clause-refused : goal.returns-clause-refused
returns-clause-refused c =
    err_weaker c.ior_to_text.result _ _
    (λ none text t. none text (text_there c.args.host.now c.args.key.now c.args.id.now c.as_bytes.result.now
    c.as_bytes-2.result.now c.as_bytes-3.result.now c.in-Ok.data.items c.args.port (reference_of c.in_ok-ior.ior)
    c.as_bytes.ensures.value c.as_bytes-2.ensures.value c.as_bytes-3.ensures.value c.in-Ok.ensures.written
    c.in_ok-ior.ensures text t)) c.ior_to_text.ensures.refused
