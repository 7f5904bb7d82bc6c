use Rattle.std.proofs.Common.{List, ℕ, subst, sym, ◌∙◌}
use Rattle.giop_types.specs.GiopNodes.{giop_nodes}
use Rattle.type_graph.specs.Words.{reading}
use Rattle.type_graph.specs.Encoding.{Means}
use Rattle.reference_texts.specs.inner.Gaps.{AreGaps}
use Rattle.reference_texts.proofs.Encapsulated.{none_read}
use Rattle.reference_texts.proofs.Faults.{run_refused}
use Rattle.reference_texts.proofs.Gaps.{manner_found}
use Rattle.reference_texts.proofs.manner.manner_of.Goals as goal

pub returns-in-Err-clause-refused : goal.returns-in-Err-clause-refused
returns-in-Err-clause-refused c =
    run_refused c.in-Err.fault c.from.result _ _ c.from.ensures
    (none_read c.args.octets.now c.in-Some.inside.now c.in-Some.order c.args.node c.in-Some.ensures.found)
    c.in-Err.ensures.refused

pub returns-clause-found : goal.returns-clause-found
returns-clause-found c =
    let order = c.in-Some.order in
    let node = c.args.node in
    let tape = c.in-Ok.read.0.items in
    let front = c.split_at.result.0.now in
    manner_found c.args.octets.now c.in-Some.inside.now order node tape front c.in_ok-behind.behind.items c.in-Ok.read.1
    c.in_ok-gaps.gaps.items c.in-Some.ensures.found c.split_at.ensures.front
    (c.in_ok-behind.ensures.items ∙ c.split_at.ensures.back)
    (subst (λ (l : List ℕ). Means giop_nodes (reading order) 64 node 1 tape l) (sym c.split_at.ensures.front)
    c.in-Ok.ensures.found)
    (subst (λ (t : List ℕ). AreGaps order node t front c.in_ok-gaps.gaps.items) c.as_slice.ensures.value
    c.in_ok-gaps.ensures)
