use Rattle.std.proofs.Common.{◌≡◌, ℕ, suc, ◌+◌, ◌-◌, ◌<◌, ◌≤◌, List, sym, ap, ◌∙◌, arith}
use Rattle.type_graph.specs.declared.width.Width.{Width}
use Rattle.type_graph.specs.declared.width.Width.TheVariants.{One}
use Rattle.type_graph.specs.declared.node.Node.{Node}
use Rattle.type_graph.specs.Value.{node_at}
use Rattle.type_graph.specs.Walks.{lead_by, lead_within}
use Rattle.type_graph.specs.inner.Shapes.{lead_as}
use Rattle.type_graph.proofs.shape.lead_from.Goals as goal

-- a step down takes one of the levels that are left
step_down : (graph : List Node) (number counter : ℕ) → counter < 64
    → lead_within (64 - counter) graph number ≡ lead_by (lead_within (64 - (counter + 1)) graph) graph
    (node_at graph number)
unfolding lead_within
step_down graph number counter lt =
    let e : 64 - counter ≡ suc (64 - (counter + 1)) = omega arith in
    ap (λ (levels : ℕ). lead_within levels graph number) e

-- no level is left
no_level : (graph : List Node) (number counter : ℕ) → 64 ≤ counter → lead_within (64 - counter) graph number ≡ One
unfolding lead_within
no_level graph number counter le =
    let e : 64 - counter ≡ 0 = omega arith in
    ap (λ (levels : ℕ). lead_within levels graph number) e

pub returns-in-By : goal.returns-in-By
returns-in-By c =
    let lead : ℕ → Width = lead_within (64 - (c.loop.counter + 1)) c.args.nodes.now in
    ap (lead_as lead) (sym c.in-By.is) ∙ c.lead_step_at.ensures lead
    ∙ sym (step_down c.args.nodes.now c.loop.at c.loop.counter (omega arith)) ∙ c.loop.invariant

pub loop-preserved : goal.loop-preserved
loop-preserved c =
    let lead : ℕ → Width = lead_within (64 - (c.loop.counter + 1)) c.args.nodes.now in
    ap (lead_as lead) (sym c.in-As.is) ∙ c.lead_step_at.ensures lead
    ∙ sym (step_down c.args.nodes.now c.loop.at c.loop.counter (omega arith)) ∙ c.loop.invariant

pub returns : goal.returns
returns c = sym (no_level c.args.nodes.now c.loop.at c.loop.counter (omega arith)) ∙ c.loop.invariant
