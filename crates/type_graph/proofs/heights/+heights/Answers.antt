use Rattle.std.proofs.Common.{rules, ◌≡◌, ◌∙◌, ◌≤◌, ℕ, max, length, Some, slice_get, sym, ap, subst, arith}
use Rattle.type_graph.specs.Value.{node_at}
use Rattle.type_graph.specs.Walks.{height_of}
use Rattle.type_graph.specs.GraphRules.{held_by}
use Rattle.type_graph.proofs.HeightLaws.{height_bound}
use Rattle.type_graph.specs.Heights.{AreKnown}
use Rattle.type_graph.proofs.KnownHeights.{height_past, height_at, part_falls, height_more, none_within}
use Rattle.type_graph.proofs.heights.+heights.Goals.{height_above-in-Some, height_above-in_default}
use Rattle.type_graph.proofs.heights.+heights.Goals as goal

pub find_height-returns-in_default-get-clause-value : goal.find_height-returns-in_default-get-clause-value
find_height-returns-in_default-get-clause-value t c = λ known.
    let past : length c.args.graph.now ≤ c.args.number = search rules in
    height_past c.args.graph.now c.args.number past

pub find_height-height_above-height-requires : goal.find_height-height_above-height-requires
find_height-height_above-height-requires t c =
    let d = c.decreases in
    let is : c.in-Some-get.node.now ≡ node_at c.args.graph.now c.args.number = search rules in
    let above_parts = height_at c.args.graph.now c.nodes.ensures.rules c.args.number c.in-Some-get.node.now is in
    (omega (arith, d, above_parts), tt)

pub find_height-returns-clause-value : goal.find_height-returns-clause-value
find_height-returns-clause-value t c = λ known.
    let is : c.in-Some-get.node.now ≡ node_at c.args.graph.now c.args.number = search rules in
    c.height_above-height.ensures.value known
    ∙ height_at c.args.graph.now c.nodes.ensures.rules c.args.number c.in-Some-get.node.now is

pub find_height-returns-clause-keeps : goal.find_height-returns-clause-keeps
find_height-returns-clause-keeps t c = λ known.
    let is : c.in-Some-get.node.now ≡ node_at c.args.graph.now c.args.number = search rules in
    c.keep.ensures c.args.graph.now (c.height_above-height.ensures.keeps known)
    (c.height_above-height.ensures.value known
    ∙ height_at c.args.graph.now c.nodes.ensures.rules c.args.number c.in-Some-get.node.now is)

pub height_above-find_height-requires : goal.height_above-find_height-requires
height_above-find_height-requires t c =
    let d = c.decreases in
    let there : slice_get (held_by c.args.node.now) c.loop-place.place ≡ Some c.in-Some.part = search rules in
    let falls = part_falls (height_of c.args.graph.now) (held_by c.args.node.now) c.loop-place.place c.in-Some.part
    there in
    (omega (arith, d, falls), tt)

pub height_above-loop-place-preserved : goal.height_above-loop-place-preserved
height_above-loop-place-preserved t c = λ known.
    let graph = c.args.graph.now in
    let held = held_by c.args.node.now in
    let so_far = c.loop-place.invariant known in
    elim c.match-held_at.branch [
      | height_above-in-Some w ↦
          let there : slice_get held c.loop-place.place ≡ Some w.in-Some.part = sym c.held_at.ensures ∙ w.in-Some.is in
          let step = w.height-is ∙ w.max-height.ensures
          ∙ ap (λ (n : ℕ). max n c.loop-place.height) w.saturating_add.ensures in (
            subst (AreKnown graph) (sym w.known-is) (w.find_height.ensures.keeps so_far.0),
            height_more (height_of graph) held c.loop-place.place w.in-Some.part c.loop-place.height
                w.find_height.result c.match-held_at.height there (w.find_height.ensures.value so_far.0)
                (height_bound 64 graph w.in-Some.part) step so_far.1,
          )
      | height_above-in_default w ↦
          absurd (none_within held c.loop-place.place (search rules) (sym c.held_at.ensures ∙ w.in_default.is))
    ]
