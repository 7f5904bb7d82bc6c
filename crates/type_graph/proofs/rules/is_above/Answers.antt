use Rattle.std.proofs.Common.{◌≡◌, ◌<◌, length, true, false, slice_index_or, take_all, refl, sym, ◌∙◌, arith}
use Rattle.std.proofs.lemmas.List.Elements.{All-more, All-same}
use Rattle.type_graph.specs.GraphRules.{held_by}
use Rattle.type_graph.proofs.LevelLaws.{part_known, part_of_all}
use Rattle.type_graph.proofs.rules.is_above.Goals as goal

pub loop-place-preserved : goal.loop-place-preserved
loop-place-preserved c =
    let held = held_by c.args.node.now in
    let lt : c.loop-place.place < length held = omega arith in
    All-more (λ number. slice_index_or c.args.table.now number false ≡ true) held c.loop-place.place 0 lt
    c.loop-place.invariant
    (part_known (λ number. slice_index_or c.args.table.now number false ≡ true) held c.loop-place.place c.held_at.result
    c.held_at.ensures lt (c.is_none_or_in.ensures.0 c.if-not-is_none_or_in.false))

pub returns : goal.returns
returns c = (
  λ h. All-same (λ number. slice_index_or c.args.table.now number false ≡ true) _ _
      (sym (take_all c.loop-place.place (held_by c.args.node.now) (omega arith))) c.loop-place.invariant,
  λ h. refl,
)

pub returns-then-not-is_none_or_in : goal.returns-then-not-is_none_or_in
returns-then-not-is_none_or_in c = (
  λ h. let bad : true ≡ false = sym h in absurd cc,
  λ h.
      let held = held_by c.args.node.now in
      let lt : c.loop-place.place < length held = omega arith in
      let is_true = c.is_none_or_in.ensures.1
      (part_of_all (λ number. slice_index_or c.args.table.now number false ≡ true) held c.loop-place.place
      c.held_at.result c.held_at.ensures lt h) in
      let bad : true ≡ false = sym is_true ∙ c.if-not-is_none_or_in.true in
      absurd cc,
)
