use Rattle.std.proofs.Common.{◌≡◌, ◌+◌, ◌-◌, ◌<◌, None, Some, sym, ap, subst, ◌∙◌, arith}
use Rattle.std.proofs.Common.{Option, ℕ, Bool}
use Rattle.type_graph.specs.Value.{node_at}
use Rattle.routine_checker.specs.inner.Kinds.{is_of, part_holds}
use Rattle.routine_checker.specs.Taking.{only_part, is_one}
use Rattle.routine_checker.proofs.OneLaws.{one_here, one_below}
use Rattle.routine_checker.proofs.pieces.is_one.Goals as goal

pub returns-then-is_of_at : goal.returns-then-is_of_at
returns-then-is_of_at c =
    let left_over : 0 < 64 - c.loop-level.level = omega (arith, c.loop-level-test.true) in
    sym (one_here (64 - c.loop-level.level) (is_of c.args.kind) c.args.nodes.now c.loop-level.at left_over
    (sym c.is_of_at.ensures ∙ c.if-is_of_at.true)) ∙ c.loop-level.invariant

pub returns-in-None : goal.returns-in-None
returns-in-None c =
    let left_over : 0 < 64 - c.loop-level.level = omega (arith, c.loop-level-test.true) in
    let only = subst (λ (part : Option ℕ). (test : ℕ → Bool)
    → only_part test (node_at c.args.nodes.now c.loop-level.at) ≡ part_holds test part) c.in-None.is
    c.only_part_at.ensures in
    sym (one_below (64 - c.loop-level.level) (is_of c.args.kind) c.args.nodes.now c.loop-level.at None left_over
    (sym c.is_of_at.ensures ∙ c.if-is_of_at.false) only) ∙ c.loop-level.invariant

pub loop-level-preserved : goal.loop-level-preserved
loop-level-preserved c =
    let left_over : 0 < 64 - c.loop-level.level = omega (arith, c.loop-level-test.true) in
    let fewer : 64 - (c.loop-level.level + 1) ≡ 64 - c.loop-level.level - 1 = omega arith in
    let part = c.in-Some.part in
    let only = subst (λ (part : Option ℕ). (test : ℕ → Bool)
    → only_part test (node_at c.args.nodes.now c.loop-level.at) ≡ part_holds test part) c.in-Some.is
    c.only_part_at.ensures in
    ap (λ n. is_one n (is_of c.args.kind) c.args.nodes.now part) fewer
    ∙ sym (one_below (64 - c.loop-level.level) (is_of c.args.kind) c.args.nodes.now c.loop-level.at (Some part)
    left_over (sym c.is_of_at.ensures ∙ c.if-is_of_at.false) only) ∙ c.loop-level.invariant

pub returns : goal.returns
unfolding is_one
returns c =
    let none : 64 - c.loop-level.level ≡ 0 = omega (arith, c.loop-level-test.false) in
    sym (ap (λ n. is_one n (is_of c.args.kind) c.args.nodes.now c.loop-level.at) none) ∙ c.loop-level.invariant
