use Rattle.std.proofs.Common.{◌+◌, ◌≤◌, ℕ, ℤ, List, map, drop, length, bit_or, pos, sym, ap, ◌∙◌, arith}
use Rattle.std.proofs.lemmas.List.{drop_all}
use Rattle.std.specs.Int.Bits.{or_zero_r}
use Rattle.routine_checker.specs.Sets.{left}
use Rattle.routine_checker.specs.Steps.{left_by}
use Rattle.routine_checker.proofs.JudgeLaws.{left_from, left_arm}
use Rattle.routine_checker.proofs.judge.left_by.Goals as goal

pub loop-arm-init : goal.loop-arm-init
loop-arm-init c =
    ap (λ set. bit_or set (left_by c.args.program.now c.args.places (map (λ (arm : ℤ × ℕ). arm.1) c.args.arms.now)))
    c.left_otherwise-ends.ensures
    ∙ left_from c.args.program.now c.args.places c.args.arms.now c.args.otherwise

pub loop-arm-preserved : goal.loop-arm-preserved
loop-arm-preserved c =
    let program = c.args.program.now in
    let places = c.args.places in
    let arms = c.args.arms.now in
    let k = c.loop-arm.arm-index in
    let rest = left_by program places (map (λ (arm : ℤ × ℕ). arm.1) (drop (k + 1) arms)) in
    ap (λ set. bit_or (bit_or c.loop-arm.ends set) rest) (c.left-ends.ensures ∙ ap (left places) c.exits_at.ensures)
    ∙ left_arm program places c.loop-arm.ends arms k (pos 0, 0) c.loop-arm-test.true ∙ c.loop-arm.invariant

pub returns : goal.returns
returns c =
    let past : length c.args.arms.now ≤ c.loop-arm.arm-index = omega (arith, c.loop-arm-test.false) in
    sym (or_zero_r c.loop-arm.ends)
    ∙ sym (ap (λ (more : List (ℤ × ℕ)). bit_or c.loop-arm.ends
    (left_by c.args.program.now c.args.places (map (λ (arm : ℤ × ℕ). arm.1) more)))
    (drop_all c.loop-arm.arm-index c.args.arms.now past))
    ∙ c.loop-arm.invariant
