use Rattle.std.proofs.Common.{◌≡◌, ◌+◌, ◌-◌, ◌<◌, sym, ap, ◌∙◌, arith}
use Rattle.routine_checker.specs.Steps.{times_left}
use Rattle.routine_checker.proofs.TimesLaws.{left_next, left_none}
use Rattle.routine_checker.proofs.times.left_one_by_one.Goals as goal

pub loop-time-preserved : goal.loop-time-preserved
loop-time-preserved c =
    let n = c.args.n in
    let time = c.loop-time.time in
    let exits = c.args.exits.now in
    let some : 0 < n - time = omega (arith, c.loop-time-test.true) in
    let fewer : n - (time + 1) ≡ n - time - 1 = omega arith in
    ap (λ k. times_left k exits c.left-ends.result) fewer ∙ ap (times_left (n - time - 1) exits) c.left-ends.ensures
    ∙ sym (left_next (n - time) exits c.loop-time.ends some) ∙ c.loop-time.invariant

pub returns : goal.returns
returns c =
    let none : c.args.n - c.loop-time.time ≡ 0 = omega (arith, c.loop-time-test.false) in
    sym (left_none c.args.exits.now c.loop-time.ends)
    ∙ sym (ap (λ k. times_left k c.args.exits.now c.loop-time.ends) none) ∙ c.loop-time.invariant
