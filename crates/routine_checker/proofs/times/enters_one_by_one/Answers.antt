use Rattle.std.proofs.Common.{◌≡◌, ◌+◌, ◌-◌, ◌<◌, ◌&&◌, sym, ap, ◌∙◌, arith}
use Rattle.routine_checker.specs.Sets.{left}
use Rattle.routine_checker.specs.Steps.{enters_times}
use Rattle.routine_checker.proofs.TimesLaws.{enters_next, enters_none}
use Rattle.routine_checker.proofs.times.enters_one_by_one.Goals as goal

pub returns-then-not-is_within : goal.returns-then-not-is_within
returns-then-not-is_within c =
    let n = c.args.n in
    let time = c.loop-time.time in
    let exits = c.args.exits.now in
    let some : 0 < n - time = omega (arith, c.loop-time-test.true) in
    sym (enters_next (n - time) c.args.entry exits c.loop-time.starts some
    ∙ ap (λ b. b && enters_times (n - time - 1) c.args.entry exits (left c.loop-time.starts exits))
    (sym c.is_within.ensures ∙ c.if-not-is_within.true)) ∙ c.loop-time.invariant

pub loop-time-preserved : goal.loop-time-preserved
loop-time-preserved c =
    let n = c.args.n in
    let time = c.loop-time.time in
    let exits = c.args.exits.now in
    let some : 0 < n - time = omega (arith, c.loop-time-test.true) in
    let fewer : n - (time + 1) ≡ n - time - 1 = omega arith in
    ap (λ k. enters_times k c.args.entry exits c.left-starts.result) fewer
    ∙ ap (enters_times (n - time - 1) c.args.entry exits) c.left-starts.ensures
    ∙ sym (enters_next (n - time) c.args.entry exits c.loop-time.starts some
    ∙ ap (λ b. b && enters_times (n - time - 1) c.args.entry exits (left c.loop-time.starts exits))
    (sym c.is_within.ensures ∙ c.if-not-is_within.false)) ∙ c.loop-time.invariant

pub returns : goal.returns
returns c =
    let none : c.args.n - c.loop-time.time ≡ 0 = omega (arith, c.loop-time-test.false) in
    sym (enters_none c.args.entry c.args.exits.now c.loop-time.starts)
    ∙ sym (ap (λ k. enters_times k c.args.entry c.args.exits.now c.loop-time.starts) none) ∙ c.loop-time.invariant
