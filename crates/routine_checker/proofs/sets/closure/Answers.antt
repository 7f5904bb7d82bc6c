use Rattle.std.proofs.Common.{◌≡◌, ◌+◌, ◌-◌, ◌<◌, ◌∙◌, sym, ap, bit_or, arith}
use Rattle.routine_checker.specs.Sets.{closure}
use Rattle.routine_checker.proofs.PlaceLaws.{closure_next, closure_still}
use Rattle.routine_checker.proofs.sets.closure.Goals as goal

pub loop-round-preserved : goal.loop-round-preserved
loop-round-preserved c =
    let exits = c.args.exits.now in
    let starts = c.loop-round.starts in
    let round = c.loop-round.round in
    let fewer : 8 - (round + 1) ≡ 8 - round - 1 = omega arith in
    let left_over : 0 < 8 - round = omega (arith, c.loop-round-test.true) in
    ap (λ n. closure n exits (bit_or starts c.left.result)) fewer
    ∙ ap (λ more. closure (8 - round - 1) exits (bit_or starts more)) c.left.ensures
    ∙ sym (closure_next (8 - round) exits starts left_over) ∙ c.loop-round.invariant

pub returns-then-more-starts : goal.returns-then-more-starts
returns-then-more-starts c =
    let exits = c.args.exits.now in
    let starts = c.loop-round.starts in
    sym (closure_still (8 - c.loop-round.round) exits starts
    (ap (bit_or starts) (sym c.left.ensures) ∙ c.if-more-starts.true)) ∙ c.loop-round.invariant

pub returns : goal.returns
unfolding closure
returns c =
    let none : 8 - c.loop-round.round ≡ 0 = omega (arith, c.loop-round-test.false) in
    sym (ap (λ n. closure n c.args.exits.now c.loop-round.starts) none) ∙ c.loop-round.invariant
