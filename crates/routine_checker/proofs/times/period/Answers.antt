use Rattle.std.proofs.Common.{ℕ, sym, ap, ◌∙◌, arith}
use Rattle.routine_checker.specs.Sets.{left}
use Rattle.routine_checker.proofs.TimesLaws.{left_last, left_none}
use Rattle.routine_checker.proofs.times.period.Goals as goal

pub loop-time-init : goal.loop-time-init
loop-time-init c = left_none c.args.exits.now c.args.places

pub loop-time-preserved : goal.loop-time-preserved
loop-time-preserved c =
    left_last c.loop-time.time c.args.exits.now c.args.places
    ∙ ap (λ (set : ℕ). left set c.args.exits.now) c.loop-time.invariant ∙ sym c.left-ends.ensures

pub returns-then-ends-places : goal.returns-then-ends-places
returns-then-ends-places c = (
  omega arith,
  omega (arith, c.loop-time-test.true),
  left_last c.loop-time.time c.args.exits.now c.args.places
      ∙ ap (λ (set : ℕ). left set c.args.exits.now) c.loop-time.invariant ∙ sym c.left-ends.ensures
      ∙ c.if-ends-places.true,
)
