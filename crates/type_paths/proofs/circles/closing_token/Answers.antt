use Rattle.std.proofs.Common.{◌≡◌, ◌+◌, ◌-◌, ◌/◌, IsTrue, true, false, sym, ◌∙◌, arith}
use Rattle.type_paths.proofs.PathLaws.{round_later}
use Rattle.type_paths.proofs.circles.closing_token.Goals as goal

pub loop-low-preserved : goal.loop-low-preserved
loop-low-preserved c =
    let middle = c.loop-low.low + (c.loop-low.high - c.loop-low.low) / 2 in
    record {
      order = omega arith;
      round = c.loop-low.invariant.round;
      before = λ less lt round.
          let yes : IsTrue c.in_ok-goes_round.field-0 =
          c.in_ok-goes_round.ensures.1 (round_later c.args.types.now less middle (omega arith) round) in
          let bad : true ≡ false = sym yes ∙ c.if-branch.false in
          absurd cc;
    }

pub returns : goal.returns
returns c = record {
  round = c.loop-low.invariant.round;
  first = λ less lt round. c.loop-low.invariant.before less (omega arith) round;
}
