use Rattle.type_faults.proofs.Found.{stuck}
use Rattle.type_faults.proofs.all_faults.narrow.Goals as goal

pub returns-else-low-high : goal.returns-else-low-high
returns-else-low-high c =
    stuck c.args.tokens.now c.args.refused.now c.loop-low.low c.loop-low.high c.loop-low.invariant.strict
    c.loop-low-test.false c.if-low-high.false c.loop-low.invariant.behind
