use Rattle.std.proofs.Common.{◌≡◌, drop}
use Rattle.broker_answers.specs.Keeping.{action_in}
use Rattle.broker_answers.proofs.attribute_keeper.keeper.row_deed.Given as goal

abbrev pub invariant-loop-other : goal.invariant-loop-other
invariant-loop-other l = action_in l.rows l.number ≡ action_in (drop l.other-index l.rows) l.number
