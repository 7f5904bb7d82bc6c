use Rattle.std.proofs.Common.{◌≡◌, drop}
use Rattle.name_table.specs.Worth.{worth, whole_constant}
use Rattle.scoped_names.proofs.Weights.{weight}
use Rattle.scoped_names.specs.Constants.{named_worth}
use Rattle.scoped_names.proofs.ChainWorth.{operands_worth}
use Rattle.scoped_names.proofs.evaluation.+worth.Given as goal

-- the operands that are left make the whole of what was made so far
abbrev pub invariant-loop-part : goal.invariant-loop-part
invariant-loop-part l =
    whole_constant (operands_worth (named_worth l.table l.scope.0) (drop l.part-index l.part-items) l.value)
    ≡ worth (named_worth l.table l.scope.0) l.fn.expr

abbrev pub decreases-worth : goal.decreases-worth
decreases-worth l = weight l.expr.now
