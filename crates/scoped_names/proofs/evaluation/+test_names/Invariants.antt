use Rattle.std.proofs.Common.{◌≡◌, drop}
use Rattle.scoped_names.proofs.Readings.{all}
use Rattle.scoped_names.specs.Tests.{names_test, operand_test}
use Rattle.scoped_names.proofs.Weights.{weight}
use Rattle.scoped_names.proofs.evaluation.+test_names.Given as goal

-- the operands that are left have what fault the whole has
abbrev pub invariant-loop-part : goal.invariant-loop-part
invariant-loop-part l = all (operand_test l.table l.scope.0) (drop l.part-index l.part-items)
    ≡ names_test l.table l.scope.0 l.fn.expr

abbrev pub decreases-test_names : goal.decreases-test_names
decreases-test_names l = weight l.expr.now
