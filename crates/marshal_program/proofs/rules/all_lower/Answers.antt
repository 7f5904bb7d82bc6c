use Rattle.marshal_program.specs.ProgramRules.{IsLower}
use Rattle.marshal_program.proofs.Chosen.{both_tests, first_test}
use Rattle.marshal_program.proofs.rules.all_lower.Goals as goal

pub returns-then-labels_lower : goal.returns-then-labels_lower
returns-then-labels_lower c =
    both_tests (IsLower c.args.routines.now c.args.rank) c.args.names.arms.now c.args.names.other c.labels_lower.result
    c.other_lower.result c.labels_lower.ensures c.other_lower.ensures c.if-labels_lower.true

pub returns-else-labels_lower : goal.returns-else-labels_lower
returns-else-labels_lower c =
    first_test (IsLower c.args.routines.now c.args.rank) c.args.names.arms.now c.args.names.other c.labels_lower.result
    c.labels_lower.ensures c.if-labels_lower.false
