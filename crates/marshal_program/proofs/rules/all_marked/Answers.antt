use Rattle.marshal_program.specs.inner.RuleTests.{IsMarked}
use Rattle.marshal_program.proofs.Chosen.{both_tests, first_test}
use Rattle.marshal_program.proofs.rules.all_marked.Goals as goal

pub returns-then-labels_marked : goal.returns-then-labels_marked
returns-then-labels_marked c =
    both_tests (IsMarked c.args.works.now) c.args.names.arms.now c.args.names.other c.labels_marked.result
    c.other_marked.result c.labels_marked.ensures c.other_marked.ensures c.if-labels_marked.true

pub returns-else-labels_marked : goal.returns-else-labels_marked
returns-else-labels_marked c =
    first_test (IsMarked c.args.works.now) c.args.names.arms.now c.args.names.other c.labels_marked.result
    c.labels_marked.ensures c.if-labels_marked.false
