use Rattle.std.proofs.Common.{◌<◌}
use Rattle.marshal_program.proofs.Chosen.{both_tests, first_test}
use Rattle.marshal_program.proofs.rules.are_in_range.Goals as goal

pub returns-then-labels_in_range : goal.returns-then-labels_in_range
returns-then-labels_in_range c =
    both_tests (λ number. number < c.args.count) c.args.names.arms.now c.args.names.other c.labels_in_range.result
    c.other_in_range.result c.labels_in_range.ensures c.other_in_range.ensures c.if-labels_in_range.true

pub returns-else-labels_in_range : goal.returns-else-labels_in_range
returns-else-labels_in_range c =
    first_test (λ number. number < c.args.count) c.args.names.arms.now c.args.names.other c.labels_in_range.result
    c.labels_in_range.ensures c.if-labels_in_range.false
