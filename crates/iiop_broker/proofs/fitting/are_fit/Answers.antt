use Rattle.broker_answers.specs.Objects.{objects_of}
use Rattle.iiop_broker.proofs.Fit.{fit_else, fit_then}
use Rattle.iiop_broker.proofs.fitting.are_fit.Goals as goal

pub returns-then-are_distinct : goal.returns-then-are_distinct
returns-then-are_distinct c =
    fit_then c.args.count (objects_of c.args.objects.now) c.are_distinct.result c.are_within.result
    c.are_distinct.ensures
    c.are_within.ensures c.if-are_distinct.true

pub returns-else-are_distinct : goal.returns-else-are_distinct
returns-else-are_distinct c =
    fit_else c.args.count (objects_of c.args.objects.now) c.are_distinct.result c.are_distinct.ensures
    c.if-are_distinct.false
