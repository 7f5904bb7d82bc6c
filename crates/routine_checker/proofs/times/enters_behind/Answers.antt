use Rattle.std.proofs.Common.{sym, ◌∙◌}
use Rattle.routine_checker.proofs.TimesLaws.{starts_of_period}
use Rattle.routine_checker.proofs.times.enters_behind.Goals as goal

pub returns-in-Some : goal.returns-in-Some
returns-in-Some c =
    c.enters_one_by_one.ensures
    ∙ sym (starts_of_period c.in-Some.period c.args.n c.args.entry c.args.exits.now c.args.places c.in-Some.ensures.0
    c.if-period-n.true c.in-Some.ensures.2)
