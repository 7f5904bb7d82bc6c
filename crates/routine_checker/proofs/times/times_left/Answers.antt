use Rattle.std.proofs.Common.{◌∙◌}
use Rattle.routine_checker.proofs.TimesLaws.{left_modulo}
use Rattle.routine_checker.proofs.times.times_left.Goals as goal

pub returns-in-Some : goal.returns-in-Some
returns-in-Some c =
    c.left_one_by_one.ensures ∙ left_modulo c.args.n c.in-Some.period c.args.exits.now c.args.places c.in-Some.ensures.2
