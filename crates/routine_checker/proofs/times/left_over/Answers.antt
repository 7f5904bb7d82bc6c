use Rattle.routine_checker.proofs.TimesLaws.{left_modulo}
use Rattle.routine_checker.proofs.times.left_over.Goals as goal

pub returns-in-Some : goal.returns-in-Some
returns-in-Some c = left_modulo c.args.n c.in-Some.period c.args.exits.now c.args.places c.in-Some.ensures.2
