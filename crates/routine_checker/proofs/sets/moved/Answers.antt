use Rattle.std.proofs.Common.{◌∙◌}
use Rattle.routine_checker.proofs.PlaceLaws.{moved_modulo}
use Rattle.routine_checker.proofs.sets.moved.Goals as goal

pub returns : goal.returns
returns c = c.moved_by.ensures ∙ moved_modulo c.args.set c.args.width c.args.n
