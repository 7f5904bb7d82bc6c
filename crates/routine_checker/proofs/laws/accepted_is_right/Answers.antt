use Rattle.routine_checker.proofs.Sound.{sound}
use Rattle.routine_checker.proofs.laws.accepted_is_right.Goals as goal

pub returns : goal.returns
returns c = sound
