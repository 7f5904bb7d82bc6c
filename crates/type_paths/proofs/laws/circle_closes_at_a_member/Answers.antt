use Rattle.type_paths.proofs.CircleLaws.{closing_held}
use Rattle.type_paths.proofs.laws.circle_closes_at_a_member.Goals as goal

pub returns : goal.returns
returns c = closing_held
