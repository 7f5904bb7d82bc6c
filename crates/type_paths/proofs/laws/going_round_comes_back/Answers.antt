use Rattle.type_paths.proofs.CircleLaws.{round_is_circle}
use Rattle.type_paths.proofs.laws.going_round_comes_back.Goals as goal

pub returns : goal.returns
returns c = round_is_circle
