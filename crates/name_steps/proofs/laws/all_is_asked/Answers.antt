use Rattle.name_steps.proofs.Asked.{all_asked}
use Rattle.name_steps.proofs.laws.all_is_asked.Goals as goal

pub returns : goal.returns
returns c = all_asked
