use Rattle.lowered_operations.proofs.Kept.{rule_kept}
use Rattle.lowered_operations.proofs.laws.oneway_gives_nothing_back.Goals as goal

pub returns : goal.returns
returns c = rule_kept
