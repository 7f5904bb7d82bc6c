use Rattle.lowered_operations.proofs.FileKeep.{only_types}
use Rattle.lowered_operations.proofs.laws.no_other_names.Goals as goal

pub returns : goal.returns
returns c = only_types
