use Rattle.scoped_names.proofs.Introduced.{declared_once}
use Rattle.scoped_names.proofs.laws.identifiers_are_entries.Goals as goal

pub returns : goal.returns
returns c = declared_once
