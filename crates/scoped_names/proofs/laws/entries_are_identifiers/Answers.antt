use Rattle.scoped_names.proofs.Introduced.{nothing_else}
use Rattle.scoped_names.proofs.laws.entries_are_identifiers.Goals as goal

pub returns : goal.returns
returns c = nothing_else
