use Rattle.scoped_names.proofs.Introduced.{nothing_clashes as nothing_clashes_lemma}
use Rattle.scoped_names.proofs.laws.nothing_clashes.Goals as goal

pub returns : goal.returns
returns c = nothing_clashes_lemma
