use Rattle.scoped_names.proofs.Held.{names_hold as names_hold_lemma}
use Rattle.scoped_names.proofs.laws.names_hold.Goals as goal

pub returns : goal.returns
returns c = names_hold_lemma
