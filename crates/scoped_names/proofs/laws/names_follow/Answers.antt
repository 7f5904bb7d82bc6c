use Rattle.scoped_names.proofs.Held.{names_follow as names_follow_lemma}
use Rattle.scoped_names.proofs.laws.names_follow.Goals as goal

pub returns : goal.returns
returns c = names_follow_lemma
