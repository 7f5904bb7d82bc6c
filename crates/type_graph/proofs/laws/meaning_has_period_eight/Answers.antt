use Rattle.type_graph.proofs.MeaningMoves.{means_moves}
use Rattle.type_graph.proofs.laws.meaning_has_period_eight.Goals as goal

pub returns : goal.returns
returns c = λ graph format depth number p q tape octets e. (means_moves graph format depth number).at p q tape octets e
