use Rattle.type_graph.proofs.UniformLaws.{uniform_means}
use Rattle.type_graph.proofs.laws.uniform_is_words.Goals as goal

pub returns : goal.returns
returns c = λ graph rules format depth w n number u. uniform_means graph format depth rules w n number u
