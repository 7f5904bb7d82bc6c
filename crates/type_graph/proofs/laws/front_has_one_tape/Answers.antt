use Rattle.type_graph.proofs.OneTape.{graph_fits_words}
use Rattle.type_graph.proofs.OneReading.{means_once}
use Rattle.type_graph.proofs.laws.front_has_one_tape.Goals as goal

pub returns : goal.returns
returns c = λ graph rules format. means_once graph (graph_fits_words graph rules) format
