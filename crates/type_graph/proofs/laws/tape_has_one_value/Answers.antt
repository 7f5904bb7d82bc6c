use Rattle.type_graph.specs.Value.{node_at}
use Rattle.type_graph.proofs.OneTape.{graph_fits_words, one_tape}
use Rattle.type_graph.proofs.laws.tape_has_one_value.Goals as goal

pub returns : goal.returns
returns c = λ graph rules number depth value other.
    one_tape graph (graph_fits_words graph rules) (node_at graph number) value other depth
    (graph_fits_words graph rules number)
