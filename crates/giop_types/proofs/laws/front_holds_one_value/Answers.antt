use Rattle.type_graph.specs.Value.{node_at}
use Rattle.type_graph.proofs.OneTape.{graph_fits_words}
use Rattle.type_graph.proofs.OneReading.{one_reading}
use Rattle.giop_types.specs.GiopNodes.{giop_nodes}
use Rattle.giop_types.proofs.GraphFacts.{giop_is_graph}
use Rattle.giop_types.proofs.laws.front_holds_one_value.Goals as goal

pub returns : goal.returns
returns c = λ format node p value1 value2 octets1 octets2 rest1 rest2 a b e.
    let words = graph_fits_words giop_nodes giop_is_graph in
    one_reading giop_nodes words format (node_at giop_nodes node) value1 value2 64 64 p octets1 octets2 rest1 rest2
    (words node) a.fits b.fits a.encodes b.encodes e
