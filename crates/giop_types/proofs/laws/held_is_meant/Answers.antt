use Rattle.std.proofs.Common.{refl, sym, subst}
use Rattle.type_graph.specs.Value.{Tree, node_at}
use Rattle.type_graph.specs.Encoding.{Encodes}
use Rattle.type_graph.proofs.OneTape.{graph_fits_words, one_tape}
use Rattle.giop_types.specs.GiopNodes.{giop_nodes}
use Rattle.giop_types.proofs.GraphFacts.{giop_is_graph}
use Rattle.giop_types.proofs.laws.held_is_meant.Goals as goal

pub returns-clause-means : goal.returns-clause-means
returns-clause-means c =
    λ format node p value octets h. record { value = value; fits = h.fits; tape_is = refl; encodes = h.encodes }

pub returns-clause-holds : goal.returns-clause-holds
returns-clause-holds c = λ format node p value octets fits m.
    let words = graph_fits_words giop_nodes giop_is_graph in
    let same = one_tape giop_nodes words (node_at giop_nodes node) value m.value 64 (words node) fits m.fits m.tape_is
    in
    record {
      fits = fits;
      encodes = subst (λ (v : Tree). Encodes format giop_nodes (node_at giop_nodes node) v p octets) (sym same)
          m.encodes;
    }
