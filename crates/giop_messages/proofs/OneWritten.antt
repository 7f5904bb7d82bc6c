-- A tape has one encoding with zeros in the gaps at a position.
use Rattle.std.proofs.Common.{◌≡◌, ℕ, List, sym, ◌∙◌, subst}
use Rattle.type_graph.specs.declared.width.Order.{Order}
use Rattle.type_graph.specs.declared.node.Node.{Node}
use Rattle.type_graph.specs.Words.{writing}
use Rattle.type_graph.specs.Value.{Tree, node_at}
use Rattle.type_graph.specs.Encoding.{Encodes, Means}
use Rattle.type_graph.specs.GraphRules.{IsGraph}
use Rattle.type_graph.proofs.OneTape.{graph_fits_words, one_tape}
use Rattle.giop_types.proofs.Writings.{encodes_once}

pub tape_written_once : (graph : List Node) → IsGraph graph → (order : Order) (depth number p : ℕ) (tape x y : List ℕ)
    → Means graph (writing order) depth number p tape x → Means graph (writing order) depth number p tape y → x ≡ y
tape_written_once graph rules order depth number p tape x y a b =
    let words = graph_fits_words graph rules in
    let node = node_at graph number in
    let same : a.value ≡ b.value =
    one_tape graph words node a.value b.value depth (words number) a.fits b.fits (sym a.tape_is ∙ b.tape_is) in
    let moved = subst (λ (v : Tree). Encodes (writing order) graph node v p y) (sym same) b.encodes in
    encodes_once order graph node a.value p x y a.encodes moved
