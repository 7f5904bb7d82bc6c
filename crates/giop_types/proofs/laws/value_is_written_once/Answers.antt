use Rattle.type_graph.specs.Value.{node_at}
use Rattle.giop_types.specs.GiopNodes.{giop_nodes}
use Rattle.giop_types.proofs.Writings.{encodes_once}
use Rattle.giop_types.proofs.laws.value_is_written_once.Goals as goal

pub returns : goal.returns
returns c = λ order node p value octets1 octets2 a b. encodes_once order giop_nodes (node_at giop_nodes node) value p
    octets1 octets2 a.encodes b.encodes
