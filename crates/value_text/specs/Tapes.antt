-- Tapes of values, and their texts.
use Rattle.std.specs.Prelude.{◌≡◌, ℕ, List}
use Rattle.json.specs.Print.{print}
use Rattle.value_text.specs.Escaped.{escaped}
use Rattle.type_graph.specs.declared.node.Node.{Node}
use Rattle.type_graph.specs.Value.{Tree, Fits, node_at, tape_of}
use Rattle.value_text.specs.Texts.{text_at}

-- some value of the node has the tape
pub record IsTape (graph : List Node) (node : ℕ) (tape : List ℕ) : Type 0 where
  pub value : Tree
  pub fits : Fits graph (node_at graph node) value 64
  pub tape_is : tape_of graph (node_at graph node) value ≡ tape

-- the text is that of a value with the tape
pub record IsTextOfTape (labels : List (List (List ℕ))) (graph : List Node) (node : ℕ)
    (tape text : List ℕ) : Type 0 where
  pub value : Tree
  pub fits : Fits graph (node_at graph node) value 64
  pub tape_is : tape_of graph (node_at graph node) value ≡ tape
  pub text_is : text ≡ escaped (print (text_at labels graph node value))
