-- The gaps of a value, by its tape.
use Rattle.std.specs.Prelude.{◌≡◌, ℕ, List}
use Rattle.type_graph.specs.declared.width.Order.{Order}
use Rattle.type_graph.specs.Words.{writing}
use Rattle.type_graph.specs.Encoding.{Means}
use Rattle.giop_types.specs.GiopNodes.{giop_nodes}
use Rattle.reference_texts.specs.Encapsulations.{differences}

-- what stands in them in the octets, but for zeros
pub record AreGaps (order : Order) (node : ℕ) (tape front : List ℕ) (gaps : List (ℕ × ℕ)) : Type 0 where
  pub clean : List ℕ
  pub means : Means giop_nodes (writing order) 64 node 1 tape clean
  pub are : gaps ≡ differences 1 clean front
