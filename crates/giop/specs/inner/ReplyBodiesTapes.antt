-- The tapes of bodies.
use Rattle.std.specs.Prelude.{◌≡◌, ℕ, ◌<◌, ◌^◌, pos, List, ◌++◌}
use Rattle.type_graph.specs.declared.width.Order.{Order}
use Rattle.type_graph.specs.declared.width.Order.TheVariants.{Big}
use Rattle.type_graph.specs.declared.width.Width.TheVariants.{Four}
use Rattle.type_graph.specs.Words.{word}
use Rattle.type_graph.specs.Value.{Tree, node_at, tape_of}
use Rattle.giop_types.specs.GiopNodes.{giop_nodes}
use Rattle.giop_types.specs.TapeParts.{counted, IsCounted}
use Rattle.giop.specs.Bodies.{BeginsWith}

-- the tape of the value of the node with which octets at a place begin
pub record HasTape (order : Order) (node place : ℕ) (octets tape : List ℕ) : Type 0 where
  pub value : Tree
  pub begins : BeginsWith order node place value octets
  pub tape_is : tape ≡ tape_of giop_nodes (node_at giop_nodes node) value

-- the tape of an exception at the front of another
pub record IsException (tape id : List ℕ) (minor completion : ℕ) : Type 0 where
  pub id_short : IsCounted id
  pub minor_small : minor < 2 ^ 32
  pub completion_small : completion < 2 ^ 32
  pub rest : List ℕ
  pub front : tape ≡ counted id ++ (word Big Four (pos minor) ++ (word Big Four (pos completion) ++ rest))
