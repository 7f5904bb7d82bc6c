-- What the bodies of requests and replies are as text, by the types of a table and the names of their parts.
use Rattle.std.specs.Prelude.{◌≡◌, ℕ, List, ◌++◌}
use Rattle.json.specs.Lex.{tokens}
use Rattle.json.specs.Print.{print}
use Rattle.value_text.specs.Escaped.{escaped}
use Rattle.type_graph.specs.declared.node.Node.{Node}
use Rattle.type_graph.specs.declared.width.Order.{Order}
use Rattle.type_graph.specs.Words.{reading}
use Rattle.type_graph.specs.Value.{Tree, Fits, node_at, tape_of}
use Rattle.type_graph.specs.Encoding.{Means}
use Rattle.value_text.specs.Says.{StandsFor}
use Rattle.value_text.specs.Texts.{text_at}

-- the names of the parts of nodes, by their numbers
abbrev pub Labels : Type 0
Labels = List (List (List ℕ))

-- the tape of the value that a text says
pub record IsTapeOfText (labels : Labels) (graph : List Node) (node : ℕ) (text tape : List ℕ) : Type 0 where
  pub value : Tree
  pub said : StandsFor labels graph node value (tokens text)
  pub tape_is : tape ≡ tape_of graph (node_at graph node) value

-- the text says no value
abbrev pub SaysNone : Labels → List Node → ℕ → List ℕ → Type 0
SaysNone labels graph node text = (value : Tree) → StandsFor labels graph node value (tokens text) → ⊥

-- The octets at a place of a message begin with a value of the node, and this is its text.
pub record IsTextOfBody (labels : Labels) (graph : List Node) (order : Order) (node place : ℕ) (octets text : List ℕ)
    : Type 0 where
  pub value : Tree
  pub front : List ℕ
  pub rest : List ℕ
  pub octets_are : octets ≡ front ++ rest
  pub fits : Fits graph (node_at graph node) value 64
  pub means : Means graph (reading order) 64 node place (tape_of graph (node_at graph node) value) front
  pub text_is : text ≡ escaped (print (text_at labels graph node value))

-- they begin with none
abbrev pub HasNoValue : List Node → Order → ℕ → ℕ → List ℕ → Type 0
HasNoValue graph order node place octets =
    (tape front rest : List ℕ) → octets ≡ front ++ rest → Means graph (reading order) 64 node place tape front → ⊥
