-- The lines that commands print of a table.
use Rattle.std.specs.Prelude.{◌≡◌, ℕ, ◌≤◌, List, [], ◌∷◌, ◌++◌, length, take, Ok}
use Rattle.std.specs.Fmt.{decimal}
use Rattle.hex.specs.Hex.{decode_of, encode_lower}
use Rattle.type_graph.specs.declared.node.Node.{Node}
use Rattle.type_graph.specs.declared.width.Order.{Order}
use Rattle.type_graph.specs.Words.{reading, writing}
use Rattle.type_graph.specs.Encoding.{Means}
use Rattle.command_words.specs.declared.requests.value.Way.{Way}
use Rattle.command_words.specs.declared.requests.value.Way.TheVariants.{Encode, Decode}

-- the digits of the CDR octets of the value that the tape is
pub record PrintsOctets (graph : List Node) (order : Order) (node pos : ℕ) (tape line : List ℕ) : Type 0 where
  pub octets : List ℕ
  pub line_is : line ≡ encode_lower octets ++ 10 ∷ []
  pub means : Means graph (writing order) 64 node pos tape octets

-- how many octets encode a value, and the digits of its tape
pub record PrintsTape (graph : List Node) (order : Order) (node pos : ℕ) (octets line : List ℕ) : Type 0 where
  pub taken : ℕ
  pub within : taken ≤ length octets
  pub tape : List ℕ
  pub line_is : line ≡ decimal taken ++ 32 ∷ encode_lower tape ++ 10 ∷ []
  pub means : Means graph (reading order) 64 node pos tape (take taken octets)

-- no octets are the CDR octets of a value with that tape
abbrev pub HasNoOctets : List Node → Order → ℕ → ℕ → List ℕ → Type 0
HasNoOctets graph order node pos tape =
    (octets : List ℕ) → Means graph (writing order) 64 node pos tape octets → ⊥

-- no front of the octets encodes a value, whatever its padding
abbrev pub HasNoTape : List Node → Order → ℕ → ℕ → List ℕ → Type 0
HasNoTape graph order node pos octets =
    (tape front rest : List ℕ) → octets ≡ front ++ rest → Means graph (reading order) 64 node pos tape front → ⊥

-- what a command prints of its input, for values of a node
abbrev pub Prints : List Node → ℕ → Way → Order → ℕ → List ℕ → List ℕ → Type 0
Prints graph node Encode order pos tape line = PrintsOctets graph order node pos tape line
Prints graph node Decode order pos octets line = PrintsTape graph order node pos octets line

-- there is nothing to print of the input
abbrev pub HasNoAnswer : List Node → ℕ → Way → Order → ℕ → List ℕ → Type 0
HasNoAnswer graph node Encode order pos tape = HasNoOctets graph order node pos tape
HasNoAnswer graph node Decode order pos octets = HasNoTape graph order node pos octets

-- what a command prints, of input that is written in hexadecimal
pub record Answers (graph : List Node) (node : ℕ) (way : Way) (order : Order) (pos : ℕ)
    (digits line : List ℕ) : Type 0 where
  pub input : List ℕ
  pub digits_are : decode_of digits ≡ Ok input
  pub prints : Prints graph node way order pos input line
