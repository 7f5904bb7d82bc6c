-- The lines that commands print of values that are text, by the names of parts.
use Rattle.std.specs.Prelude.{◌≡◌, ◌≢◌, ℕ, ◌≤◌, List, [], ◌∷◌, ◌++◌, length, take, All, Contains, IsErr, Ok}
use Rattle.std.specs.Fmt.{decimal}
use Rattle.hex.specs.Hex.{decode_of}
use Rattle.json.specs.Lex.{tokens}
use Rattle.json.specs.Print.{print}
use Rattle.value_text.specs.Escaped.{escaped}
use Rattle.type_graph.specs.declared.node.Node.{Node}
use Rattle.type_graph.specs.declared.width.Order.{Order}
use Rattle.type_graph.specs.Words.{reading}
use Rattle.type_graph.specs.Value.{Tree, Fits, node_at, tape_of}
use Rattle.type_graph.specs.Encoding.{Means}
use Rattle.table_file.specs.Table.{TableParts}
use Rattle.command_words.specs.declared.requests.value.Way.{Way}
use Rattle.command_words.specs.declared.requests.value.Way.TheVariants.{Encode, Decode}
use Rattle.command_words.specs.declared.requests.value.Form.{Form}
use Rattle.command_words.specs.declared.requests.value.Form.TheVariants.{Hex, Text}
use Rattle.command_tables.specs.declared.refusal.Refusal.{Refusal}
use Rattle.command_tables.specs.declared.refusal.Refusal.TheVariants.{BadHex, NoMemory, NoType, Refused, Unsaid}
use Rattle.command_words.specs.Requests.{Ask}
use Rattle.command_tables.specs.Answer.{IsLine, IsRefusalOf}
use Rattle.command_tables.specs.Lines.{PrintsOctets, HasNoOctets, HasNoTape}
use Rattle.value_text.specs.Says.{StandsFor}
use Rattle.value_text.specs.Texts.{text_at}

-- the names of the parts of nodes, by their numbers
abbrev pub Labels : Type 0
Labels = List (List (List ℕ))

-- ---- what is printed

-- the digits of the CDR octets of the value that the text says
pub record PrintsSaid (labels : Labels) (graph : List Node) (node : ℕ) (ask : Ask) (line : List ℕ) : Type 0 where
  pub value : Tree
  pub said : StandsFor labels graph node value (tokens ask.input)
  pub prints : PrintsOctets graph ask.order node ask.pos (tape_of graph (node_at graph node) value) line

-- how many of the octets encode a value, and its text
pub record PrintsTextOf (labels : Labels) (graph : List Node) (node : ℕ) (order : Order) (pos : ℕ)
    (octets line : List ℕ) : Type 0 where
  pub taken : ℕ
  pub within : taken ≤ length octets
  pub value : Tree
  pub fits : Fits graph (node_at graph node) value 64
  pub means : Means graph (reading order) 64 node pos (tape_of graph (node_at graph node) value) (take taken octets)
  pub line_is : line ≡ decimal taken ++ 32 ∷ escaped (print (text_at labels graph node value)) ++ 10 ∷ []

-- the same of octets that are written in hexadecimal
pub record PrintsText (labels : Labels) (graph : List Node) (node : ℕ) (ask : Ask) (line : List ℕ) : Type 0 where
  pub octets : List ℕ
  pub digits_are : decode_of ask.input ≡ Ok octets
  pub prints : PrintsTextOf labels graph node ask.order ask.pos octets line

abbrev pub Prints : Way → Labels → List Node → ℕ → Ask → List ℕ → Type 0
Prints Encode labels graph node ask line = PrintsSaid labels graph node ask line
Prints Decode labels graph node ask line = PrintsText labels graph node ask line

-- the line that answers
pub record IsTextLine (table : TableParts) (labels : Labels) (ask : Ask) (line : List ℕ) : Type 0 where
  pub node : ℕ
  pub named : Contains table.model.names (ask.name, node)
  pub prints : Prints ask.way labels table.model.graph node ask line

-- the line that answers, in the form
abbrev pub IsLineOf : Form → TableParts → Labels → Ask → List ℕ → Type 0
IsLineOf Hex table labels ask line = IsLine table ask line
IsLineOf Text table labels ask line = IsTextLine table labels ask line

-- ---- refusals

-- the text says no value of the type
abbrev pub SaysNone : Labels → List Node → ℕ → Ask → Type 0
SaysNone labels graph node ask = (value : Tree) → StandsFor labels graph node value (tokens ask.input) → ⊥

-- the value that the text says has no octets
pub record HasNoOctetsSaid (labels : Labels) (graph : List Node) (node : ℕ) (ask : Ask) : Type 0 where
  pub value : Tree
  pub said : StandsFor labels graph node value (tokens ask.input)
  pub none : HasNoOctets graph ask.order node ask.pos (tape_of graph (node_at graph node) value)

-- no front of the octets encodes a value
pub record HasNoText (graph : List Node) (node : ℕ) (ask : Ask) : Type 0 where
  pub octets : List ℕ
  pub digits_are : decode_of ask.input ≡ Ok octets
  pub none : HasNoTape graph ask.order node ask.pos octets

abbrev pub HasNone : Way → Labels → List Node → ℕ → Ask → Type 0
HasNone Encode labels graph node ask = HasNoOctetsSaid labels graph node ask
HasNone Decode labels graph node ask = HasNoText graph node ask

-- why a value of a node isn't answered
abbrev pub IsRefusalAt : Way → Labels → List Node → ℕ → Ask → Refusal → Type 0
IsRefusalAt Encode labels graph node ask (Unsaid fault) = SaysNone labels graph node ask
IsRefusalAt Decode labels graph node ask BadHex = IsErr (decode_of ask.input)
IsRefusalAt way labels graph node ask (Refused fault) = HasNone way labels graph node ask
IsRefusalAt way labels graph node ask NoMemory = Unit {0}
IsRefusalAt way labels graph node ask refusal = ⊥

pub record IsRefusedAt (table : TableParts) (labels : Labels) (ask : Ask) (refusal : Refusal) : Type 0 where
  pub node : ℕ
  pub named : Contains table.model.names (ask.name, node)
  pub refused : IsRefusalAt ask.way labels table.model.graph node ask refusal

-- the refusal that answers
abbrev pub IsTextRefusal : TableParts → Labels → Ask → Refusal → Type 0
IsTextRefusal table labels ask (NoType name) =
    (name.now ≡ ask.name) × All (λ pair. pair.0 ≢ ask.name) table.model.names
IsTextRefusal table labels ask refusal = IsRefusedAt table labels ask refusal

-- the same, in the form
abbrev pub IsRefusedIn : Form → TableParts → Labels → Ask → Refusal → Type 0
IsRefusedIn Hex table labels ask refusal = IsRefusalOf table ask refusal
IsRefusedIn Text table labels ask refusal = IsTextRefusal table labels ask refusal
