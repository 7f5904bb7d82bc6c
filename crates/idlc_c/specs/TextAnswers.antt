-- What answers about values as texts say.
use Rattle.std.specs.Prelude.{◌≡◌, ℕ, ◌≤◌, ◌⊎◌, List, length, take}
use Rattle.std.specs.Bool.{OnFalse}
use Rattle.std.specs.Str.{IsUtf8}
use Rattle.json.specs.Lex.{tokens}
use Rattle.json.specs.Print.{print}
use Rattle.value_text.specs.Escaped.{escaped}
use Rattle.type_graph.specs.declared.width.Order.{Order}
use Rattle.type_graph.specs.Words.{reading, writing}
use Rattle.type_graph.specs.Value.{Tree, Fits, node_at, tape_of}
use Rattle.type_graph.specs.Encoding.{Means}
use Rattle.table_file.specs.Table.{TableParts}
use Rattle.program_runner.specs.Refusal.{wants_memory as run_wants_memory}
use Rattle.value_text.specs.Says.{StandsFor}
use Rattle.value_text.specs.Texts.{text_at}
use Rattle.idlc_c.specs.declared.refusal.Refusal.{Refusal}
use Rattle.idlc_c.specs.declared.refusal.Refusal.TheVariants.{NoMemory, NotNamed, NoRoom, NoValue, NoText}
use Rattle.idlc_c.specs.Handle.{Labels}
use Rattle.idlc_c.specs.Answers.{HasNoOctets, IsOfValue}

-- the text is UTF-8, and stands for the value of the node
pub record IsText (names : Labels) (node : ℕ) (text : List ℕ) (table : TableParts) (value : Tree) : Type 0 where
  pub utf8 : IsUtf8 text
  pub says : StandsFor names table.model.graph node value (tokens text)

-- the text says no value of the node
abbrev pub SaysNone : Labels → ℕ → List ℕ → TableParts → Type 0
SaysNone names node text table = (value : Tree) → IsText names node text table value → ⊥

abbrev pub tape_at : TableParts → ℕ → Tree → List ℕ
tape_at table node value = tape_of table.model.graph (node_at table.model.graph node) value

-- the octets are those of the value that the text says
pub record IsOctetsOfText (names : Labels) (node : ℕ) (order : Order) (pos : ℕ) (text octets : List ℕ)
    (table : TableParts) : Type 0
  where
    pub value : Tree
    pub is_text : IsText names node text table value
    pub meant : Means table.model.graph (writing order) 64 node pos (tape_at table node value) octets

-- those are so many
pub record HasOctetsOfText (names : Labels) (node : ℕ) (order : Order) (pos : ℕ) (text : List ℕ) (len : ℕ)
    (table : TableParts) : Type 0
  where
    pub octets : List ℕ
    pub is : IsOctetsOfText names node order pos text octets table
    pub long : length octets ≡ len

-- the text says a value, which has no octets
pub record HasNoOctetsOfText (names : Labels) (node : ℕ) (order : Order) (pos : ℕ) (text : List ℕ)
    (table : TableParts) : Type 0
  where
    pub value : Tree
    pub is_text : IsText names node text table value
    pub none : HasNoOctets node order pos (tape_at table node value) table

-- so many octets encode a value, whatever stands in the gaps, and the text is what is printed of it, with escapes
pub record IsTextOfOctets (names : Labels) (node : ℕ) (order : Order) (pos : ℕ) (octets : List ℕ) (taken : ℕ)
    (text : List ℕ) (table : TableParts) : Type 0
  where
    pub within : taken ≤ length octets
    pub value : Tree
    pub fits : Fits table.model.graph (node_at table.model.graph node) value 64
    pub meant : Means table.model.graph (reading order) 64 node pos (tape_at table node value) (take taken octets)
    pub text_is : text ≡ escaped (print (text_at names table.model.graph node value))

-- that text is so long
pub record HasTextOfOctets (names : Labels) (node : ℕ) (order : Order) (pos : ℕ) (octets : List ℕ) (len : ℕ)
    (table : TableParts) : Type 0
  where
    pub text : List ℕ
    pub taken : ℕ
    pub is : IsTextOfOctets names node order pos octets taken text table
    pub long : length text ≡ len

-- why a value isn't handed over: it isn't named, it has a length, it is none, the text says none
abbrev pub RefusesSaid : Type 0 → (ℕ → Type 0) → Type 0 → Type 0 → Refusal → Type 0
RefusesSaid unnamed long none unsaid NoMemory = Unit {0}
RefusesSaid unnamed long none unsaid NotNamed = unnamed
RefusesSaid unnamed long none unsaid (NoRoom needed) = long needed
RefusesSaid unnamed long none unsaid (NoValue fault) = OnFalse (run_wants_memory fault) none
RefusesSaid unnamed long none unsaid (NoText fault) = unsaid
RefusesSaid unnamed long none unsaid refusal = ⊥

-- the numbers that a call about a text answers
abbrev pub IsOfText : ℕ → Type 0
IsOfText number = IsOfValue number ⊎ ((110 ≤ number) × (number ≤ 124))
