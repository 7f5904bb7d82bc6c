-- What is answered to one who asks a table for a value.
use Rattle.std.specs.Prelude.{◌≡◌, ◌≢◌, ℕ, List, All, Contains, IsErr, Ok}
use Rattle.hex.specs.Hex.{decode_of}
use Rattle.table_file.specs.Table.{TableParts}
use Rattle.command_words.specs.Requests.{Ask}
use Rattle.command_tables.specs.declared.refusal.Refusal.{Refusal}
use Rattle.command_tables.specs.declared.refusal.Refusal.TheVariants.{NoType, BadHex, Refused, NoMemory}
use Rattle.command_tables.specs.Lines.{Answers, HasNoAnswer}

-- the line that answers
pub record IsLine (table : TableParts) (ask : Ask) (line : List ℕ) : Type 0 where
  pub node : ℕ
  pub named : Contains table.model.names (ask.name, node)
  pub answers : Answers table.model.graph node ask.way ask.order ask.pos ask.input line

-- the name is there, but its digits are none
pub record HasBadDigits (table : TableParts) (ask : Ask) : Type 0 where
  pub node : ℕ
  pub named : Contains table.model.names (ask.name, node)
  pub bad : IsErr (decode_of ask.input)

-- the value that is asked for isn't there
pub record IsEmptyAsk (table : TableParts) (ask : Ask) : Type 0 where
  pub node : ℕ
  pub named : Contains table.model.names (ask.name, node)
  pub input : List ℕ
  pub digits_are : decode_of ask.input ≡ Ok input
  pub none : HasNoAnswer table.model.graph node ask.way ask.order ask.pos input

-- the refusal that answers
abbrev pub IsRefusalOf : TableParts → Ask → Refusal → Type 0
IsRefusalOf table ask (NoType name) = (name.now ≡ ask.name) × All (λ pair. pair.0 ≢ ask.name) table.model.names
IsRefusalOf table ask BadHex = HasBadDigits table ask
IsRefusalOf table ask (Refused fault) = IsEmptyAsk table ask
IsRefusalOf table ask NoMemory = Unit {0}
IsRefusalOf table ask refusal = ⊥
