-- What is answered by the table of a name.
use Rattle.std.specs.Prelude.{◌≡◌, ◌⊎◌, ℕ, List}
use Rattle.command_words.specs.Ask.{ValueAsk, reference_ask_of, value_ask_of}
use Rattle.command_words.specs.declared.task.TableTask.{TableTask}
use Rattle.command_words.specs.declared.task.TableTask.TheVariants.{Check, Reference, Show, Value}
use Rattle.position_checker.specs.Summary.{accepted}
use Rattle.table_file.specs.Table.{TableParts}
use Rattle.command_words.specs.Requests.{Ask}
use Rattle.command_tables.specs.Named.{Passing}
use Rattle.command_tables.specs.NoReference.{IsReferenceRefusal}
use Rattle.command_tables.specs.References.{IsReferenceLine}
use Rattle.command_tables.specs.Texts.{IsInput, IsInputFault}
use Rattle.command_tables.specs.declared.refusal.Refusal.{Refusal}
use Rattle.command_tables.specs.declared.refusal.Refusal.TheVariants.{NoMemory}
use Rattle.command_texts.specs.Lines.{IsLineOf, IsRefusedIn, Labels}
use Rattle.command_files.specs.Loaded.{IsLoaded, IsNotLoaded}
use Rattle.command_files.specs.declared.loaded.NamedFault.TheVariants as named
use Rattle.idlc_main.specs.declared.fault.Fault.{Fault}
use Rattle.idlc_main.specs.declared.fault.Fault.TheVariants.{NotCompiled, Refused}

-- the name has a table, with names of parts, of which this is so
pub record HasTable (Reads : Passing) (name : List ℕ) (IsSo : TableParts → Labels → Type 0) : Type 0 where
  pub table : TableParts
  pub labels : Labels
  pub is : IsLoaded Reads name table labels
  pub so : IsSo table labels

-- ---- answers

-- the same ask with what its word stands for
abbrev pub with_input : Ask → List ℕ → Ask
with_input ask input = record ask { input = input }

-- a table answers with the line for what the word stands for
pub record AnswersBy (Reads : Passing) (ask : ValueAsk) (line : List ℕ) (table : TableParts) (labels : Labels) : Type 0
  where
    pub input : List ℕ
    pub stands : IsInput Reads ask.form ask.value.way ask.value.input input
    pub answers : IsLineOf ask.form table labels (with_input ask.value input) line

-- it answers what it is asked
abbrev pub Answers : Passing → TableTask → List ℕ → TableParts → Labels → Type 0
Answers Reads (Value asked) line table labels = AnswersBy Reads (value_ask_of asked) line table labels
Answers Reads (Reference asked) line table labels = IsReferenceLine table.model (reference_ask_of asked).parts line
Answers Reads (Check name) line table labels = line ≡ accepted table
Answers Reads (Show name types) line table labels = Unit {0}

-- ---- faults

-- a table refuses what the word stands for
pub record RefusesInput (Reads : Passing) (ask : ValueAsk) (refusal : Refusal) (table : TableParts)
    (labels : Labels) : Type 0 where
  pub input : List ℕ
  pub stands : IsInput Reads ask.form ask.value.way ask.value.input input
  pub refused : IsRefusedIn ask.form table labels (with_input ask.value input) refusal

-- a refusal of the text's file, or of the value
abbrev pub RefusesBy : Passing → ValueAsk → Refusal → TableParts → Labels → Type 0
RefusesBy Reads ask refusal table labels =
    IsInputFault Reads ask.form ask.value.way ask.value.input refusal ⊎ RefusesInput Reads ask refusal table labels

-- it refuses what it is asked
abbrev pub Refuses : Passing → TableTask → Refusal → TableParts → Labels → Type 0
Refuses Reads (Value asked) refusal table labels = RefusesBy Reads (value_ask_of asked) refusal table labels
Refuses Reads (Reference asked) refusal table labels =
    IsReferenceRefusal table.model (reference_ask_of asked).parts refusal
Refuses Reads task refusal table labels = refusal ≡ NoMemory

-- the name has no table
abbrev pub IsUnloaded : Passing → List ℕ → Fault → Type 0
IsUnloaded Reads name (Refused refusal) = IsNotLoaded Reads name (named.Refused refusal)
IsUnloaded Reads name (NotCompiled fault source) = IsNotLoaded Reads name (named.NotCompiled fault source)
IsUnloaded Reads name fault = ⊥

-- the fault is that refusal of a table
abbrev pub IsRefusalBy : (Refusal → TableParts → Labels → Type 0) → TableParts → Labels → Fault → Type 0
IsRefusalBy Refuses table labels (Refused refusal) = Refuses refusal table labels
IsRefusalBy Refuses table labels fault = ⊥

-- the name has no table, or that refuses what is asked
abbrev pub IsTableFault : Passing → List ℕ → (Refusal → TableParts → Labels → Type 0) → Fault → Type 0
IsTableFault Reads name Refuses fault =
    IsUnloaded Reads name fault ⊎ HasTable Reads name (λ table labels. IsRefusalBy Refuses table labels fault)
