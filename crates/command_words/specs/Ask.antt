-- What a run may be asked for.
use Rattle.std.specs.Prelude.{ℕ, Bool, List, Option, Some, None, codes, option_map}
use Rattle.type_graph.specs.declared.width.Order.{Order}
use Rattle.command_words.specs.Requests.{Ask as Marshalling, ask_of as marshalling_of}
use Rattle.command_words.specs.Requests.{ReferenceParts, reference_parts_of}
use Rattle.command_words.specs.declared.requests.value.Form.{Form}
use Rattle.command_words.specs.declared.task.ValueTask.{ValueTask}
use Rattle.command_words.specs.declared.task.ReferenceTask.{ReferenceTask}
use Rattle.command_words.specs.declared.task.CallTask.{CallTask}
use Rattle.command_words.specs.declared.task.DumpTask.{DumpTask}
use Rattle.command_words.specs.declared.task.TableTask.{TableTask}
use Rattle.command_words.specs.declared.task.TableTask.TheVariants as tables
use Rattle.command_words.specs.declared.task.Task.{Task}
use Rattle.command_words.specs.declared.task.Task.TheVariants as tasks
use Rattle.command_words.specs.declared.task.Said.{Said}
use Rattle.command_words.specs.declared.task.Said.TheVariants as lines
use Rattle.command_words.specs.Way.{name_of}

-- a value of a table, in a form
pub record ValueAsk : Type 0 where
  pub table : List ℕ
  pub form : Form
  pub value : Marshalling

-- a reference to an object of a table's interface
pub record ReferenceAsk : Type 0 where
  pub table : List ℕ
  pub parts : ReferenceParts

-- a call of an object
pub record CallAsk : Type 0 where
  pub table : List ℕ
  pub reference : List ℕ
  pub operation : List ℕ
  pub value : Option (List ℕ)
  pub order : Order
  pub wait : ℕ
  pub repeat : ℕ

-- what a capture says
pub record DumpAsk : Type 0 where
  pub table : List ℕ
  pub file : Option (List ℕ)
  pub back : Option (List ℕ)
  pub follow : Bool

pub data Ask : Type 0 where
  Value : ValueAsk → Ask
  Reference : ReferenceAsk → Ask
  -- whether a table is right
  Check : List ℕ → Ask
  -- what a table has; with the flag what texts of its values look like
  Show : List ℕ → Bool → Ask
  -- a table, in another file
  Upgrade : List ℕ → List ℕ → Ask
  -- the table of an IDL file, in another file
  Compile : List ℕ → List ℕ → Ask
  -- what the refusals of a number or a name mean, or which there are
  Explanation : Option (List ℕ) → Ask
  -- what a reference says
  Description : List ℕ → Ask

-- what words ask for: an answer, a call, or what a capture says
pub data Asked : Type 0 where
  Answer : Ask → Asked
  Call : CallAsk → Asked
  Dump : DumpAsk → Asked

abbrev pub value_ask_of : ValueTask → ValueAsk
value_ask_of asked = record {
  table = asked.table.now;
  form = asked.form;
  value = marshalling_of asked.request asked.input.now;
}

abbrev pub reference_ask_of : ReferenceTask → ReferenceAsk
reference_ask_of asked = record { table = asked.table.now; parts = reference_parts_of asked.wanted }

abbrev pub call_ask_of : CallTask → CallAsk
call_ask_of asked = record {
  table = asked.table.now;
  reference = asked.reference.now;
  operation = asked.operation.now;
  value = option_map (λ text. text.now) asked.value;
  order = asked.order;
  wait = asked.wait;
  repeat = asked.repeat;
}

abbrev pub dump_ask_of : DumpTask → DumpAsk
dump_ask_of asked = record {
  table = asked.table.now;
  file = option_map (λ text. text.now) asked.file;
  back = option_map (λ text. text.now) asked.back;
  follow = asked.follow;
}

-- the name of the table of a task
abbrev pub table_of : TableTask → List ℕ
table_of (tables.Value asked) = asked.table.now
table_of (tables.Reference asked) = asked.table.now
table_of (tables.Check table) = table.now
table_of (tables.Show table types) = table.now

-- what a task answers
abbrev pub table_ask_of : TableTask → Ask
table_ask_of (tables.Value asked) = Value (value_ask_of asked)
table_ask_of (tables.Reference asked) = Reference (reference_ask_of asked)
table_ask_of (tables.Check table) = Check table.now
table_ask_of (tables.Show table types) = Show table.now types

abbrev pub ask_of : Task → Ask
ask_of (tasks.Table task) = table_ask_of task
ask_of (tasks.Explain word) = Explanation (option_map (λ text. text.now) word)
ask_of (tasks.Describe reference) = Description reference.now
ask_of (tasks.Upgrade table output) = Upgrade table.now output.now
ask_of (tasks.Compile source output) = Compile source.now output.now

abbrev pub asked_of : Said → Option Asked
asked_of (lines.Do task) = Some (Answer (ask_of task))
asked_of (lines.Call task) = Some (Call (call_ask_of task))
asked_of (lines.Dump task) = Some (Dump (dump_ask_of task))
asked_of said = None

-- the command that asks for it
abbrev pub command_of : Ask → List ℕ
command_of (Value ask) = name_of ask.value.way
command_of (Reference ask) = codes "ior"
command_of (Check table) = codes "check"
command_of (Show table types) = codes "show"
command_of (Upgrade table output) = codes "upgrade"
command_of (Compile source output) = codes "compile"
command_of (Explanation word) = codes "explain"
command_of (Description reference) = codes "reference"

abbrev pub asking_command : Asked → List ℕ
asking_command (Answer ask) = command_of ask
asking_command (Call ask) = codes "call"
asking_command (Dump ask) = codes "dump"
