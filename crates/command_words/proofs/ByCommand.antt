-- Which command asks for what.
use Rattle.std.proofs.Common.{◌≡◌, ◌∙◌, ◌==◌, if◌then◌else◌, refl, sym, ℕ, Bool, List, Option, IsSomeAnd, ap, codes, length, slice_index}
use Rattle.clap.specs.Words.{Row, Text}
use Rattle.command_words.specs.declared.requests.value.Way.{Way}
use Rattle.command_words.specs.declared.requests.value.Way.TheVariants.{Encode, Decode}
use Rattle.command_words.specs.declared.task.Task.{Task}
use Rattle.command_words.specs.Ask.{Answer, Ask, Asked, Call, CallAsk, Check, Compile, Description, Dump, Explanation, Reference, ReferenceAsk, Show, Upgrade, Value, ValueAsk, ask_of, asking_command}
use Rattle.command_words.specs.Words.{Tells, TellsAsked, TellsCall, TellsCompile, TellsDescription, TellsReference, TellsRefusal, TellsShow, TellsTable, TellsUpgrade, TellsValue}

-- the kinds of commands that ask for something
pub data Kind : Type 0 where
  Marshals : Way → Kind
  Refers : Kind
  Checks : Kind
  Shows : Kind
  Upgrades : Kind
  Compiles : Kind
  Explains : Kind
  Describes : Kind
  Calls : Kind
  Dumps : Kind

abbrev pub kind_of : Asked → Kind
kind_of (Answer (Value value)) = Marshals value.value.way
kind_of (Answer (Reference reference)) = Refers
kind_of (Answer (Check table)) = Checks
kind_of (Answer (Show table types)) = Shows
kind_of (Answer (Upgrade table output)) = Upgrades
kind_of (Answer (Compile source output)) = Compiles
kind_of (Answer (Explanation word)) = Explains
kind_of (Answer (Description reference)) = Describes
kind_of (Call call) = Calls
kind_of (Dump dump) = Dumps

-- that of a name, by its first letter and its length
abbrev pub kind_by : ℕ → ℕ → Kind
kind_by first len =
    if first == 101 then (if len == 6 then Marshals Encode else Explains)
    else if first == 100 then (if len == 6 then Marshals Decode else Dumps)
    else if first == 99 then (if len == 5 then Checks else if len == 7 then Compiles else Calls)
    else if first == 115 then Shows
    else if first == 117 then Upgrades
    else if first == 105 then Refers
    else Describes

abbrev pub kind_in : Text → Kind
kind_in name = kind_by (slice_index name 0) (length name)

of_way : (value : ValueAsk) (way : Way) → value.value.way ≡ way
    → kind_in (asking_command (Answer (Value value))) ≡ Marshals value.value.way
of_way value Encode is = rw is refl
of_way value Decode is = rw is refl

command_is : (asked : Asked) → kind_in (asking_command asked) ≡ kind_of asked
command_is (Answer (Value value)) = of_way value value.value.way refl
command_is asked = refl

-- a command's name says its kind
pub named : (name : Text) (asked : Asked) → name ≡ asking_command asked → kind_of asked ≡ kind_in name
named name asked is = sym (command_is asked) ∙ ap kind_in (sym is)

-- the task answers what is asked for
abbrev pub IsFor : Ask → Option Task → Type 0
IsFor ask result = IsSomeAnd result (λ task. ask_of task ≡ ask)

pub by_value : (way : Way) (ask : Ask) (rows : List Row) (result : Option Task) → kind_of (Answer ask) ≡ Marshals way
    → Tells rows ask
    → ((value : ValueAsk) → value.value.way ≡ way → TellsValue rows value → IsFor (Value value) result)
    → IsFor ask result
by_value way (Value value) rows result is tells found =
    let same : value.value.way ≡ way = cc in found value same tells
by_value way ask rows result is tells found = absurd cc

pub by_reference : (ask : Ask) (rows : List Row) (result : Option Task) → kind_of (Answer ask) ≡ Refers
    → Tells rows ask
    → ((reference : ReferenceAsk) → TellsReference rows reference → IsFor (Reference reference) result)
    → IsFor ask result
by_reference (Reference reference) rows result is tells found = found reference tells
by_reference ask rows result is tells found = absurd cc

pub by_check : (ask : Ask) (rows : List Row) (result : Option Task) → kind_of (Answer ask) ≡ Checks
    → Tells rows ask
    → ((table : Text) → TellsTable rows table → IsFor (Check table) result) → IsFor ask result
by_check (Check table) rows result is tells found = found table tells
by_check ask rows result is tells found = absurd cc

pub by_show : (ask : Ask) (rows : List Row) (result : Option Task) → kind_of (Answer ask) ≡ Shows
    → Tells rows ask
    → ((table : Text) (types : Bool) → TellsShow rows table types → IsFor (Show table types) result)
    → IsFor ask result
by_show (Show table types) rows result is tells found = found table types tells
by_show ask rows result is tells found = absurd cc

pub by_upgrade : (ask : Ask) (rows : List Row) (result : Option Task) → kind_of (Answer ask) ≡ Upgrades
    → Tells rows ask
    → ((table output : Text) → TellsUpgrade rows table output → IsFor (Upgrade table output) result)
    → IsFor ask result
by_upgrade (Upgrade table output) rows result is tells found = found table output tells
by_upgrade ask rows result is tells found = absurd cc

pub by_compile : (ask : Ask) (rows : List Row) (result : Option Task) → kind_of (Answer ask) ≡ Compiles
    → Tells rows ask
    → ((source output : Text) → TellsCompile rows source output → IsFor (Compile source output) result)
    → IsFor ask result
by_compile (Compile source output) rows result is tells found = found source output tells
by_compile ask rows result is tells found = absurd cc

pub by_explanation : (ask : Ask) (rows : List Row) (result : Option Task) → kind_of (Answer ask) ≡ Explains
    → Tells rows ask
    → ((word : Option Text) → TellsRefusal rows word → IsFor (Explanation word) result) → IsFor ask result
by_explanation (Explanation word) rows result is tells found = found word tells
by_explanation ask rows result is tells found = absurd cc

pub by_description : (ask : Ask) (rows : List Row) (result : Option Task) → kind_of (Answer ask) ≡ Describes
    → Tells rows ask
    → ((reference : Text) → TellsDescription rows reference → IsFor (Description reference) result) → IsFor ask result
by_description (Description reference) rows result is tells found = found reference tells
by_description ask rows result is tells found = absurd cc

no_call : (ask : Ask) → kind_of (Answer ask) ≡ Calls → ⊥
no_call (Value value) is = absurd cc
no_call ask is = absurd cc

pub by_call : {A : Type 0} (rows : List Row) (asked : Asked) → kind_of asked ≡ Calls → TellsAsked rows asked
    → ((ask : CallAsk) → asked ≡ Call ask → TellsCall rows ask → A) → A
by_call rows (Call ask) is tells found = found ask refl tells
by_call rows (Answer ask) is tells found = absurd (no_call ask is)
by_call rows (Dump dump) is tells found = absurd cc
