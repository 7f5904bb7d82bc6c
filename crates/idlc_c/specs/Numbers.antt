-- The numbers that C has of answers.
use Rattle.std.specs.Prelude.{ℕ, Result, Ok, Err}
use Rattle.marshal_program.specs.declared.fault.TableFault.{TableFault}
use Rattle.marshal_program.specs.declared.fault.TableFault.TheVariants as files
use Rattle.program_steps.specs.declared.fault.RunFault.{RunFault}
use Rattle.program_steps.specs.declared.fault.RunFault.TheVariants as runs
use Rattle.routine_checker.specs.declared.fault.RoutinePlace.{RoutinePlace}
use Rattle.routine_checker.specs.declared.fault.CheckFault.{CheckFault}
use Rattle.routine_checker.specs.declared.fault.CheckFault.TheVariants as checks
use Rattle.value_text.specs.declared.fault.Wanted.{Wanted}
use Rattle.value_text.specs.declared.fault.Wanted.TheVariants as wanted
use Rattle.idlc_c.specs.declared.refusal.RefusalPlace.{RefusalPlace}
use Rattle.idlc_c.specs.declared.source_place.SourcePlace.{SourcePlace}
use Rattle.idlc_c.specs.declared.refusal.Refusal.{Refusal}
use Rattle.idlc_c.specs.declared.refusal.Refusal.TheVariants.{NoMemory, NotLoaded, NotNamed, NoRoom, TooLong, NoTable, NotRight, NoValue, NoText}

abbrev pub number_of_file : TableFault → ℕ
number_of_file files.NotATable = 50
number_of_file files.Version = 51
number_of_file files.BadNumber = 52
number_of_file files.RankRises = 53
number_of_file files.Trailing = 54
number_of_file files.EmptyRoutine = 55
number_of_file files.NoMemory = 42

abbrev pub number_of_run : RunFault → ℕ
number_of_run runs.Short = 60
number_of_run runs.BadBool = 61
number_of_run runs.BadEnum = 62
number_of_run runs.BadLength = 63
number_of_run runs.NoTerminator = 64
number_of_run runs.ZeroInside = 65
number_of_run runs.OverBound = 66
number_of_run runs.TooDeep = 67
number_of_run runs.TapeLeft = 68
number_of_run runs.NoMemory = 42

abbrev pub number_of_text : Wanted → ℕ
number_of_text wanted.Json = 110
number_of_text wanted.Whole = 111
number_of_text wanted.Boolean = 112
number_of_text wanted.Char = 113
number_of_text wanted.Text = 114
number_of_text wanted.Enumerator = 115
number_of_text wanted.Digits = 116
number_of_text wanted.List = 117
number_of_text wanted.Members = 118
number_of_text wanted.Member = 119
number_of_text wanted.OtherMember = 120
number_of_text wanted.AllMembers = 121
number_of_text wanted.Count = 122
number_of_text wanted.Depth = 123
number_of_text wanted.End = 124

abbrev pub place_in_routine : ℕ → RoutinePlace → ℕ → RefusalPlace
place_in_routine number at place =
    record { number = number; program = at.program; routine = at.routine; place = place; node = 0 }

abbrev pub place_of_node : ℕ → ℕ → RefusalPlace
place_of_node number node = record { number = number; program = 0; routine = 0; place = 0; node = node }

abbrev pub place_of_check : CheckFault → RefusalPlace
place_of_check (checks.WrongWork at instr) = place_in_routine 80 at instr
place_of_check (checks.WrongPadding at instr) = place_in_routine 81 at instr
place_of_check (checks.EntryOutside at instr) = place_in_routine 82 at instr
place_of_check (checks.ExitsTooSmall at entry) = place_in_routine 83 at entry
place_of_check (checks.NoRoutine node) = place_of_node 84 node
place_of_check (checks.NamedEntryNotFull node) = place_of_node 85 node
place_of_check checks.NoMemory = place_of_node 42 0

abbrev pub number_of : Refusal → ℕ
number_of NoMemory = 42
number_of NotLoaded = 43
number_of NotNamed = 44
number_of (NoRoom needed) = 45
number_of TooLong = 46
number_of (NoTable fault) = number_of_file fault
number_of (NotRight fault) = (place_of_check fault).number
number_of (NoValue fault) = number_of_run fault
number_of (NoText unsaid) = number_of_text unsaid.wanted

abbrev pub place_of : Refusal → RefusalPlace
place_of (NotRight fault) = place_of_check fault
place_of refusal = place_of_node (number_of refusal) 0

abbrev pub number_of_answer : {A : Type 0} → Result A Refusal → ℕ
number_of_answer (Ok given) = 0
number_of_answer (Err refusal) = number_of refusal

-- what would have been handed over is so long, where there is no room for it
abbrev pub length_needed : Refusal → ℕ → ℕ
length_needed (NoRoom needed) old = needed
length_needed refusal old = old

-- what was handed over is so long, or would have been
abbrev pub length_of : Result ℕ Refusal → ℕ → ℕ
length_of (Ok len) old = len
length_of (Err refusal) old = length_needed refusal old

-- the same where the length of what was handed over is told already
abbrev pub length_asked : Result (Unit {0}) Refusal → ℕ → ℕ
length_asked (Ok given) old = old
length_asked (Err refusal) old = length_needed refusal old

-- where a text was refused, if it was
abbrev pub place_told : Result ℕ Refusal → SourcePlace → SourcePlace
place_told (Err (NoText unsaid)) old = record {
  number = number_of_text unsaid.wanted;
  line = unsaid.place.line;
  column = unsaid.place.column;
}
place_told answer old = old
