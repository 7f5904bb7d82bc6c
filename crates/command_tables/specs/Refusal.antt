-- What the faults of other calls are to a command.
use Rattle.std.specs.Prelude.{Bool, true, false}
use Rattle.program_steps.specs.declared.fault.RunFault.{RunFault}
use Rattle.program_steps.specs.declared.fault.RunFault.TheVariants as runs
use Rattle.marshal_program.specs.declared.fault.TableFault.{TableFault}
use Rattle.marshal_program.specs.declared.fault.TableFault.TheVariants as files
use Rattle.position_checker.specs.declared.file.FileFault.{FileFault}
use Rattle.position_checker.specs.declared.file.FileFault.TheVariants as written
use Rattle.routine_checker.specs.declared.fault.CheckFault.{CheckFault}
use Rattle.routine_checker.specs.declared.fault.CheckFault.TheVariants as checks
use Rattle.reference_texts.specs.declared.fault.ReferenceFault.{ReferenceFault}
use Rattle.reference_texts.specs.declared.fault.ReferenceFault.TheVariants as references
use Rattle.value_text.specs.declared.fault.ReadFault.{ReadFault}
use Rattle.value_text.specs.declared.fault.ReadFault.TheVariants as texts
use Rattle.command_tables.specs.declared.refusal.Refusal.{Refusal}
use Rattle.command_tables.specs.declared.refusal.Refusal.TheVariants.{NoTable, NotRight, Refused, NoReference, NoMemory, TooLong, Unsaid}

abbrev pub refusal_of_run : RunFault → Refusal
refusal_of_run runs.NoMemory = NoMemory
refusal_of_run fault = Refused fault

abbrev pub refusal_of_file : TableFault → Refusal
refusal_of_file files.NoMemory = NoMemory
refusal_of_file fault = NoTable fault

abbrev pub refusal_of_table : FileFault → Refusal
refusal_of_table (written.Unspelled fault) = NoTable fault
refusal_of_table written.TooLong = TooLong
refusal_of_table written.NoMemory = NoMemory

abbrev pub refusal_of_check : CheckFault → Refusal
refusal_of_check checks.NoMemory = NoMemory
refusal_of_check fault = NotRight fault

abbrev pub refusal_of_reference : ReferenceFault → Refusal
refusal_of_reference references.NoMemory = NoMemory
refusal_of_reference fault = NoReference fault

abbrev pub refusal_of_text : ReadFault → Refusal
refusal_of_text texts.NoMemory = NoMemory
refusal_of_text (texts.Refused fault) = Unsaid fault

-- whether memory was wanted
abbrev pub wants_memory : Refusal → Bool
wants_memory NoMemory = true
wants_memory fault = false

-- a refusal that a run may have
abbrev pub IsOfRun : Refusal → Type 0
IsOfRun (Refused fault) = Unit {0}
IsOfRun NoMemory = Unit {0}
IsOfRun refusal = ⊥

-- a refusal of octets that are to be a right table
abbrev pub IsOfTable : Refusal → Type 0
IsOfTable (NoTable fault) = Unit {0}
IsOfTable (NotRight fault) = Unit {0}
IsOfTable NoMemory = Unit {0}
IsOfTable refusal = ⊥
