-- The status with which the program ends on a fault.
use Rattle.std.specs.Prelude.{ℕ}
use Rattle.command_words.specs.declared.mistake.Mistake.TheVariants as mistakes
use Rattle.idl_compiler.specs.declared.fault.CompileFault.TheVariants as sources
use Rattle.command_tables.specs.declared.refusal.Refusal.TheVariants as refusals
use Rattle.call_commands.specs.Causes.{cause_of}
use Rattle.call_client.specs.declared.fault.Cause.{Cause}
use Rattle.call_client.specs.declared.fault.Cause.TheVariants as causes
use Rattle.reference_listing.specs.declared.spelled_references.fault.SpellingFault.TheVariants as spellings
use Rattle.giop_dumps.specs.declared.fault.DumpFault.TheVariants as dumps
use Rattle.giop_words.specs.declared.dump_commands.fault.CaptureFault.TheVariants as captures
use Rattle.broker_sockets.specs.declared.fault.ServeFault.TheVariants as servings
use Rattle.command_files.specs.declared.loaded.NamedFault.{NamedFault}
use Rattle.command_files.specs.declared.loaded.NamedFault.TheVariants as named
use Rattle.idlc_main.specs.declared.fault.Fault.{Fault}
use Rattle.idlc_main.specs.declared.fault.Fault.TheVariants.{Words, NotText, Refused, NotCompiled, NotSpelled, NotDumped, NotCalled, NotServed, NoRefusal, Unwritten}

abbrev pub status_of_cause : Cause → ℕ
status_of_cause causes.Input = 1
status_of_cause causes.Socket = 3
status_of_cause causes.Memory = 4

-- 1 for refused input, 2 for usage, 3 for files, sockets and standard output, 4 for want of memory
abbrev pub status_of : Fault → ℕ
status_of (Words mistakes.NoMemory) = 4
status_of (Refused refusals.NoMemory) = 4
status_of (NotCompiled sources.NoMemory source) = 4
status_of (NotSpelled spellings.NoMemory) = 4
status_of (NotDumped captures.NoMemory) = 4
status_of (NotServed servings.NoMemory) = 4
status_of (Refused (refusals.Unread file)) = 3
status_of (Refused (refusals.Unwritten file)) = 3
status_of (NotDumped (captures.Unread file)) = 3
status_of (NotDumped (captures.CutShort fault)) = 3
status_of (NotServed servings.Socket) = 3
status_of (NotServed servings.Unwritten) = 3
status_of Unwritten = 3
status_of (Words mistake) = 2
status_of NotText = 2
status_of (NoRefusal word) = 2
status_of (NotCalled refusal) = status_of_cause (cause_of refusal)
status_of fault = 1

-- the fault of a name that has no table
abbrev pub fault_of : NamedFault → Fault
fault_of (named.Refused refusal) = Refused refusal
fault_of (named.NotCompiled fault source) = NotCompiled fault source

-- a fault that standard error tells of
abbrev pub IsTold : Fault → Type 0
IsTold Unwritten = ⊥
IsTold (NotServed servings.Unwritten) = ⊥
IsTold (NotDumped (captures.CutShort dumps.Unwritten)) = ⊥
IsTold fault = Unit {0}
