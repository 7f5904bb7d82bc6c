-- Faults of captures, and what stands on the output then.
use Rattle.std.specs.Prelude.{◌≡◌, ◌⊎◌, ℕ, Bool, true, false, List, Option}
use Rattle.giop_dumps.specs.declared.fault.DumpFault.{DumpFault}
use Rattle.giop_dumps.specs.declared.fault.DumpFault.TheVariants as dumps
use Rattle.giop_dumps.specs.declared.fault.CutShort.{CutShort as Cut}
use Rattle.giop_dumps.specs.Outputs.{HasGrown}
use Rattle.giop_words.specs.declared.dump_commands.fault.CaptureFault.{CaptureFault}
use Rattle.giop_words.specs.declared.dump_commands.fault.CaptureFault.TheVariants.{Unread, NotCapture, BadLine, NoMemory, CutShort}

-- the fault of a dump that ended before its capture did, by whether messages were told before
abbrev pub fault_by : Bool → DumpFault → CaptureFault
fault_by false (dumps.BadCapture line) = BadLine line
fault_by false dumps.NoMemory = NoMemory
fault_by told fault = CutShort fault

abbrev pub fault_of : Cut → CaptureFault
fault_of cut = fault_by cut.told cut.fault

-- nothing is told before these
abbrev pub IsUntold : CaptureFault → Type 0
IsUntold (CutShort fault) = ⊥
IsUntold fault = Unit {0}

-- What stands on the output, by what it held before and holds now. Only where messages were told before is a dump cut
-- short; by a file that can't be read on it may be before any, and an output that can't be written may have parts.
abbrev pub IsOutput : {O : Type 0} → (O → Option (List ℕ)) → CaptureFault → O → O → Type 0
IsOutput contents (CutShort dumps.Unwritten) old new = Unit {0}
IsOutput contents (CutShort dumps.Unread) old new = (new ≡ old) ⊎ HasGrown (contents old) (contents new)
IsOutput contents (CutShort fault) old new = HasGrown (contents old) (contents new)
IsOutput contents fault old new = new ≡ old
