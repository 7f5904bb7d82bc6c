-- What stands on standard output where a capture isn't told to its end.
use Rattle.std.specs.Prelude.{◌≡◌, ℕ, List, Option}
use Rattle.giop_words.specs.Faults.{IsOutput}
use Rattle.idlc_main.specs.declared.fault.Fault.{Fault}
use Rattle.idlc_main.specs.declared.fault.Fault.TheVariants.{NotDumped}

-- by what it held before and holds now: what dump_commands say of a capture; else it is as it was
abbrev pub IsDumpEnd : {O : Type 0} → (O → Option (List ℕ)) → Fault → O → O → Type 0
IsDumpEnd contents (NotDumped fault) old new = IsOutput contents fault old new
IsDumpEnd contents fault old new = new ≡ old
