-- What stands on an output where a dump is cut short.
use Rattle.std.specs.Prelude.{ℕ, ◌<◌, List, length, Option}
use Rattle.std.specs.Io.KnownBytes.{Appends}
use Rattle.giop_dumps.specs.declared.fault.DumpFault.{DumpFault}
use Rattle.giop_dumps.specs.declared.fault.DumpFault.TheVariants.{Unwritten}

abbrev pub HasLines : List ℕ → Type 0
HasLines text = 0 < length text

-- it held `old` and holds `new`, which is that and lines
pub record HasGrown (old new : Option (List ℕ)) : Type 0 where
  pub lines : List ℕ
  pub some : HasLines lines
  pub appended : Appends old new lines

-- messages were told before the fault, of which an output that can't be written may have parts
abbrev pub IsBehindLines : DumpFault → Option (List ℕ) → Option (List ℕ) → Type 0
IsBehindLines Unwritten old new = Unit {0}
IsBehindLines fault old new = HasGrown old new
