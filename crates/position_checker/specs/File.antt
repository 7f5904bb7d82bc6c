-- Why a table has no file.
use Rattle.std.specs.Prelude.{ℕ, ◌<◌, List, length}
use Rattle.table_file.specs.Table.{TableParts}
use Rattle.table_file.specs.TableSpelling.{Spells}
use Rattle.position_checker.specs.declared.file.FileFault.{FileFault}
use Rattle.position_checker.specs.declared.file.FileFault.TheVariants.{Unspelled, TooLong, NoMemory}

-- the table is spelled by more octets than a file may have
pub record SpellsLong (table : TableParts) : Type 0 where
  pub octets : List ℕ
  pub spelled : Spells table octets
  pub long : 16777216 < length octets

-- want of memory, or no octets spell it, or too many
abbrev pub HasNoFile : TableParts → FileFault → Type 0
HasNoFile table (Unspelled fault) = (octets : List ℕ) → Spells table octets → ⊥
HasNoFile table TooLong = SpellsLong table
HasNoFile table NoMemory = Unit {0}
