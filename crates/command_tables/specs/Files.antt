-- Why octets are refused as a table file, and why a table has none.
use Rattle.std.specs.Prelude.{ℕ, ◌⊎◌, List}
use Rattle.table_file.specs.Table.{TableParts, IsTable}
use Rattle.table_file.specs.TableSpelling.{Spells, SpellsOld}
use Rattle.position_checker.specs.Acceptance.{IsLone}
use Rattle.position_checker.specs.File.{SpellsLong}
use Rattle.command_tables.specs.declared.refusal.Refusal.{Refusal}
use Rattle.command_tables.specs.declared.refusal.Refusal.TheVariants.{NoTable, NotRight, TooLong, NoMemory}

-- the octets spell a table, and not one that has the plain or the joined program of its model alone
pub record SpellsAnother (octets : List ℕ) : Type 0 where
  pub table : TableParts
  pub spelled : Spells table octets ⊎ SpellsOld table octets
  pub another : IsLone table → ⊥

-- the refusal of octets: want of memory, or they are no table's, or they are that of a table that may be wrong
abbrev pub RefusesFile : List ℕ → Refusal → Type 0
RefusesFile octets NoMemory = Unit {0}
RefusesFile octets (NoTable fault) =
    (table : TableParts) → IsTable table → Spells table octets ⊎ SpellsOld table octets → ⊥
RefusesFile octets (NotRight fault) = SpellsAnother octets
RefusesFile octets refusal = ⊥

-- the refusal of a table: want of memory, or no octets spell it, or too many
abbrev pub RefusesTable : TableParts → Refusal → Type 0
RefusesTable table NoMemory = Unit {0}
RefusesTable table (NoTable fault) = (octets : List ℕ) → Spells table octets → ⊥
RefusesTable table TooLong = SpellsLong table
RefusesTable table refusal = ⊥
