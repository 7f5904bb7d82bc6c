-- Where octets stop being those of a table file.
use Rattle.std.specs.Prelude.{◌≡◌, ◌⊎◌, ◌<◌, ◌≤◌, ℕ, suc, List, ◌++◌, length, take}
use Rattle.table_file.specs.Table.{TableParts}
use Rattle.table_file.specs.TableSpelling.{Spells, SpellsOld}

-- They spell parts of a table, whether or not these keep its rules.
pub record IsForm (octets : List ℕ) : Type 0 where
  pub table : TableParts
  pub each : length table.uses ≡ length table.model.names
  pub spelled : Spells table octets ⊎ SpellsOld table octets

-- They begin such a file.
pub record IsFront (octets : List ℕ) : Type 0 where
  pub more : List ℕ
  pub form : IsForm (octets ++ more)

-- So many of them begin a file; with the next one they don't, or there is no next one and they are no whole file.
pub record StopsAt (octets : List ℕ) (at : ℕ) : Type 0 where
  pub within : at ≤ length octets
  pub front : IsFront (take at octets)
  pub next : at < length octets → IsFront (take (suc at) octets) → ⊥
  pub whole : IsForm octets → ⊥
