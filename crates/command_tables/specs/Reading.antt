-- Why a file isn't read whole.
use Rattle.std.specs.Prelude.{◌<◌, ℕ, List, length}
use Rattle.command_tables.specs.declared.whole_read.ReadFault.{ReadFault}
use Rattle.command_tables.specs.declared.whole_read.ReadFault.TheVariants.{TooLong}

-- octets were read that are more than the limit
pub record HasMore (IsRead : List ℕ → Type 0) (limit : ℕ) : Type 0 where
  pub octets : List ℕ
  pub read : IsRead octets
  pub more : limit < length octets

abbrev pub IsReadFault : (List ℕ → Type 0) → ℕ → ReadFault → Type 0
IsReadFault IsRead limit TooLong = HasMore IsRead limit
IsReadFault IsRead limit fault = Unit {0}
