-- A table file: a table and its octets.
use Rattle.std.specs.Prelude.{◌≡◌, ℕ, List, [], ◌∷◌, Option, Some}
use Rattle.std.specs.Fmt.{◌++?◌}
use Rattle.std.specs.List.{AllByRecursion}
use Rattle.table_file.specs.declared.table.Which.{Which}
use Rattle.table_file.specs.declared.table.Which.TheVariants.{First}
use Rattle.table_file.specs.Octets.{spelled_octet, spelled_each}
use Rattle.table_file.specs.Spelling.{spelled_model, spelled_program}
use Rattle.table_file.specs.Table.{TableParts, program_number}

-- the number of the program, as an octet
abbrev pub spelled_which : Which → Option (List ℕ)
spelled_which which = spelled_octet (program_number which)

-- "IDLT" and the version
abbrev pub spelled_start : ℕ → Option (List ℕ)
spelled_start version = Some (73 ∷ 68 ∷ 76 ∷ 84 ∷ version ∷ [])

-- Version 2: the model, both programs, and the number of its program for each name, in order.
abbrev pub spelled_table : TableParts → Option (List ℕ)
spelled_table table =
    spelled_start 2 ++? spelled_model table.model ++? spelled_program table.first ++? spelled_program table.second
    ++? spelled_each spelled_which table.uses

-- Version 1: the model and one program.
abbrev pub spelled_old_table : TableParts → Option (List ℕ)
spelled_old_table table = spelled_start 1 ++? spelled_model table.model ++? spelled_program table.first

abbrev pub Spells : TableParts → List ℕ → Type 0
Spells table octets = spelled_table table ≡ Some octets

-- A file of version 1 stands for a table whose second program has no routine, and whose names all use the first.
pub record SpellsOld (table : TableParts) (octets : List ℕ) : Type 0 where
  pub spelled : spelled_old_table table ≡ Some octets
  pub empty : table.second ≡ []
  pub unused : AllByRecursion (λ use_. use_ ≡ First) table.uses
