-- The verdict on a table: its first fault, or none.
use Rattle.std.specs.Prelude.{ℕ, zero, suc, List, length, Option, Some, None, slice_get}
use Rattle.std.specs.Option.{option_or}
use Rattle.routine_checker.specs.declared.fault.CheckFault.{CheckFault}
use Rattle.routine_checker.specs.Steps.{program_fault, name_fault}
use Rattle.table_file.specs.declared.table.Which.{Which}
use Rattle.table_file.specs.declared.table.Which.TheVariants.{First, Second}
use Rattle.table_file.specs.Table.{TableParts, program_at, program_number}

-- of the routines of a program
abbrev pub routines_fault : TableParts → Which → Option CheckFault
routines_fault table program =
    program_fault (program_number program) table.model.graph (program_at table program)

-- of a name's node in the program that the name uses
abbrev pub named_fault : TableParts → Option (List ℕ × ℕ) → Option Which → Option CheckFault
named_fault table None program = None
named_fault table (Some name) None = None
named_fault table (Some name) (Some program) = name_fault (program_at table program) name.1

-- of the names at the first n places
abbrev pub names_fault : TableParts → ℕ → Option CheckFault
names_fault table zero = None
names_fault table (suc n) =
    option_or (names_fault table n) (named_fault table (slice_get table.model.names n) (slice_get table.uses n))

-- the routines of the first program are judged first, then those of the second, then the names in order
unfoldable pub table_fault : TableParts → Option CheckFault
table_fault table =
    option_or (option_or (routines_fault table First) (routines_fault table Second))
    (names_fault table (length table.uses))
