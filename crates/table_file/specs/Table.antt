-- A table: a model, two programs, and which of them serves each name.
use Rattle.std.specs.Prelude.{◌≡◌, ℕ, List, length, slice_get, Some}
use Rattle.type_model.specs.ModelRules.{Parts, IsModel}
use Rattle.marshal_program.specs.declared.instr.Routine.{Routine}
use Rattle.marshal_program.specs.ProgramRules.{IsProgram}
use Rattle.table_file.specs.declared.table.Which.{Which}
use Rattle.table_file.specs.declared.table.Which.TheVariants.{First, Second}

-- the parts of a table; uses are in the order of the names
pub record TableParts : Type 0 where
  pub model : Parts
  pub first : List Routine
  pub second : List Routine
  pub uses : List Which

abbrev pub table_of : Parts → List Routine → List Routine → List Which → TableParts
table_of model first second uses = record { model = model; first = first; second = second; uses = uses }

-- 0 for the first program, 1 for the second
abbrev pub program_number : Which → ℕ
program_number First = 0
program_number Second = 1

-- the program of a use
abbrev pub program_at : TableParts → Which → List Routine
program_at table First = table.first
program_at table Second = table.second

-- names of one node, at any two places, have one use
abbrev pub AreAlike : List (List ℕ × ℕ) → List Which → Type 0
AreAlike names uses = (i j : ℕ) (one other : List ℕ × ℕ) → slice_get names i ≡ Some one → slice_get names j ≡ Some other
    → one.1 ≡ other.1 → slice_get uses i ≡ slice_get uses j

-- a use for each name, the same for names of one node
pub record AreUses (names : List (List ℕ × ℕ)) (uses : List Which) : Type 0 where
  pub each : length uses ≡ length names
  pub alike : AreAlike names uses

-- The rules of a table.
pub record IsTable (table : TableParts) : Type 0 where
  pub model : IsModel table.model
  pub first : IsProgram table.first
  pub second : IsProgram table.second
  pub uses : AreUses table.model.names table.uses
