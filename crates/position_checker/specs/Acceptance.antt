-- When a table is right, and what a name of it stands for.
use Rattle.std.specs.Prelude.{◌≡◌, ℕ, ◌⊎◌, List, [], All, IsSome, Some, slice_get}
use Rattle.marshal_program.specs.Plain.{plain_program}
use Rattle.marshal_program.specs.Joined.{joined_program}
use Rattle.marshal_program.specs.Served.{served_by}
use Rattle.routine_checker.specs.Right.{AreRight}
use Rattle.table_file.specs.declared.table.Which.{Which}
use Rattle.table_file.specs.declared.table.Which.TheVariants.{First}
use Rattle.table_file.specs.Table.{TableParts, program_at}

-- the name at some place has this node, and uses this program
pub record Uses (table : TableParts) (node : ℕ) (program : Which) : Type 0 where
  pub place : ℕ
  pub name : List ℕ
  pub named : slice_get table.model.names place ≡ Some (name, node)
  pub used : slice_get table.uses place ≡ Some program

-- Each routine of both programs relates just what its node means, from each of its entries; and in the program that a
-- name uses its node has a routine that may start everywhere.
pub record IsRight (table : TableParts) : Type 0 where
  pub first : AreRight table.model.graph table.first
  pub second : AreRight table.model.graph table.second
  pub served : (node : ℕ) (program : Which) → Uses table node program
      → IsSome (served_by (program_at table program) node)

-- this routine of this program serves the node: the first with the node that may start everywhere, in the program that
-- the node's names use
pub record Serves (table : TableParts) (node : ℕ) (program : Which) (routine : ℕ) : Type 0 where
  pub used : Uses table node program
  pub first_is : served_by (program_at table program) node ≡ Some routine

-- the first program is the plain or the joined program of the graph, and nothing else is there
pub record IsLone (table : TableParts) : Type 0 where
  pub first : (table.first ≡ plain_program table.model.graph) ⊎ (table.first ≡ joined_program table.model.graph)
  pub second : table.second ≡ []
  pub uses : All (λ program. program ≡ First) table.uses
