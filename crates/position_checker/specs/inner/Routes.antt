-- What an accepted table keeps for each node.
use Rattle.std.specs.Prelude.{◌≡◌, ℕ, ◌<◌, true, List, length, Option, Some, None, IfSome, slice_get, slice_index_or, is_some}
use Rattle.marshal_program.specs.declared.instr.Routine.{Routine}
use Rattle.marshal_program.specs.Served.{served_by}
use Rattle.type_model.specs.Names.{IsNamed}
use Rattle.table_file.specs.declared.table.Which.{Which}
use Rattle.table_file.specs.Table.{TableParts}
use Rattle.position_checker.specs.declared.routes.Route.{Route}
use Rattle.position_checker.specs.declared.routes.Serving.{Serving}
use Rattle.position_checker.specs.Acceptance.{Serves, Uses}

-- it is that of the routine that serves the node, and all names of the node use its program
pub record IsRoute (table : TableParts) (node : ℕ) (route : Route) : Type 0 where
  pub serves : Serves table node route.program route.routine
  pub alone : (program : Which) → Uses table node program → program ≡ route.program

-- each node with a name has its route
pub record AreRoutes (table : TableParts) (routes : List (Option Route)) : Type 0 where
  pub there : (node : ℕ) → IsNamed table.model.names node → is_some (slice_index_or routes node None) ≡ true
  pub right : (node : ℕ) → IfSome (slice_index_or routes node None) (IsRoute table node)

-- for each node below the count the routine of the program that serves it
abbrev pub AreServed : List Routine → ℕ → List (Option ℕ) → Type 0
AreServed program count served = (node : ℕ) → node < count → slice_get served node ≡ Some (served_by program node)

-- of both programs
pub record IsServing (table : TableParts) (serving : Serving) : Type 0 where
  pub first : AreServed table.first (length table.model.graph) serving.first.items
  pub second : AreServed table.second (length table.model.graph) serving.second.items
