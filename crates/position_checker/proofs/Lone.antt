-- Tables with nothing but the plain or the joined program of their model.
use Rattle.std.proofs.Common.{◌≡◌, ◌<◌, ℕ, List, [], length, Some, slice_get, IsSome, is_some, sym, ap, subst, ◌∙◌, inl, inr}
use Rattle.marshal_program.specs.declared.instr.Routine.{Routine}
use Rattle.marshal_program.specs.Served.{served_by}
use Rattle.marshal_program.proofs.PlainPlaces.{plain_serves}
use Rattle.marshal_program.proofs.JoinedPlaces.{joined_serves}
use Rattle.type_graph.specs.declared.node.Node.{Node}
use Rattle.routine_checker.specs.Right.{AreRight}
use Rattle.table_file.specs.declared.table.Which.{Which}
use Rattle.table_file.specs.declared.table.Which.TheVariants.{First}
use Rattle.table_file.specs.Table.{TableParts, program_at}
use Rattle.position_checker.specs.Acceptance.{IsLone}

-- a program without routines is right
pub empty_is_right : (graph : List Node) (program : List Routine) → program ≡ [] → AreRight graph program
empty_is_right graph program empty number routine there =
    let none : slice_get [] number ≡ Some routine =
    subst (λ (p : List Routine). slice_get p number ≡ Some routine) empty there in absurd cc

-- a lone program serves each node of the graph
pub lone_serves : (table : TableParts) → IsLone table → (program : Which) (node : ℕ) → program ≡ First
    → node < length table.model.graph
    → IsSome (served_by (program_at table program) node)
lone_serves table lone program node is_first within =
    subst (λ (u : Which). IsSome (served_by (program_at table u) node)) (sym is_first)
    (elim lone.first [
      | inl plain ↦ ap is_some (ap (λ (p : List Routine). served_by p node) plain
          ∙ plain_serves table.model.graph node within)
      | inr joined ↦ ap is_some (ap (λ (p : List Routine). served_by p node) joined
          ∙ joined_serves table.model.graph node within)
    ])
