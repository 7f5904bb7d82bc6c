-- How the code follows a routine: its work once, and then from each entry the places.
use Rattle.std.specs.Prelude.{ℕ, zero, suc, ◌≡◌, ◌≤◌, true, false, List, [], ◌∷◌, drop, length, slice_get, Option, Some, None}
use Rattle.type_graph.specs.declared.node.Node.{Node}
use Rattle.marshal_program.specs.declared.instr.Instr.{Instr}
use Rattle.marshal_program.specs.declared.instr.Routine.{Routine}
use Rattle.routine_checker.specs.declared.fault.RoutinePlace.{RoutinePlace}
use Rattle.routine_checker.specs.declared.fault.CheckFault.TheVariants.{WrongWork}
use Rattle.routine_checker.specs.declared.check.Taken.{Taken}
use Rattle.routine_checker.specs.declared.step.Reached.{Reached}
use Rattle.routine_checker.specs.Taking.{and_then, taken, is_done_within, is_piece, pieces}
use Rattle.routine_checker.specs.Steps.{Judged, followed, ended}

-- what an instruction leaves of the work, if it is there
abbrev pub takes : List Node → List Routine → Option Instr → List ℕ → Option (List ℕ)
takes graph program None work = None
takes graph program (Some instr) work = taken (pieces instr) (is_piece graph program instr) graph work

-- what the first n instructions leave
unfoldable pub work_behind : List Node → List Routine → List Instr → ℕ → List ℕ → Option (List ℕ)
work_behind graph program code zero work = Some work
work_behind graph program code (suc n) work =
    and_then (takes graph program (slice_get code n)) (work_behind graph program code n work)

abbrev pub state_of : List ℕ → Reached → Judged
state_of work reached = record { work = work; places = reached.places; gap = reached.gap }

-- So many instructions do work of the routine's node: where that isn't all, the code that is left is at fault for it.
pub record IsTaken (graph : List Node) (program : List Routine) (routine : Routine) (taken : Taken) : Type 0 where
  pub rest : List ℕ
  pub behind : work_behind graph program routine.code taken.instrs (routine.node ∷ []) ≡ Some rest
  pub within : taken.instrs ≤ length routine.code
  pub lacks : taken.is_all ≡ false → (at : RoutinePlace) (entry : ℕ) (reached : Reached)
      → ended graph at routine entry
      (followed graph program at taken.instrs (drop taken.instrs routine.code) (state_of rest reached))
      ≡ Some (WrongWork at taken.instrs)
  pub whole : taken.is_all ≡ true → (taken.instrs ≡ length routine.code) × (is_done_within 64 graph rest ≡ true)
