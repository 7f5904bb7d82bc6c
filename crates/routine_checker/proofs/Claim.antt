-- What is claimed of the code that is still to come, and of one instruction with the pieces that it takes.
use Rattle.std.proofs.Common.{◌≡◌, ℕ, ◌-◌, ◌+◌, ◌<◌, ◌≤◌, ◌%◌, List, length, Some, slice_get, slice_index_or}
use Rattle.type_graph.specs.declared.node.Node.{Node}
use Rattle.type_graph.specs.Words.{Format}
use Rattle.type_graph.specs.Relation.{Then, Chain}
use Rattle.type_graph.specs.Comparison.{Positions, Same, Ends}
use Rattle.type_graph.specs.Atoms.{Gap}
use Rattle.type_graph.specs.Encoding.{Means}
use Rattle.marshal_program.specs.declared.instr.Instr.{Instr}
use Rattle.marshal_program.specs.declared.instr.Routine.{Routine}
use Rattle.marshal_program.specs.Does.{Does, Runs}
use Rattle.routine_checker.specs.Sets.{Among}
use Rattle.routine_checker.specs.Steps.{Judged, ends}

-- the routine is right at one depth, in one format
pub record IsRightAt (graph : List Node) (program : List Routine) (format : Format) (depth number : ℕ)
    (routine : Routine) : Type 0 where
  pub related : Same (Among routine.entry) (Runs program format depth number) (Means graph format depth routine.node)
  pub ended : (p : ℕ) (tape octets : List ℕ) → Among routine.entry p → Runs program format depth number p tape octets
      → Among (slice_index_or routine.exits (p % 8) 0) (p + length octets)

-- the routines of a lower rank are right at this depth; where values have another depth inside, all are right there
pub record Assumes (graph : List Node) (program : List Routine) (format : Format) (depth rank : ℕ) : Type 0 where
  pub lower : (number : ℕ) (routine : Routine) → slice_get program number ≡ Some routine → routine.rank < rank
      → IsRightAt graph program format depth number routine
  pub deeper : (number : ℕ) (routine : Routine) → slice_get program number ≡ Some routine → 1 ≤ depth
      → IsRightAt graph program format (depth - 1) number routine

-- the gap that is made and the code behind it relate what the work means, and the octets of the work end where they may
pub record Claim (graph : List Node) (program : List Routine) (format : Format) (depth : ℕ) (X : Positions)
    (code : List Instr) (state : Judged) : Type 0 where
  pub same : Same (Among state.places)
      (Then (Gap format state.gap) (Chain (Does (Runs program format) format depth) code))
      (Chain (Means graph format depth) state.work)
  pub ends : Ends (Among state.places) X (Chain (Means graph format depth) state.work)

-- the gap that is made and one instruction relate what the nodes that it takes mean, and these end where the checker says
pub record DoesPieces (graph : List Node) (program : List Routine) (format : Format) (depth : ℕ) (instr : Instr)
    (state : Judged) (numbers : List ℕ) : Type 0 where
  pub same : Same (Among state.places) (Then (Gap format state.gap) (Does (Runs program format) format depth instr))
      (Chain (Means graph format depth) numbers)
  pub ended : Ends (Among state.places) (Among (ends program instr state.places state.gap))
      (Chain (Means graph format depth) numbers)
