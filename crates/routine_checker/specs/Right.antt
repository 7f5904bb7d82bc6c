-- When the routines of a program are right.
use Rattle.std.specs.Prelude.{◌≡◌, ℕ, ◌+◌, ◌%◌, List, length, Some, slice_get, slice_index_or}
use Rattle.type_graph.specs.declared.node.Node.{Node}
use Rattle.type_graph.specs.Words.{Format}
use Rattle.type_graph.specs.Comparison.{Same}
use Rattle.type_graph.specs.Encoding.{Means}
use Rattle.marshal_program.specs.declared.instr.Routine.{Routine}
use Rattle.marshal_program.specs.Does.{Runs}
use Rattle.routine_checker.specs.Sets.{Among}

-- From each position that is among its entries the routine relates just the tapes and octets that its node means, at
-- every depth, in both byte orders, whatever the gaps may hold; and the octets end at one of the exits of that entry.
pub record IsRight (graph : List Node) (program : List Routine) (number : ℕ) (routine : Routine) : Type 0 where
  pub related : (format : Format) (depth : ℕ)
      → Same (Among routine.entry) (Runs program format depth number) (Means graph format depth routine.node)
  pub ended : (format : Format) (depth p : ℕ) (tape octets : List ℕ)
      → Among routine.entry p
      → Runs program format depth number p tape octets
      → Among (slice_index_or routine.exits (p % 8) 0) (p + length octets)

-- each routine of the program
abbrev pub AreRight : List Node → List Routine → Type 0
AreRight graph program =
    (number : ℕ) (routine : Routine) → slice_get program number ≡ Some routine → IsRight graph program number routine
