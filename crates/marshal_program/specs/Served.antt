-- Which routine serves a node.
use Rattle.std.specs.Prelude.{ℕ, Bool, ◌==◌, ◌&&◌, Option, List, position}
use Rattle.marshal_program.specs.declared.instr.Routine.{Routine}

-- a routine of the node that may start at every position
abbrev pub is_serving : ℕ → Routine → Bool
is_serving node routine = (routine.node == node) && (routine.entry == 255)

-- the number of the first of them in the list
abbrev pub served_by : List Routine → ℕ → Option ℕ
served_by program node = position (is_serving node) program
