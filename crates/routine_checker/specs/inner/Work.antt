-- Work as the code keeps it: a stack whose last element comes first.
use Rattle.std.specs.Prelude.{ℕ, Bool, List, [], ◌∷◌, ◌++◌, Option, Some, None, replicate}
use Rattle.routine_checker.specs.declared.work.NodesTaken.{NodesTaken}
use Rattle.routine_checker.specs.declared.work.Item.{Item}
use Rattle.routine_checker.specs.declared.work.Item.TheVariants.{Copies, Numbers}
use Rattle.routine_checker.specs.Taking.{is_piece}

-- the nodes that an instruction takes
abbrev pub wants : NodesTaken → ℕ → Bool
wants wanted = is_piece wanted.nodes.now wanted.program.now wanted.instr.now

abbrev pub held : Item → List ℕ
held (Copies number n) = replicate n number
held (Numbers numbers) = numbers.now

abbrev pub held_of : Option Item → Option (List ℕ)
held_of None = None
held_of (Some item) = Some (held item)

abbrev pub work_of : List Item → List ℕ
work_of [] = []
work_of (item ∷ above) = work_of above ++ held item
