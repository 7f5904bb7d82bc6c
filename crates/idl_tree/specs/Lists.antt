-- The parts of a list of one part or more, in order.
use Rattle.std.specs.Prelude.{List, ◌∷◌, Option, Some, None}
use Rattle.std.specs.Borrow.{Bor}
use Rattle.idl_tree.specs.declared.names.Listed.{Listed}

abbrev pub parts : {T : Type 0} → Listed T → List T
parts l = l.first ∷ l.rest.items

-- a first part, if there is one yet, and others
abbrev pub first_and : {T : Type 0} → Option (Bor T) → List T → List T
first_and None rest = rest
first_and (Some x) rest = x.now ∷ rest
