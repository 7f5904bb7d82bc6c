use Rattle.std.proofs.Common.{◌≡◌, ◌++◌, map}
use Rattle.idl_tree.specs.Lists.{parts}
use Rattle.idl_tree.specs.PartsLeft.{parts_left}
use Rattle.name_table.specs.Search.{word}
use Rattle.lowered_types.proofs.simple.names_of.Given as goal

-- the names so far, and those that are left
abbrev pub invariant-loop-identifier : goal.invariant-loop-identifier
invariant-loop-identifier l = l.names.items ++ map word (parts_left l.identifier-iterator)
    ≡ map word (parts l.identifiers)
