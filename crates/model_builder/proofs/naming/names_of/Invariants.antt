use Rattle.std.proofs.Common.{◌≡◌, ◌-◌, ◌++◌, length}
use Rattle.std.specs.List.{flat_map, range_with_len}
use Rattle.model_builder.specs.Naming.{names_at, names_of}
use Rattle.model_builder.proofs.naming.names_of.Given as goal

-- the names so far, and those of the entries that are left
abbrev pub invariant-loop-entry : goal.invariant-loop-entry
invariant-loop-entry l =
    l.list.items ++ flat_map (names_at l.names.entries l.types)
    (range_with_len l.entry (length l.names.entries - l.entry))
    ≡ names_of l.names.entries l.types
