use Rattle.std.proofs.Common.{◌≡◌, ◌++◌, drop, map}
use Rattle.model_builder.specs.Signatures.{id_of}
use Rattle.model_builder.proofs.signatures.ids_of.Given as goal

-- the ids so far, and those of the entries that are left
abbrev pub invariant-loop-entry : goal.invariant-loop-entry
invariant-loop-entry l =
    l.ids.items ++ map (id_of l.names) (drop l.entry-index l.entries) ≡ map (id_of l.names) l.entries
