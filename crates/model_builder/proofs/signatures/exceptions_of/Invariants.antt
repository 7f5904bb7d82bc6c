use Rattle.std.proofs.Common.{◌≡◌, ◌++◌, drop, map}
use Rattle.model_builder.specs.Signatures.{exception_of}
use Rattle.model_builder.proofs.signatures.exceptions_of.Given as goal

-- the exceptions so far, and those that are left
abbrev pub invariant-loop-entry : goal.invariant-loop-entry
invariant-loop-entry l =
    l.list.items ++ map (exception_of l.names) (drop l.entry-index l.exceptions)
    ≡ map (exception_of l.names) l.exceptions
