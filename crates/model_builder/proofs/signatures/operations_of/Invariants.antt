use Rattle.std.proofs.Common.{◌≡◌, ◌++◌, map, length, All}
use Rattle.std.specs.Vec.Iter.{into_iter_items}
use Rattle.model_builder.specs.Signatures.{operation_of}
use Rattle.model_builder.specs.inner.Theirs.{IsSignature}
use Rattle.model_builder.proofs.signatures.operations_of.Given as goal

-- the operations so far, and those that are left
abbrev pub invariant-loop-signature : goal.invariant-loop-signature
invariant-loop-signature l = record {
  told : l.list.items ++ map (operation_of l.names.entries) (into_iter_items l.signature-iterator)
      ≡ map (operation_of l.names.entries) l.fn.signatures.items;
  theirs : All (IsSignature (length l.names.entries)) (into_iter_items l.signature-iterator);
}
