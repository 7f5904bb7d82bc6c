use Rattle.std.proofs.Common.{◌≡◌, ◌+◌, ◌++◌, length, All, IfSome}
use Rattle.std.specs.Vec.Iter.{into_iter_items}
use Rattle.model_builder.specs.Signatures.{interfaces_from}
use Rattle.model_builder.specs.inner.Theirs.{IsOffered}
use Rattle.model_builder.proofs.signatures.interfaces_of.Given as goal

-- the interfaces so far, and those of the entries that are left
abbrev pub invariant-loop-offered : goal.invariant-loop-offered
invariant-loop-offered l = record {
  told : l.list.items ++ interfaces_from l.names l.entry (into_iter_items l.offered-iterator)
      ≡ interfaces_from l.names 0 l.fn.offered.items;
  count : l.entry + length (into_iter_items l.offered-iterator) ≡ length l.fn.offered.items;
  theirs : All (λ offered. IfSome offered (IsOffered (length l.names.entries))) (into_iter_items l.offered-iterator);
}
