use Rattle.std.proofs.Common.{◌≡◌, ◌≤◌, [], length}
use Rattle.idl_tree.specs.Lists.{parts}
use Rattle.idl_tree.specs.PartsLeft.{parts_left}
use Rattle.lowered_types.specs.Faults.{each}
use Rattle.lowered_operations.specs.Operations.{with_exception}
use Rattle.lowered_operations.proofs.raised.find_raised.Given as goal

-- the places so far, and those of the names that are left
abbrev pub invariant-loop-name : goal.invariant-loop-name
invariant-loop-name l = record {
  inside : l.scope.0 ≤ length l.names.entries;
  told : each (with_exception l.names.entries l.types l.scope.0) l.places.items (parts_left l.name-iterator)
      ≡ each (with_exception l.names.entries l.types l.scope.0) [] (parts l.raises);
}
