use Rattle.std.proofs.Common.{◌≡◌, ◌≤◌, length}
use Rattle.idl_tree.specs.Lists.{parts}
use Rattle.idl_tree.specs.PartsLeft.{parts_left}
use Rattle.lowered_types.specs.Faults.{each}
use Rattle.lowered_operations.specs.Operations.{with_attribute}
use Rattle.lowered_operations.proofs.table.OperationTable.with_silent.Given as goal

abbrev pub invariant-loop-identifier : goal.invariant-loop-identifier
invariant-loop-identifier l = record {
  inside : l.scope.0 ≤ length l.names.entries;
  told : each (with_attribute l.names.entries l.scope.0 l.number l.declared) l.table (parts_left l.identifier-iterator)
      ≡ each (with_attribute l.names.entries l.scope.0 l.number l.declared) l.fn.self (parts l.identifiers);
}
