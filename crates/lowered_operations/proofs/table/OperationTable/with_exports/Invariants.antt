use Rattle.std.proofs.Common.{◌≡◌, ◌≤◌, drop, length}
use Rattle.lowered_types.specs.Faults.{each}
use Rattle.lowered_operations.specs.Interfaces.{export}
use Rattle.lowered_operations.proofs.table.OperationTable.with_exports.Given as goal

abbrev pub invariant-loop-export : goal.invariant-loop-export
invariant-loop-export l = record {
  inside : l.scope.0 ≤ length l.names.entries;
  told : each (export l.names.entries l.scope.0) l.table (drop l.export-index l.exports)
      ≡ each (export l.names.entries l.scope.0) l.fn.self l.exports;
}
