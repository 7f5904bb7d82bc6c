use Rattle.std.proofs.Common.{◌≡◌, ◌≤◌, length}
use Rattle.idl_tree.specs.Lists.{parts}
use Rattle.idl_tree.specs.PartsLeft.{parts_left}
use Rattle.lowered_types.specs.Faults.{each}
use Rattle.lowered_types.specs.Declarations.{with_typedef}
use Rattle.lowered_types.proofs.declarations.lower_typedefs.Given as goal

abbrev pub invariant-loop-declarator : goal.invariant-loop-declarator
invariant-loop-declarator l = record {
  inside : l.scope.0 ≤ length l.names.entries;
  told : each (with_typedef l.names.entries l.scope.0 l.number) l.table (parts_left l.declarator-iterator)
      ≡ each (with_typedef l.names.entries l.scope.0 l.number) l.fn.table (parts l.declarators);
}
