use Rattle.std.proofs.Common.{◌≡◌, ◌≤◌, length}
use Rattle.idl_tree.specs.PartsLeft.{parts_left}
use Rattle.lowered_types.specs.Faults.{each}
use Rattle.lowered_types.specs.Lowered.{already}
use Rattle.lowered_types.specs.Types.{with_members_of, with_declarator, with_declarators}
use Rattle.lowered_types.proofs.types.lower_declarators.Given as goal

abbrev pub invariant-loop-declarator : goal.invariant-loop-declarator
invariant-loop-declarator l = record {
  inside : l.scope.0 ≤ length l.names.entries;
  told : each (with_declarator l.names.entries l.scope.0 l.number) (with_members_of l.table l.members)
      (parts_left l.declarator-iterator)
      ≡ with_declarators l.names.entries l.scope.0 (already l.fn.table l.number) l.fn.members l.declarators;
}
