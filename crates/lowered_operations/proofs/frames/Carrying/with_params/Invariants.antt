use Rattle.std.proofs.Common.{◌≡◌, ◌≤◌, length}
use Rattle.idl_tree.specs.Lists.{parts}
use Rattle.idl_tree.specs.PartsLeft.{parts_left}
use Rattle.lowered_types.specs.Faults.{each}
use Rattle.lowered_operations.specs.Frames.{with_param}
use Rattle.lowered_operations.proofs.frames.Carrying.with_params.Given as goal

abbrev pub invariant-loop-param : goal.invariant-loop-param
invariant-loop-param l = record {
  inside : l.scope.0 ≤ length l.names.entries;
  told : each (with_param l.names.entries l.scope.0) l.carrying (parts_left l.param-iterator)
      ≡ each (with_param l.names.entries l.scope.0) l.fn.self (parts l.params);
}
