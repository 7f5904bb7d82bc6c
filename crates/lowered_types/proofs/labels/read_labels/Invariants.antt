use Rattle.std.proofs.Common.{◌≡◌, ◌≤◌, length}
use Rattle.idl_tree.specs.Lists.{parts}
use Rattle.idl_tree.specs.PartsLeft.{parts_left}
use Rattle.lowered_types.specs.Faults.{each}
use Rattle.lowered_types.specs.Labels.{label_added, no_labels}
use Rattle.lowered_types.proofs.labels.read_labels.Given as goal

abbrev pub invariant-loop-label : goal.invariant-loop-label
invariant-loop-label l = record {
  inside : l.scope.0 ≤ length l.names.entries;
  told : each (label_added l.names.entries l.scope.0 l.switch l.arms) l.read (parts_left l.label-iterator)
      ≡ each (label_added l.names.entries l.scope.0 l.switch l.arms) no_labels (parts l.labels);
}
