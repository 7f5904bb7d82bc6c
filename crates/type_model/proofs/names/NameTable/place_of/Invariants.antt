use Rattle.std.proofs.Common.{◌≤◌, ◌-◌, length}
use Rattle.type_model.proofs.NameOrder.{Below, Above}
use Rattle.type_model.proofs.names.NameTable.place_of.Given as goal

abbrev pub invariant-loop-low : goal.invariant-loop-low
invariant-loop-low l = record {
  within : l.high ≤ length l.self-inside.order.items;
  below : Below l.self-inside.names.items l.self-inside.order.items l.name l.low;
  above : Above l.self-inside.names.items l.self-inside.order.items l.name l.high;
}

abbrev pub decreases-loop-low : goal.decreases-loop-low
decreases-loop-low l = l.high - l.low
