use Rattle.std.proofs.Common.{◌≡◌, replicate, None}
use Rattle.lowered_operations.proofs.table.no_interfaces.Given as goal

abbrev pub invariant-loop : goal.invariant-loop
invariant-loop l = l.interfaces.items ≡ replicate l.counter None
