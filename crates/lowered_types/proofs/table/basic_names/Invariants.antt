use Rattle.std.proofs.Common.{◌≡◌, [], replicate}
use Rattle.lowered_types.proofs.table.basic_names.Given as goal

abbrev pub invariant-loop : goal.invariant-loop
invariant-loop l = l.names.items ≡ replicate l.counter []
