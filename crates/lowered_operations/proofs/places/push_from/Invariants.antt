use Rattle.std.proofs.Common.{◌≡◌, ◌-◌, ◌++◌}
use Rattle.std.specs.List.{range_with_len}
use Rattle.lowered_operations.proofs.places.push_from.Given as goal

abbrev pub invariant-loop-k : goal.invariant-loop-k
invariant-loop-k l =
    l.numbers.items ++ range_with_len l.k (l.end - l.k) ≡ l.fn.numbers.items ++ range_with_len l.first (l.end - l.first)
