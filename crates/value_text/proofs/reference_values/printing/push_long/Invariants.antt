use Rattle.std.proofs.Common.{◌≡◌, ◌++◌, replicate}
use Rattle.value_text.proofs.reference_values.printing.push_long.Given as goal

abbrev pub invariant-loop : goal.invariant-loop
invariant-loop l = l.out.items ≡ l.fn.out.items ++ replicate l.counter 0
