use Rattle.std.proofs.Common.{◌≡◌, map, Some}
use Rattle.value_text.proofs.reading.values_of_slots.Given as goal

abbrev pub invariant-loop-slot : goal.invariant-loop-slot
invariant-loop-slot l = map Some l.values.items ≡ l.yielded
