use Rattle.std.proofs.Common.{◌≡◌, length}
use Rattle.type_faults.specs.inner.Searched.{Stands}
use Rattle.type_faults.proofs.all_faults.type_faults.Given as goal

abbrev pub invariant-loop : goal.invariant-loop
invariant-loop l = record {
  stands : Stands l.tokens l.most l.refused.items l.first.items;
  counted : length l.refused.items ≡ l.counter;
}
