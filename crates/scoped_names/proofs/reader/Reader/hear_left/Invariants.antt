use Rattle.std.proofs.Common.{◌≡◌}
use Rattle.scoped_names.proofs.Passed.{Remains}
use Rattle.scoped_names.proofs.reader.Reader.hear_left.Given as goal

abbrev pub invariant-loop-number : goal.invariant-loop-number
invariant-loop-number l = record {
  remains : Remains l.self l.fn.faults l.faults l.number;
  most : l.faults.most ≡ l.fn.faults.most;
}
