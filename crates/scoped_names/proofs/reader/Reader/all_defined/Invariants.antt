use Rattle.std.proofs.Common.{◌≡◌, drop}
use Rattle.scoped_names.specs.Faults.{left_open}
use Rattle.scoped_names.proofs.reader.Reader.all_defined.Given as goal

abbrev pub invariant-loop-number : goal.invariant-loop-number
invariant-loop-number l = left_open l.self l.number (drop l.number l.self.entries) ≡ left_open l.self 0 l.self.entries
