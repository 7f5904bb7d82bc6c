use Rattle.routine_checker.specs.inner.Counts.{AreEntries}
use Rattle.routine_checker.proofs.counts.Entries.add_height.Given as goal

abbrev pub invariant-loop-number : goal.invariant-loop-number
invariant-loop-number l = AreEntries l.graph l.self
