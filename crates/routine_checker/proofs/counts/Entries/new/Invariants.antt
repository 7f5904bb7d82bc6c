use Rattle.routine_checker.specs.inner.Counts.{AreEntries}
use Rattle.routine_checker.proofs.counts.Entries.new.Given as goal

abbrev pub invariant-loop-height : goal.invariant-loop-height
invariant-loop-height l = AreEntries l.graph l.counts
