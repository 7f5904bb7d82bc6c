use Rattle.routine_checker.specs.inner.Counts.{AreEntries}
use Rattle.routine_checker.proofs.counts.Entries.add_node.Given as goal

abbrev pub invariant-loop-at : goal.invariant-loop-at
invariant-loop-at l = AreEntries l.graph l.self
