use Rattle.routine_checker.specs.inner.Noted.{AreCounts}
use Rattle.routine_checker.proofs.noted.Counts.new.Given as goal

abbrev pub invariant-loop-routine : goal.invariant-loop-routine
invariant-loop-routine l = AreCounts l.graph l.counts
