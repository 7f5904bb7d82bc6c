use Rattle.std.proofs.Common.{List}
use Rattle.type_graph.specs.declared.node.Node.{Node}
use Rattle.routine_checker.specs.inner.Noted.{AreCounts}
use Rattle.routine_checker.proofs.NotedLaws.{NotedUpTo}
use Rattle.routine_checker.proofs.noted.Counts.counted.Given as goal

abbrev pub invariant-loop-number : goal.invariant-loop-number
invariant-loop-number l = (graph : List Node) → AreCounts graph l.self → NotedUpTo graph l.piece l.counts.items l.number
