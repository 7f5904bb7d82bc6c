use Rattle.std.proofs.Common.{List}
use Rattle.type_graph.specs.declared.node.Node.{Node}
use Rattle.routine_checker.specs.inner.Noted.{AreCounts}
use Rattle.routine_checker.proofs.noted.Counts.note_all.Given as goal

abbrev pub invariant-loop-instr : goal.invariant-loop-instr
invariant-loop-instr l = (graph : List Node) → AreCounts graph l.initial.self → AreCounts graph l.self
