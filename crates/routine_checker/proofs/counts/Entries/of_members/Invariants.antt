use Rattle.std.proofs.Common.{List}
use Rattle.type_graph.specs.declared.node.Node.{Node}
use Rattle.routine_checker.specs.inner.Kinds.{is_piece_of}
use Rattle.routine_checker.specs.inner.Counts.{pieces_in, AreEntries}
use Rattle.routine_checker.proofs.CountLaws.{SumsTo}
use Rattle.routine_checker.proofs.counts.Entries.of_members.Given as goal

abbrev pub invariant-loop-member : goal.invariant-loop-member
invariant-loop-member l = (graph : List Node) → AreEntries graph l.self
    → SumsTo (pieces_in 64 (is_piece_of l.piece graph) graph) l.members l.member-index l.sum
