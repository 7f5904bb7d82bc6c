use Rattle.std.proofs.Common.{◌≡◌, ◌≤◌, ◌-◌, ◌++◌, ℕ, List, drop}
use Rattle.type_graph.specs.declared.node.Node.{Node}
use Rattle.routine_checker.specs.declared.counts.Piece.{Piece}
use Rattle.routine_checker.specs.Taking.{taken}
use Rattle.routine_checker.specs.inner.Kinds.{is_piece_of}
use Rattle.routine_checker.specs.inner.Noted.{IsNoted}
use Rattle.routine_checker.proofs.noted.front_noted.Given as goal

abbrev pub invariant-loop-at : goal.invariant-loop-at
invariant-loop-at l = (l.taken ≤ l.wanted)
    × ((graph : List Node) (piece : Piece) → IsNoted graph piece l.counts → (more : List ℕ)
    → taken l.wanted (is_piece_of piece graph) graph (l.numbers ++ more)
    ≡ taken (l.wanted - l.taken) (is_piece_of piece graph) graph (drop l.at l.numbers ++ more))
