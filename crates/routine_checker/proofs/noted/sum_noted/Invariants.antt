use Rattle.std.proofs.Common.{◌≡◌, ◌<◌, ◌≤◌, ◌*◌, ◌++◌, ℕ, List, take, Some}
use Rattle.type_graph.specs.declared.node.Node.{Node}
use Rattle.routine_checker.specs.declared.counts.Piece.{Piece}
use Rattle.routine_checker.specs.Taking.{taken}
use Rattle.routine_checker.specs.inner.Kinds.{is_piece_of}
use Rattle.routine_checker.specs.inner.Noted.{IsNoted}
use Rattle.routine_checker.proofs.noted.sum_noted.Given as goal

abbrev pub invariant-loop-at : goal.invariant-loop-at
invariant-loop-at l = (l.sum ≤ l.at * 4294967295)
    × ((graph : List Node) (piece : Piece) → IsNoted graph piece l.counts → 0 < l.least → (more : List ℕ)
    → taken l.sum (is_piece_of piece graph) graph (take l.at l.numbers ++ more) ≡ Some more)
