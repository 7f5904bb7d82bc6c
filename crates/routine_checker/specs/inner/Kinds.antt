-- Kinds of node, as the code keeps them.
use Rattle.std.specs.Prelude.{ℕ, Bool, false, eqb, List, Option, Some, None}
use Rattle.type_graph.specs.declared.node.Node.{Node}
use Rattle.type_graph.specs.Value.{node_at}
use Rattle.routine_checker.specs.declared.pieces.RunKind.{RunKind}
use Rattle.routine_checker.specs.declared.pieces.RunKind.TheVariants as kinds
use Rattle.routine_checker.specs.declared.counts.Piece.{Piece}
use Rattle.routine_checker.specs.declared.counts.Piece.TheVariants as pieces
use Rattle.routine_checker.specs.Taking.{is_octet, is_boolean, is_whole}

-- whether the node is of the kind
abbrev pub is_of : RunKind → Node → Bool
is_of kinds.Octet = is_octet
is_of kinds.Boolean = is_boolean
is_of (kinds.Word width) = is_whole width

-- whether the node of the number is of the kind, or the one that is meant
abbrev pub is_piece_of : Piece → List Node → ℕ → Bool
is_piece_of (pieces.Kind kind) graph number = is_of kind (node_at graph number)
is_piece_of (pieces.Node wanted) graph number = eqb wanted number

-- whether the fact holds of the part, if there is one
abbrev pub part_holds : (ℕ → Bool) → Option ℕ → Bool
part_holds holds None = false
part_holds holds (Some part) = holds part
