-- The counts of the pieces of which many are taken, as the code keeps them.
use Rattle.std.specs.Prelude.{ℕ, ◌<◌, ◌≡◌, List, All, slice_index_or}
use Rattle.type_graph.specs.declared.node.Node.{Node}
use Rattle.routine_checker.specs.declared.counts.Piece.{Piece}
use Rattle.routine_checker.specs.declared.noted.Noted.{Noted}
use Rattle.routine_checker.specs.declared.noted.Counts.{Counts}
use Rattle.routine_checker.specs.inner.Kinds.{is_piece_of}
use Rattle.routine_checker.specs.inner.Counts.{pieces_in, AreEntries}

-- at the number of a node the number of its pieces, or 0
abbrev pub IsNoted : List Node → Piece → List ℕ → Type 0
IsNoted graph piece counts = (number : ℕ) → 0 < slice_index_or counts number 0
    → pieces_in 64 (is_piece_of piece graph) graph number ≡ slice_index_or counts number 0

abbrev pub AreNoted : List Node → Noted → Type 0
AreNoted graph noted = IsNoted graph noted.piece noted.counts.items

pub record AreCounts (graph : List Node) (counts : Counts) : Type 0 where
  pub made : AreEntries graph counts.entries
  pub noted : All (AreNoted graph) counts.noted.items
