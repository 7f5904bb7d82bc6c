-- From where to where a part of a tree is read.
use Rattle.std.specs.Prelude.{◌≡◌, ◌<◌, ◌≤◌, ◌++◌, ◌∷◌, ℕ, List, [], Some, length}
use Rattle.idl_tree.specs.Pieces.{Seen, Piece, past}

-- of some tokens the first are these pieces, and those that are left stand behind them
pub record Parsed (tokens : List Seen) (spelled : List Piece) (left : List Seen) : Type 0 where
  pub spells : past spelled (Some tokens) ≡ Some left
  pub on : length left < length tokens

-- the same, where there may be no pieces
pub record Continued (tokens : List Seen) (spelled : List Piece) (left : List Seen) : Type 0 where
  pub spells : past spelled (Some tokens) ≡ Some left
  pub on : length left ≤ length tokens

-- one more part stands at the end of a list: these tokens spell it, and it has no more levels than there is room for
pub record Added {T : Type 0} (yield : T → List Piece) (levels : T → ℕ) (room : ℕ)
    (before after : List T) (tokens left : List Seen) : Type 0 where
  pub part : T
  pub is : after ≡ before ++ part ∷ []
  pub spells : Parsed tokens (yield part) left
  pub few : levels part ≤ room
