-- Tables of the nodes from which paths of so many steps lead: true at the numbers of those.
use Rattle.std.specs.Prelude.{◌≡◌, ℕ, ◌↔◌, Bool, true, false, List, length, slice_index_or}
use Rattle.type_paths.specs.Sites.{Types}
use Rattle.type_paths.specs.Paths.{HoldsBy, HoldsOne, HasPath}

-- a number is in a table; past its end it is, or it isn't
abbrev pub IsIn : List Bool → Bool → ℕ → Type 0
IsIn table past node = slice_index_or table node past ≡ true

-- the table of those that hold one that is in another
pub record IsLevelAbove (types : Types) (token : ℕ) (table : List Bool) (past : Bool) (next : List Bool) : Type 0 where
  pub long : length next ≡ length types.nodes
  pub above : (node : ℕ) → IsIn next false node ↔ HoldsOne (HoldsBy types token) (IsIn table past) node

-- the table of those from which a path of so many steps leads
pub record IsLevel (types : Types) (token steps : ℕ) (table : List Bool) : Type 0 where
  pub long : length table ≡ length types.nodes
  pub same : (node : ℕ) → IsIn table false node ↔ HasPath (HoldsBy types token) steps node
