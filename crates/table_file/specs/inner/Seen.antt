-- Uses that were seen, by node.
use Rattle.std.specs.Prelude.{◌≡◌, ℕ, List, Option, Some, slice_get}
use Rattle.table_file.specs.declared.table.Which.{Which}

-- no node was seen
abbrev pub AllNone : List (Option Which) → Type 0
AllNone seen = (node : ℕ) (use_ : Which) → slice_get seen node ≡ Some (Some use_) → ⊥
