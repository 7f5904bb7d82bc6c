-- The names of the parts of nodes, by the numbers of the nodes: of the members of a structure, a union or a frame and
-- the enumerators of an enumeration. A node whose parts have no names has none.
use Rattle.std.specs.Prelude.{ℕ, List, [], Option, Some, None, slice_get}
use Rattle.std.specs.List.{IsDistinct}
use Rattle.std.specs.Str.{str_eq_ignore_ascii_case}

-- no two names are equal but for case (ISO/IEC 19500-1, identifiers)
abbrev pub AreApart : List (List ℕ) → Type 0
AreApart names = IsDistinct str_eq_ignore_ascii_case names

abbrev pub or_none : Option (List (List ℕ)) → List (List ℕ)
or_none None = []
or_none (Some names) = names

-- those of a node
abbrev pub names_at : List (List (List ℕ)) → ℕ → List (List ℕ)
names_at nodes n = or_none (slice_get nodes n)
