-- Octets among values.
use Rattle.std.specs.Prelude.{ℕ, ℤ, pos, negsuc, nat_lt, if◌then◌else◌, List, [], ◌∷◌}
use Rattle.type_graph.specs.Value.{Tree, Number, Trees, NoTree, AndTree}

-- the octet that a number is; what is none counts as 0
abbrev pub octet_of : ℤ → ℕ
octet_of (pos n) = if nat_lt n 256 then n else 0
octet_of (negsuc n) = 0

abbrev pub octet_of_tree : Tree → ℕ
octet_of_tree (Number n) = octet_of n
octet_of_tree value = 0

-- those of elements, in order
abbrev pub octets_of : Trees → List ℕ
octets_of NoTree = []
octets_of (AndTree value more) = octet_of_tree value ∷ octets_of more
