-- The names of the parts of nodes stand one for one for the parts.
use Rattle.std.specs.Prelude.{◌≡◌, ◌+◌, ◌<◌, ◌≤◌, ℕ, List, [], length, option_to_list, slice_get, Some}
use Rattle.type_graph.specs.declared.node.Node.{Node}
use Rattle.type_graph.specs.declared.node.Node.TheVariants.{Struct, Union, Enum, Frame}
use Rattle.type_model.specs.PartNamesNames.{names_at}

-- So many names stand for the parts of a node (ISO/IEC 19500-1, type declaration): the members of a structure, the
-- enumerators of an enumeration, what a request, a reply or an exception carries. A graph has the labels of a union in
-- place of its members, of which each has a label or more, `default` being one. Other nodes have no parts with names.
abbrev pub HaveNames : Node → ℕ → Type 0
HaveNames (Struct members) n = n ≡ length members
HaveNames (Enum enumerators) n = n ≡ enumerators
HaveNames (Frame carried) n = n ≡ length carried
HaveNames (Union switch arms default) n = (1 ≤ n) × (n ≤ length arms + length (option_to_list default))
HaveNames node n = n ≡ 0

-- each node has names, but for the basic types, whose parts have none
pub record AreOneForOne (graph : List Node) (names : List (List (List ℕ))) : Type 0 where
  pub long : length names ≡ length graph
  pub basic : (n : ℕ) → n < 14 → names_at names n ≡ []
  pub each : (n : ℕ) (node : Node) → 14 ≤ n → slice_get graph n ≡ Some node → HaveNames node (length (names_at names n))
