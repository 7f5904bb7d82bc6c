-- What makes a list of nodes a graph of types.
use Rattle.std.specs.Prelude.{◌≢◌, ℕ, zero, suc, ◌<◌, ◌≤◌, ℤ, pos, ◌<ℤ◌, List, [], ◌∷◌, ◌++◌, length, map, Option}
use Rattle.std.specs.Prelude.{option_to_list, slice_get, slice_index_or, IsSomeAnd, IfSome, EachIndex, All, sum_by}
use Rattle.std.specs.List.{AllByRecursion}
use Rattle.type_graph.specs.declared.width.Width.{Width}
use Rattle.type_graph.specs.declared.width.Width.TheVariants.{One}
use Rattle.type_graph.specs.declared.node.Node.{Node}
use Rattle.type_graph.specs.declared.node.Node.TheVariants.{Integer, Octet, Char, Boolean, Enum, Text, Seq, Array, Struct, Union, Frame}
use Rattle.type_graph.specs.Value.{node_at, IsNumber}

-- integers have 2, 4 or 8 octets
abbrev pub IsWide : Width → Type 0
IsWide One = ⊥
IsWide w = Unit {0}

abbrev pub IsNoFrame : Node → Type 0
IsNoFrame (Frame members) = ⊥
IsNoFrame node = Unit {0}

-- a number that a node may refer to: it is in range, and no node refers to a frame
abbrev pub IsPart : List Node → ℕ → Type 0
IsPart graph number = IsSomeAnd (slice_get graph number) IsNoFrame

-- at most so many members as a type may have
pub record AreMembers (graph : List Node) (members : List ℕ) : Type 0 where
  pub limited : length members ≤ 1024
  pub parts : All (IsPart graph) members

-- the kinds that the discriminator of a union may have (ISO/IEC 19500-1, unions)
abbrev pub IsSwitch : Node → Type 0
IsSwitch (Integer width signed) = Unit {0}
IsSwitch Char = Unit {0}
IsSwitch Boolean = Unit {0}
IsSwitch (Enum n) = Unit {0}
IsSwitch node = ⊥

abbrev pub label_at : List (ℤ × ℕ) → ℕ → ℤ
label_at arms place = (slice_index_or arms place (pos 0, 0)).0

-- some value of the discriminator is no label
pub record HasOther (switch : Node) (arms : List (ℤ × ℕ)) : Type 0 where
  pub other : ℤ
  pub is_value : IsNumber switch other
  pub no_label : All (λ arm. arm.0 ≢ other) arms

-- The labels of a union rise strictly and are values of its discriminator; there is a default only where they aren't
-- all of them.
pub record IsUnion (graph : List Node) (switch : ℕ) (arms : List (ℤ × ℕ)) (default : Option ℕ) : Type 0 where
  pub switches : IsSomeAnd (slice_get graph switch) IsSwitch
  pub limited : length arms ≤ 1024
  pub rising : (place : ℕ) → suc place < length arms → label_at arms place <ℤ label_at arms (suc place)
  pub labels : All (λ arm. IsNumber (node_at graph switch) arm.0) arms
  pub parts : All (λ arm. IsPart graph arm.1) arms
  pub default_part : IfSome default (IsPart graph)
  pub needed : IfSome default (λ member. HasOther (node_at graph switch) arms)

-- The rules of one node: widths of 2, 4 or 8 octets, an enumerator, an element, a member at least, and no more than
-- the limits allow.
abbrev pub IsNode : List Node → Node → Type 0
IsNode graph (Integer width signed) = IsWide width
IsNode graph Octet = Unit {0}
IsNode graph Char = Unit {0}
IsNode graph Boolean = Unit {0}
IsNode graph (Enum n) = (0 < n) × (n ≤ 65536)
IsNode graph (Text bound) = bound ≤ 4294967295
IsNode graph (Seq elem bound) = IsPart graph elem × (bound ≤ 4294967295)
IsNode graph (Array elem n) = IsPart graph elem × (0 < n) × (n ≤ 1048576)
IsNode graph (Struct members) = (0 < length members) × AreMembers graph members
IsNode graph (Union switch arms default) = IsUnion graph switch arms default
IsNode graph (Frame members) = AreMembers graph members

-- the nodes that a value of the node holds without a sequence between; a union's discriminator isn't counted
abbrev pub held_by : Node → List ℕ
held_by (Array elem n) = elem ∷ []
held_by (Struct members) = members
held_by (Union switch arms default) = map (λ arm. arm.1) arms ++ option_to_list default
held_by (Frame members) = members
held_by node = []

-- No path downwards from the node that passes no sequence has more than so many nodes. A cycle that passes no sequence
-- is a path without end. A list of nodes names its nodes by numbers and may go round, so a definition that follows them
-- downwards counts the levels left, here and where leads, heights, leaves, sizes and zeros are read off; in a graph 64
-- levels reach the end of every path, so that there no such number is seen.
unfoldable pub IsShallow : ℕ → List Node → ℕ → Type 0
IsShallow zero graph number = ⊥
IsShallow (suc levels) graph number = AllByRecursion (IsShallow levels graph) (held_by (node_at graph number))

-- how many members or labels a type has, a default not counted
abbrev pub members_in : Node → ℕ
members_in (Struct members) = length members
members_in (Union switch arms default) = length arms
members_in (Frame members) = length members
members_in node = 0

-- of all types together
abbrev pub all_members : List Node → ℕ
all_members graph = sum_by members_in graph

-- The rules of a graph, with this project's limits on how large one may be.
pub record IsGraph (graph : List Node) : Type 0 where
  pub limited : length graph ≤ 4096
  pub nodes : All (IsNode graph) graph
  pub members : all_members graph ≤ 32768
  pub shallow : EachIndex graph (IsShallow 64 graph)
