-- Of which nodes the values of a node are made, and where these are so many words of one width.
use Rattle.std.specs.Prelude.{◌≡◌, ℕ, zero, suc, ◌≤◌, List, [], ◌∷◌, length, replicate}
use Rattle.std.specs.List.{AllByRecursion, flat_map}
use Rattle.type_graph.specs.declared.width.Width.{Width}
use Rattle.type_graph.specs.declared.node.Node.{Node}
use Rattle.type_graph.specs.declared.node.Node.TheVariants.{Integer, Octet, Char, Array, Struct, Frame}
use Rattle.type_graph.specs.Value.{node_at, number_width}

-- an array is made of its elements, a structure and a frame of their members, where it is known of what those are made;
-- any other node of itself
abbrev pub leaves_by : (ℕ → List Node) → Node → List Node
leaves_by leaves (Array elem n) = flat_map leaves (replicate n elem)
leaves_by leaves (Struct members) = flat_map leaves members
leaves_by leaves (Frame members) = flat_map leaves members
leaves_by leaves node = node ∷ []

-- the same, looked for within so many levels; an octet stands for what lies deeper
unfoldable pub leaves_within : ℕ → List Node → ℕ → List Node
leaves_within zero graph number = Octet ∷ []
leaves_within (suc levels) graph number = leaves_by (leaves_within levels graph) (node_at graph number)

-- in a graph nothing lies deeper than 64 levels
abbrev pub leaves_of : List Node → ℕ → List Node
leaves_of graph number = leaves_within 64 graph number

-- an integer, an octet or a character: each pattern of its octets is a value
abbrev pub IsPlain : Node → Type 0
IsPlain (Integer w signed) = Unit {0}
IsPlain Octet = Unit {0}
IsPlain Char = Unit {0}
IsPlain node = ⊥

-- whose values are the words of the width
pub record IsWordOf (w : Width) (node : Node) : Type 0 where
  pub plain : IsPlain node
  pub width : number_width node ≡ w

-- n words of one width, at least one, and at most as many as an array may have elements
pub record AreWords (w : Width) (n : ℕ) (leaves : List Node) : Type 0 where
  pub words : AllByRecursion (IsWordOf w) leaves
  pub long : length leaves ≡ n
  pub some : 1 ≤ n
  pub limited : n ≤ 1048576

-- a node whose values are n words of one width
abbrev pub IsUniform : List Node → Width → ℕ → ℕ → Type 0
IsUniform graph w n number = AreWords w n (leaves_of graph number)
