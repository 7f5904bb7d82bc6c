-- The nodes of object references (ISO/IEC 19500-2, IOP: IOR). They are told by what they are made of, since a table
-- numbers its nodes as it likes.
use Rattle.std.specs.Prelude.{ℕ, zero, Bool, true, false, ◌&&◌, List, [], ◌∷◌}
use Rattle.type_graph.specs.declared.width.Width.TheVariants.{Four}
use Rattle.type_graph.specs.declared.node.Node.{Node}
use Rattle.type_graph.specs.declared.node.Node.TheVariants.{Integer, Octet, Text, Seq, Struct}
use Rattle.type_graph.specs.Value.{node_at}

abbrev pub is_octet : Node → Bool
is_octet Octet = true
is_octet node = false

-- an unbounded string
abbrev pub is_string : Node → Bool
is_string (Text zero) = true
is_string node = false

-- an unsigned long
abbrev pub is_long : Node → Bool
is_long (Integer Four false) = true
is_long node = false

-- an unbounded sequence of octets
abbrev pub are_octets : List Node → Node → Bool
are_octets graph (Seq elem zero) = is_octet (node_at graph elem)
are_octets graph node = false

-- the members of a profile: its tag and its octets
abbrev pub is_profile : List Node → List ℕ → Bool
is_profile graph (tag ∷ octets ∷ []) = is_long (node_at graph tag) && are_octets graph (node_at graph octets)
is_profile graph members = false

abbrev pub is_profile_node : List Node → Node → Bool
is_profile_node graph (Struct members) = is_profile graph members
is_profile_node graph node = false

-- an unbounded sequence of profiles
abbrev pub are_profiles : List Node → Node → Bool
are_profiles graph (Seq elem zero) = is_profile_node graph (node_at graph elem)
are_profiles graph node = false

-- the members of an object reference: a repository id and profiles
abbrev pub is_reference : List Node → List ℕ → Bool
is_reference graph (id ∷ profiles ∷ []) = is_string (node_at graph id) && are_profiles graph (node_at graph profiles)
is_reference graph members = false
