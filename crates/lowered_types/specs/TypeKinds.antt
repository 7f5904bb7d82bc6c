-- Of which kind a type is, as a fault tells it.
use Rattle.std.specs.Prelude.{ℕ, nat_eq, if◌then◌else◌, Option, Some, None}
use Rattle.type_graph.specs.declared.node.Node.{Node}
use Rattle.type_graph.specs.declared.node.Node.TheVariants as Nodes
use Rattle.name_table.specs.declared.const_values.kind.ConstKind.{ConstKind}
use Rattle.name_table.specs.declared.const_values.kind.ConstKind.TheVariants as Kinds
use Rattle.lowered_types.specs.declared.fault.TypeKind.{TypeKind}
use Rattle.lowered_types.specs.declared.fault.TypeKind.TheVariants.{Integer, Char, Boolean, Octet, Enum, String, Sequence, Array, Struct, Union, Object}

-- a frame has no name, so it is never told
abbrev pub node_kind : Node → TypeKind
node_kind (Nodes.Integer width signed) = Integer
node_kind Nodes.Octet = Octet
node_kind Nodes.Char = Char
node_kind Nodes.Boolean = Boolean
node_kind (Nodes.Enum n) = Enum
node_kind (Nodes.Text bound) = String
node_kind (Nodes.Seq elem bound) = Sequence
node_kind (Nodes.Array elem n) = Array
node_kind (Nodes.Struct members) = Struct
node_kind (Nodes.Union switch arms default) = Union
node_kind (Nodes.Frame members) = Struct

-- the kind of the type of the number; 13 is Object, in the graph a structure
abbrev pub kind_of : ℕ → Option Node → Option TypeKind
kind_of number None = None
kind_of number (Some node) = Some (if nat_eq number 13 then Object else node_kind node)

abbrev pub const_kind : ConstKind → TypeKind
const_kind (Kinds.Integer i) = Integer
const_kind Kinds.Char = Char
const_kind Kinds.Boolean = Boolean
const_kind Kinds.Octet = Octet
const_kind (Kinds.String bound) = String
const_kind (Kinds.Enum entry) = Enum
