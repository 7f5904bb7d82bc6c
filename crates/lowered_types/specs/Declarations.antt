-- What the declarations of modules and interfaces are lowered to (ISO/IEC 19500-1, type, constant and exception
-- declaration).
use Rattle.std.specs.Prelude.{ℕ, ◌+◌, List, [], ◌∷◌, length, codes, Result, Ok}
use Rattle.idl_tree.specs.declared.names.At.{At}
use Rattle.idl_tree.specs.declared.names.Leaf.{Leaf}
use Rattle.idl_tree.specs.declared.types.Declarator.{Declarator}
use Rattle.idl_tree.specs.declared.definitions.TypeDcl.{TypeDcl}
use Rattle.idl_tree.specs.declared.definitions.TypeDcl.TheVariants as TypeDcls
use Rattle.idl_tree.specs.declared.definitions.Except.{Except}
use Rattle.idl_tree.specs.declared.definitions.Declaration.{Declaration}
use Rattle.idl_tree.specs.declared.definitions.Declaration.TheVariants as Declarations
use Rattle.idl_tree.specs.Lists.{parts}
use Rattle.idl_tree.specs.Starts.{leaf_at}
use Rattle.type_graph.specs.declared.node.Node.TheVariants.{Frame}
use Rattle.name_table.specs.Entry.{Entry}
use Rattle.scoped_names.specs.Reading.{◌>>◌}
use Rattle.lowered_types.specs.declared.fault.BuildFault.{BuildFault}
use Rattle.lowered_types.specs.declared.place.Place.TheVariants.{Typed}
use Rattle.lowered_types.specs.Faults.{each}
use Rattle.lowered_types.specs.Lowered.{Lowered, added, already, counted, opened, placed, raised_at}
use Rattle.lowered_types.specs.SimpleTypes.{array_type, const_type, declarator_at, entry_of, enum_type}
use Rattle.lowered_types.specs.Members.{Members}
use Rattle.lowered_types.specs.Types.{WithMembers, struct_type, type_spec, union_type, with_member, with_members_of}

-- a name for the type that has the number, or for an array of it: no type of its own
abbrev pub with_typedef : List Entry → ℕ → ℕ → Lowered → Declarator → Result Lowered BuildFault
with_typedef es scope number w d =
    array_type es scope (already w number) d >> λ a.
    entry_of es scope d.identifier >> λ e. placed a.lowered e (Typed a.number)

-- a structure or a union that is declared ahead
abbrev pub ahead : List Entry → Lowered → ℕ → Leaf → Result Lowered BuildFault
ahead es w scope id = entry_of es scope id >> λ e. opened w e (leaf_at id) >> λ o. Ok o.lowered

abbrev pub type_dcl : List Entry → Lowered → ℕ → TypeDcl → Result Lowered BuildFault
type_dcl es w scope (TypeDcls.Typedef t declarators) =
    type_spec es w scope (declarator_at declarators.first) t >> λ n.
    each (with_typedef es scope n.number) n.lowered (parts declarators)
type_dcl es w scope (TypeDcls.Struct s) = struct_type es w scope s >> λ n. Ok n.lowered
type_dcl es w scope (TypeDcls.Union u) = union_type es w scope u >> λ n. Ok n.lowered
type_dcl es w scope (TypeDcls.Enum e) = enum_type es w scope e >> λ n. Ok n.lowered
type_dcl es w scope (TypeDcls.StructAhead id) = ahead es w scope id
type_dcl es w scope (TypeDcls.UnionAhead id) = ahead es w scope id

-- the first member of an exception's frame is the repository id, a string (the name is our own)
abbrev pub id_member : At → Members
id_member at = record { numbers = 9 ∷ []; sites = at ∷ []; names = codes "_id" ∷ [] }

-- a frame behind the types of its members, which the exception of the entry has
abbrev pub exception_added : WithMembers → ℕ → At → Result Lowered BuildFault
exception_added m e at =
    counted m.lowered (length m.members.numbers) at >> λ w.
    added w (Frame m.members.numbers) m.members.names (record { at = at; held = m.members.sites }) >> λ frame.
    raised_at frame.lowered e frame.number

abbrev pub except : List Entry → Lowered → ℕ → Except → Result Lowered BuildFault
except es w scope x =
    entry_of es scope x.identifier >> λ e.
    each (with_member es (e + 1)) (with_members_of w (id_member (leaf_at x.identifier))) x.members.items >> λ m.
    exception_added m e (leaf_at x.identifier)

abbrev pub declaration : List Entry → Lowered → ℕ → Declaration → Result Lowered BuildFault
declaration es w scope (Declarations.TypeDcl t) = type_dcl es w scope t
declaration es w scope (Declarations.Const c) = const_type es w scope c.const_type >> λ n. Ok n.lowered
declaration es w scope (Declarations.Except x) = except es w scope x
