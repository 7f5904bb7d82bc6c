-- The types that declare nothing, arrays and enumerations (ISO/IEC 19500-1, type declaration): each clause says which
-- number a type has and what is lowered behind it, where `w` is what is lowered before it. A bound or a size is worth
-- what its expression is worth in the scope, and a name stands for what it finds there.
use Rattle.std.specs.Prelude.{ℕ, List, [], ◌∷◌, length, map, Option, Some, None, Result, Ok}
use Rattle.idl_tree.specs.declared.names.At.{At}
use Rattle.idl_tree.specs.declared.names.Leaf.{Leaf}
use Rattle.idl_tree.specs.declared.names.ScopedName.{ScopedName}
use Rattle.idl_tree.specs.declared.types.IntegerSize.TheVariants.{Short, Long, LongLong}
use Rattle.idl_tree.specs.declared.types.Integer.{Integer}
use Rattle.idl_tree.specs.declared.types.Integer.TheVariants.{Signed, Unsigned}
use Rattle.idl_tree.specs.declared.types.ConstType.{ConstType}
use Rattle.idl_tree.specs.declared.types.ConstType.TheVariants as ConstTypes
use Rattle.idl_tree.specs.declared.types.ParamType.{ParamType}
use Rattle.idl_tree.specs.declared.types.ParamType.TheVariants as ParamTypes
use Rattle.idl_tree.specs.declared.types.SimpleType.{SimpleType, Plain, Sequence'}
use Rattle.idl_tree.specs.declared.types.EnumType.{EnumType}
use Rattle.idl_tree.specs.declared.types.Declarator.{Declarator}
use Rattle.idl_tree.specs.declared.const_expr.ConstExpr.{ConstExpr}
use Rattle.idl_tree.specs.declared.const_expr.Bound.{Bound}
use Rattle.idl_tree.specs.Lists.{parts}
use Rattle.idl_tree.specs.Starts.{expr_start, leaf_at}
use Rattle.type_graph.specs.declared.fault.GraphLimit.TheVariants.{Enumerators, Bound as BoundLimit, Size}
use Rattle.type_graph.specs.declared.node.Node.TheVariants.{Text, Seq, Array, Enum}
use Rattle.name_table.specs.Entry.{Entry, named}
use Rattle.name_table.specs.Search.{word}
use Rattle.scoped_names.specs.Reading.{◌>>◌}
use Rattle.scoped_names.specs.Tests.{resolved, size_read}
use Rattle.lowered_types.specs.declared.fault.BuildFault.{BuildFault}
use Rattle.lowered_types.specs.Faults.{at_most, max_bound, max_enumerators, max_size, of_names, or_other}
use Rattle.lowered_types.specs.Lowered.{Lowered, Numbered, already, added_at, named_type, type_of}

-- ---- what names and expressions say

-- the entry that an identifier is declared as in the scope
abbrev pub entry_of : List Entry → ℕ → Leaf → Result ℕ BuildFault
entry_of es scope l = or_other (named es scope (word l))

-- the entry that a name finds that stands in the scope
abbrev pub entry_found : List Entry → ℕ → ScopedName → Result ℕ BuildFault
entry_found es scope name = of_names (resolved es scope name)

-- the number of the type that it finds
abbrev pub type_found : List Entry → Lowered → ℕ → ScopedName → Result ℕ BuildFault
type_found es w scope name = entry_found es scope name >> λ e. or_other (type_of w e)

abbrev pub size_of : List Entry → ℕ → ConstExpr → Result ℕ BuildFault
size_of es scope size =
    of_names (size_read es scope size.expr) >> λ n. at_most max_size Size (leaf_at (expr_start size.expr)) n

abbrev pub bound_of : List Entry → ℕ → Bound → Result ℕ BuildFault
bound_of es scope bound =
    of_names (size_read es scope bound.expr.value)
    >> λ n. at_most max_bound BoundLimit (leaf_at (expr_start bound.expr.value)) n

-- no bound is 0
abbrev pub bound_or_none : List Entry → ℕ → Option Bound → Result ℕ BuildFault
bound_or_none es scope None = Ok 0
bound_or_none es scope (Some bound) = bound_of es scope bound

-- ---- types

-- the numbers of the basic types
abbrev pub integer_number : Integer → ℕ
integer_number (Signed Short) = 3
integer_number (Unsigned Short) = 4
integer_number (Signed Long) = 5
integer_number (Unsigned Long) = 6
integer_number (Signed LongLong) = 7
integer_number (Unsigned LongLong) = 8

-- a bounded string is a type of its own, and nothing else is
abbrev pub const_type : List Entry → Lowered → ℕ → ConstType → Result Numbered BuildFault
const_type es w scope (ConstTypes.Integer i) = Ok (already w (integer_number i))
const_type es w scope ConstTypes.Octet = Ok (already w 0)
const_type es w scope ConstTypes.Char = Ok (already w 1)
const_type es w scope ConstTypes.Boolean = Ok (already w 2)
const_type es w scope (ConstTypes.String None) = Ok (already w 9)
const_type es w scope (ConstTypes.String (Some bound)) =
    bound_of es scope bound >> λ most. added_at w (Text most) (leaf_at (expr_start bound.expr.value))
const_type es w scope (ConstTypes.Name name) = type_found es w scope name >> λ n. Ok (already w n)

abbrev pub param_type : List Entry → Lowered → ℕ → ParamType → Result Numbered BuildFault
param_type es w scope (ParamTypes.Plain t) = const_type es w scope t
param_type es w scope ParamTypes.Object = Ok (already w 13)

-- a sequence comes behind its elements; it stands where the declarator does, which is given
abbrev pub simple_type : List Entry → Lowered → ℕ → At → SimpleType → Result Numbered BuildFault
simple_type es w scope at (Plain t) = param_type es w scope t
simple_type es w scope at (Sequence' shape element bound) =
    simple_type es w scope at element >> λ e.
    bound_or_none es scope bound >> λ most. added_at e.lowered (Seq e.number most) at

abbrev pub sizes_read : List Entry → ℕ → List ConstExpr → Result (List ℕ) BuildFault
sizes_read es scope [] = Ok []
sizes_read es scope (size ∷ sizes) = size_of es scope size >> λ n. sizes_read es scope sizes >> λ ns. Ok (n ∷ ns)

-- arrays of a type, whose last size is that of the innermost, which comes first
abbrev pub arrays : Numbered → At → List ℕ → Result Numbered BuildFault
arrays element at [] = Ok element
arrays element at (n ∷ ns) =
    arrays element at ns >> λ inner. added_at inner.lowered (Array inner.number n) at

abbrev pub declarator_at : Declarator → At
declarator_at d = leaf_at d.identifier

-- what it declares is called
abbrev pub declarator_name : Declarator → List ℕ
declarator_name d = word d.identifier

-- the type of a declarator: its sizes are judged before there is an array
abbrev pub array_type : List Entry → ℕ → Numbered → Declarator → Result Numbered BuildFault
array_type es scope element d = sizes_read es scope d.sizes.items >> λ ns. arrays element (declarator_at d) ns

abbrev pub enum_type : List Entry → Lowered → ℕ → EnumType → Result Numbered BuildFault
enum_type es w scope e =
    entry_of es scope e.identifier >> λ entry.
    at_most max_enumerators Enumerators (leaf_at e.identifier) (length (parts e.enumerators.value)) >> λ n.
    named_type w entry (Enum n) (map word (parts e.enumerators.value)) (leaf_at e.identifier)
