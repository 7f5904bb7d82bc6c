-- The types of constants that types are in the end (ISO/IEC 19500-1, constant declaration).
use Rattle.std.specs.Prelude.{ℕ, List, Option, Some, None, Result, Ok, Err}
use Rattle.idl_tree.specs.declared.const_expr.Bound.{Bound}
use Rattle.idl_tree.specs.declared.types.ConstType.{ConstType}
use Rattle.idl_tree.specs.declared.types.ConstType.TheVariants as ConstTypes
use Rattle.idl_tree.specs.declared.types.ParamType.{ParamType}
use Rattle.idl_tree.specs.declared.types.ParamType.TheVariants as ParamTypes
use Rattle.idl_tree.specs.declared.types.SimpleType.{SimpleType, Plain, Sequence'}
use Rattle.name_table.specs.declared.const_values.kind.ConstKind.{ConstKind}
use Rattle.name_table.specs.declared.const_values.kind.ConstKind.TheVariants as Kinds
use Rattle.name_table.specs.Entry.{Entry}
use Rattle.name_table.specs.Search.{finds}
use Rattle.scoped_names.specs.declared.fault.NameFault.{NameFault}
use Rattle.scoped_names.specs.Constants.{meant_found}
use Rattle.scoped_names.specs.Tests.{size_read}

abbrev pub known : Result ℕ NameFault → Option ℕ
known (Ok n) = Some n
known (Err fault) = None

abbrev pub string_kind : List Entry → ℕ → Option Bound → ConstKind
string_kind es scope None = Kinds.String None
string_kind es scope (Some bound) = Kinds.String (known (size_read es scope bound.expr.value))

-- the type of constants that a type is in the end
abbrev pub const_type_kind : List Entry → ℕ → ConstType → Option ConstKind
const_type_kind es scope (ConstTypes.Integer i) = Some (Kinds.Integer i)
const_type_kind es scope ConstTypes.Char = Some Kinds.Char
const_type_kind es scope ConstTypes.Boolean = Some Kinds.Boolean
const_type_kind es scope ConstTypes.Octet = Some Kinds.Octet
const_type_kind es scope (ConstTypes.String bound) = Some (string_kind es scope bound)
const_type_kind es scope (ConstTypes.Name name) = meant_found es (finds es scope name)

abbrev pub param_type_kind : List Entry → ℕ → ParamType → Option ConstKind
param_type_kind es scope (ParamTypes.Plain t) = const_type_kind es scope t
param_type_kind es scope ParamTypes.Object = None

abbrev pub simple_type_kind : List Entry → ℕ → SimpleType → Option ConstKind
simple_type_kind es scope (Plain t) = param_type_kind es scope t
simple_type_kind es scope (Sequence' element shape bound) = None
