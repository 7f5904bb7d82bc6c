-- The pieces that a tree spells, from left to right: of definitions.
use Rattle.std.specs.Prelude.{ℕ, ◌^◌, ◌<◌, Bool, true, false, List, [], ◌++◌, Option, Some, None, codes, length}
use Rattle.std.specs.List.{flat_map}
use Rattle.idl_lexer.specs.declared.token.Kind.TheVariants.{Pragma as PragmaToken}
use Rattle.idl_lexer.specs.declared.token.Token.{Token}
use Rattle.idl_tree.specs.declared.names.Listed.{Listed}
use Rattle.idl_tree.specs.declared.names.ScopedName.{ScopedName}
use Rattle.idl_tree.specs.declared.types.ParamType.{ParamType}
use Rattle.idl_tree.specs.declared.definitions.TypeDcl.{TypeDcl}
use Rattle.idl_tree.specs.declared.definitions.TypeDcl.TheVariants as TypeDcls
use Rattle.idl_tree.specs.declared.definitions.Const.{Const}
use Rattle.idl_tree.specs.declared.definitions.Except.{Except}
use Rattle.idl_tree.specs.declared.definitions.Declaration.{Declaration}
use Rattle.idl_tree.specs.declared.definitions.Declaration.TheVariants as Declarations
use Rattle.idl_tree.specs.declared.definitions.Attributes.{Attributes}
use Rattle.idl_tree.specs.declared.definitions.Attributes.TheVariants.{Silent, Readonly, Get, Set}
use Rattle.idl_tree.specs.declared.definitions.Attribute.{Attribute}
use Rattle.idl_tree.specs.declared.definitions.Direction.{Direction}
use Rattle.idl_tree.specs.declared.definitions.Direction.TheVariants.{In, Out, InOut}
use Rattle.idl_tree.specs.declared.definitions.Param.{Param}
use Rattle.idl_tree.specs.declared.definitions.Operation.{Operation}
use Rattle.idl_tree.specs.declared.definitions.Export.{Export}
use Rattle.idl_tree.specs.declared.definitions.Export.TheVariants as Exports
use Rattle.idl_tree.specs.declared.definitions.Interface.{Interface}
use Rattle.idl_tree.specs.declared.definitions.Interface.TheVariants.{Ahead, Defined}
use Rattle.idl_tree.specs.declared.definitions.Definition.{Definition, Pragma, Declaration as Declared, Interface as InterfaceDcl, Module', Row_of-Definition, end_of-Definition, more_of-Definition}
use Rattle.idl_tree.specs.Pieces.{Piece, Spell, keyword, mark, leaf}
use Rattle.idl_tree.specs.Yields.{identifier, listed, optional, names_yield, const_expr_yield}
use Rattle.idl_tree.specs.TypeYields.{const_type_yield, param_type_yield, type_yield, struct_yield, union_yield, enum_yield, declarator_yield, member_yield}

abbrev pub type_dcl_yield : TypeDcl → List Piece
type_dcl_yield (TypeDcls.Typedef t declarators) =
    keyword (codes "typedef") ++ type_yield t ++ listed declarator_yield declarators
type_dcl_yield (TypeDcls.Struct s) = struct_yield s
type_dcl_yield (TypeDcls.Union u) = union_yield u
type_dcl_yield (TypeDcls.Enum e) = enum_yield e
type_dcl_yield (TypeDcls.StructAhead id) = keyword (codes "struct") ++ identifier id
type_dcl_yield (TypeDcls.UnionAhead id) = keyword (codes "union") ++ identifier id

abbrev pub const_yield : Const → List Piece
const_yield c =
    keyword (codes "const") ++ const_type_yield c.const_type ++ identifier c.identifier ++ mark (codes "=")
    ++ const_expr_yield c.value

abbrev pub except_yield : Except → List Piece
except_yield e =
    keyword (codes "exception") ++ identifier e.identifier ++ mark (codes "{")
    ++ flat_map member_yield e.members.items ++ mark (codes "}")

-- a word and names in parentheses: what an operation or an attribute raises
abbrev pub raises_yield : List ℕ → Listed ScopedName → List Piece
raises_yield word names = keyword word ++ mark (codes "(") ++ names_yield names ++ mark (codes ")")

abbrev pub declaration_yield : Declaration → List Piece
declaration_yield (Declarations.TypeDcl t) = type_dcl_yield t
declaration_yield (Declarations.Const c) = const_yield c
declaration_yield (Declarations.Except e) = except_yield e

abbrev pub readonly_yield : Bool → List Piece
readonly_yield true = keyword (codes "readonly")
readonly_yield false = []

-- whether attributes are readonly
abbrev pub is_readonly : Attributes → Bool
is_readonly (Silent only identifiers) = only
is_readonly (Readonly identifier names) = true
is_readonly (Get identifier get set) = false
is_readonly (Set identifier set) = false

abbrev pub attributes_yield : Attributes → List Piece
attributes_yield (Silent only identifiers) = listed identifier identifiers
attributes_yield (Readonly id names) = identifier id ++ raises_yield (codes "raises") names
attributes_yield (Get id get set) =
    identifier id ++ raises_yield (codes "getraises") get ++ optional (raises_yield (codes "setraises")) set
attributes_yield (Set id set) = identifier id ++ raises_yield (codes "setraises") set

abbrev pub attribute_yield : Attribute → List Piece
attribute_yield a =
    readonly_yield (is_readonly a.declared) ++ keyword (codes "attribute") ++ param_type_yield a.attribute_type
    ++ attributes_yield a.declared

abbrev pub direction_yield : Direction → List Piece
direction_yield In = keyword (codes "in")
direction_yield Out = keyword (codes "out")
direction_yield InOut = keyword (codes "inout")

abbrev pub param_yield : Param → List Piece
param_yield p = direction_yield p.direction ++ param_type_yield p.param_type ++ identifier p.identifier

abbrev pub oneway_yield : Bool → List Piece
oneway_yield true = keyword (codes "oneway")
oneway_yield false = []

abbrev pub result_yield : Option ParamType → List Piece
result_yield None = keyword (codes "void")
result_yield (Some t) = param_type_yield t

abbrev pub operation_yield : Operation → List Piece
operation_yield o =
    oneway_yield o.is_oneway ++ result_yield o.result_type ++ identifier o.identifier ++ mark (codes "(")
    ++ optional (listed param_yield) o.params ++ mark (codes ")")
    ++ optional (raises_yield (codes "raises")) o.raises

abbrev pub export_yield : Export → List Piece
export_yield (Exports.Pragma p) = leaf PragmaToken p
export_yield (Exports.Declaration d) = declaration_yield d ++ mark (codes ";")
export_yield (Exports.Attribute a) = attribute_yield a ++ mark (codes ";")
export_yield (Exports.Operation o) = operation_yield o ++ mark (codes ";")

abbrev pub bases_yield : Listed ScopedName → List Piece
bases_yield bases = mark (codes ":") ++ names_yield bases

abbrev pub interface_yield : Interface → List Piece
interface_yield (Ahead id) = keyword (codes "interface") ++ identifier id
interface_yield (Defined id bases exports) =
    keyword (codes "interface") ++ identifier id ++ optional bases_yield bases ++ mark (codes "{")
    ++ flat_map export_yield exports.items ++ mark (codes "}")

abbrev mutual
  pub definition_yield : Definition → List Piece
  definition_yield (Pragma p) = leaf PragmaToken p
  definition_yield (Declared d) = declaration_yield d ++ mark (codes ";")
  definition_yield (InterfaceDcl i) = interface_yield i ++ mark (codes ";")
  definition_yield (Module' id shape definitions) =
      keyword (codes "module") ++ identifier id ++ mark (codes "{") ++ definitions_yield definitions
      ++ mark (codes "}") ++ mark (codes ";")

  pub definitions_yield : {n : _} → Row_of-Definition n → List Piece
  definitions_yield end_of-Definition = []
  definitions_yield (more_of-Definition d rest) = definition_yield d ++ definitions_yield rest

-- what a whole specification spells
abbrev pub definitions_spelled : List Definition → List Piece
definitions_spelled definitions = flat_map definition_yield definitions

-- definitions, and tokens that they spell from the first to the last, fewer than 2^64
pub record AreSpelled (definitions : List Definition) : Type 0 where
  pub tokens : List Token
  pub spelled : Spell (definitions_spelled definitions) tokens
  pub few : length tokens < 2 ^ 64
