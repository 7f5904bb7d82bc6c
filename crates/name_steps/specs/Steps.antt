-- What a specification asks of its names (ISO/IEC 19500-1, names and scoping), step by step in the order of reading.
-- A name's own declaration comes before what stands inside it, so that a fault of it is told first.
use Rattle.std.specs.Prelude.{List, [], ◌∷◌, ◌++◌, map, Option, Some, None}
use Rattle.std.specs.List.{flat_map}
use Rattle.idl_tree.specs.declared.names.Leaf.{Leaf}
use Rattle.idl_tree.specs.declared.names.Listed.{Listed}
use Rattle.idl_tree.specs.declared.names.ScopedName.{ScopedName}
use Rattle.idl_tree.specs.declared.expression.Expr.{Expr}
use Rattle.idl_tree.specs.declared.const_expr.ConstExpr.{ConstExpr}
use Rattle.idl_tree.specs.declared.const_expr.Bound.{Bound}
use Rattle.idl_tree.specs.declared.types.ConstType.{ConstType}
use Rattle.idl_tree.specs.declared.types.ConstType.TheVariants as ConstTypes
use Rattle.idl_tree.specs.declared.types.ParamType.{ParamType}
use Rattle.idl_tree.specs.declared.types.ParamType.TheVariants as ParamTypes
use Rattle.idl_tree.specs.declared.types.SimpleType.{SimpleType, Plain, Sequence'}
use Rattle.idl_tree.specs.declared.types.Declarator.{Declarator}
use Rattle.idl_tree.specs.declared.types.EnumType.{EnumType}
use Rattle.idl_tree.specs.declared.types.Label.{Label}
use Rattle.idl_tree.specs.declared.types.Label.TheVariants as Labels
use Rattle.idl_tree.specs.declared.types.SwitchType.{SwitchType}
use Rattle.idl_tree.specs.declared.types.SwitchType.TheVariants as SwitchTypes
use Rattle.idl_tree.specs.declared.types.TypeSpec.{TypeSpec, Simple, Struct as StructSpec, Union as UnionSpec, Enum as EnumSpec}
use Rattle.idl_tree.specs.declared.types.StructType.{StructType, StructType', Row_of-Member, end_of-Member, more_of-Member}
use Rattle.idl_tree.specs.declared.types.UnionType.{UnionType, UnionType', Row_of-Case, end_of-Case, more_of-Case}
use Rattle.idl_tree.specs.declared.types.Member.{Member}
use Rattle.idl_tree.specs.declared.types.Case.{Case}
use Rattle.idl_tree.specs.declared.definitions.TypeDcl.{TypeDcl}
use Rattle.idl_tree.specs.declared.definitions.TypeDcl.TheVariants as TypeDcls
use Rattle.idl_tree.specs.declared.definitions.Const.{Const}
use Rattle.idl_tree.specs.declared.definitions.Except.{Except}
use Rattle.idl_tree.specs.declared.definitions.Declaration.{Declaration}
use Rattle.idl_tree.specs.declared.definitions.Declaration.TheVariants as Declarations
use Rattle.idl_tree.specs.declared.definitions.Attributes.{Attributes}
use Rattle.idl_tree.specs.declared.definitions.Attributes.TheVariants.{Silent, Readonly, Get, Set}
use Rattle.idl_tree.specs.declared.definitions.Attribute.{Attribute}
use Rattle.idl_tree.specs.declared.definitions.Operation.{Operation}
use Rattle.idl_tree.specs.declared.definitions.Param.{Param}
use Rattle.idl_tree.specs.declared.definitions.Export.{Export}
use Rattle.idl_tree.specs.declared.definitions.Export.TheVariants as Exports
use Rattle.idl_tree.specs.declared.definitions.Interface.{Interface}
use Rattle.idl_tree.specs.declared.definitions.Interface.TheVariants.{Ahead, Defined}
use Rattle.idl_tree.specs.declared.definitions.Definition.{Definition, Pragma, Declaration as Declared, Interface as InterfaceDcl, Module', Row_of-Definition, end_of-Definition, more_of-Definition}
use Rattle.idl_tree.specs.Lists.{parts}
use Rattle.idl_tree.specs.declared.kinds.EntryKind.{EntryKind}
use Rattle.idl_tree.specs.declared.kinds.EntryKind.TheVariants as Kinds

-- each is done in the scope that was entered last and not left yet, the file's at first
pub data Step : Type 0 where
  -- the identifier is declared as the kind
  Declares : EntryKind → Leaf → Step
  -- as an enumeration, and as an enumerator of the last enumeration
  DeclaresEnum : Leaf → Step
  DeclaresEnumerator : Leaf → Step
  -- as a name for the type, or for an array of it
  DeclaresTypedef : TypeSpec → Declarator → Step
  -- the identifier is nothing yet
  IsNew : Leaf → Step
  -- the constant is declared, whose value has to be one of its type
  DeclaresConst : Const → Step
  -- an operation or an attribute is declared, which the interface doesn't inherit
  DeclaresFeature : EntryKind → Leaf → Step
  -- the scope gets a member or a parameter
  HasMember : Leaf → Step
  -- what has the identifier has no definition yet
  IsUndefined : Leaf → Step
  -- the interface of the identifier gets a base
  HasBase : Leaf → ScopedName → Step
  -- the scope of what has the identifier
  Enters : Leaf → Step
  -- it has its definition here, of which that is the identifier
  Defines : Leaf → Step
  Leaves : Step
  -- the name is that of a type, and that of an exception
  NamesType : ScopedName → Step
  NamesException : ScopedName → Step
  -- the expression has a worth, and one as a bound or a size
  HasWorth : Expr → Step
  IsSize : Expr → Step
  -- the pragma says something of repository ids
  Says : Leaf → Step

-- ---- types that declare nothing

abbrev pub bound_steps : Option Bound → List Step
bound_steps None = []
bound_steps (Some bound) = IsSize bound.expr.value ∷ []

abbrev pub const_type_steps : ConstType → List Step
const_type_steps (ConstTypes.Integer i) = []
const_type_steps ConstTypes.Char = []
const_type_steps ConstTypes.Boolean = []
const_type_steps ConstTypes.Octet = []
const_type_steps (ConstTypes.String bound) = bound_steps bound
const_type_steps (ConstTypes.Name name) = NamesType name ∷ []

abbrev pub param_type_steps : ParamType → List Step
param_type_steps (ParamTypes.Plain t) = const_type_steps t
param_type_steps ParamTypes.Object = []

abbrev pub simple_type_steps : SimpleType → List Step
simple_type_steps (Plain t) = param_type_steps t
simple_type_steps (Sequence' p element bound) = simple_type_steps element ++ bound_steps bound

abbrev pub size_step : ConstExpr → Step
size_step size = IsSize size.expr

abbrev pub label_steps : Label → List Step
label_steps (Labels.Case value) = HasWorth value.expr ∷ []
label_steps (Labels.Default word) = []

-- ---- types

abbrev pub typedef_steps : TypeSpec → Declarator → List Step
typedef_steps t d = DeclaresTypedef t d ∷ map size_step d.sizes.items

-- a member of a structure, a union or an exception
abbrev pub declarator_steps : Declarator → List Step
declarator_steps d = HasMember d.identifier ∷ map size_step d.sizes.items

-- enumerators stand in the scope around their enumeration
abbrev pub enum_steps : EnumType → List Step
enum_steps e = DeclaresEnum e.identifier ∷ map DeclaresEnumerator (parts e.enumerators.value)

abbrev pub switch_steps : SwitchType → List Step
switch_steps (SwitchTypes.Enum e) = enum_steps e
switch_steps (SwitchTypes.Integer i) = []
switch_steps SwitchTypes.Char = []
switch_steps SwitchTypes.Boolean = []
switch_steps (SwitchTypes.Name name) = NamesType name ∷ []

abbrev pub opening : EntryKind → Leaf → List Step
opening kind id = Declares kind id ∷ Enters id ∷ Defines id ∷ []

abbrev mutual
  pub type_steps : TypeSpec → List Step
  type_steps (Simple t) = simple_type_steps t
  type_steps (StructSpec s) = struct_steps s
  type_steps (UnionSpec u) = union_steps u
  type_steps (EnumSpec e) = enum_steps e

  pub struct_steps : StructType → List Step
  struct_steps (StructType' id p t declarators shape rest) =
      opening Kinds.Struct id ++ (type_steps t ++ flat_map declarator_steps (parts declarators))
      ++ members_steps rest ++ Leaves ∷ []

  pub union_steps : UnionType → List Step
  union_steps (UnionType' id switch p labels t declarator shape rest) =
      opening Kinds.Union id ++ switch_steps switch.value
      ++ (flat_map label_steps (parts labels) ++ type_steps t ++ declarator_steps declarator)
      ++ cases_steps rest ++ Leaves ∷ []

  pub members_steps : {n : _} → Row_of-Member n → List Step
  members_steps end_of-Member = []
  members_steps (more_of-Member t declarators rest) =
      (type_steps t ++ flat_map declarator_steps (parts declarators)) ++ members_steps rest

  pub cases_steps : {n : _} → Row_of-Case n → List Step
  cases_steps end_of-Case = []
  cases_steps (more_of-Case labels t declarator rest) =
      (flat_map label_steps (parts labels) ++ type_steps t ++ declarator_steps declarator) ++ cases_steps rest

abbrev pub member_steps : Member → List Step
member_steps m = type_steps m.member_type ++ flat_map declarator_steps (parts m.declarators)

abbrev pub case_steps : Case → List Step
case_steps c =
    flat_map label_steps (parts c.labels) ++ type_steps c.member_type ++ declarator_steps c.declarator

-- ---- declarations

abbrev pub type_dcl_steps : TypeDcl → List Step
type_dcl_steps (TypeDcls.Typedef t declarators) = type_steps t ++ flat_map (typedef_steps t) (parts declarators)
type_dcl_steps (TypeDcls.Struct s) = struct_steps s
type_dcl_steps (TypeDcls.Union u) = union_steps u
type_dcl_steps (TypeDcls.Enum e) = enum_steps e
type_dcl_steps (TypeDcls.StructAhead id) = Declares Kinds.Struct id ∷ []
type_dcl_steps (TypeDcls.UnionAhead id) = Declares Kinds.Union id ∷ []

-- a constant: its type, its name, its value
abbrev pub const_steps : Const → List Step
const_steps c = const_type_steps c.const_type ++ IsNew c.identifier ∷ DeclaresConst c ∷ []

abbrev pub except_steps : Except → List Step
except_steps e = Declares Kinds.Exception e.identifier ∷ Enters e.identifier
    ∷ flat_map member_steps e.members.items ++ Leaves ∷ []

abbrev pub declaration_steps : Declaration → List Step
declaration_steps (Declarations.TypeDcl t) = type_dcl_steps t
declaration_steps (Declarations.Const c) = const_steps c
declaration_steps (Declarations.Except e) = except_steps e

-- ---- operations and attributes

-- the parts of a list, none where there is no list
abbrev pub optional_parts : {T : Type 0} → Option (Listed T) → List T
optional_parts None = []
optional_parts (Some list) = parts list

abbrev pub raises_steps : List ScopedName → List Step
raises_steps names = map NamesException names

-- identifiers, and then what is raised where an attribute is got, and where it is set
abbrev pub attributes_steps : Attributes → List Step
attributes_steps (Silent only identifiers) = map (DeclaresFeature Kinds.Attribute) (parts identifiers)
attributes_steps (Readonly id names) = DeclaresFeature Kinds.Attribute id ∷ raises_steps (parts names)
attributes_steps (Get id get set) =
    DeclaresFeature Kinds.Attribute id ∷ raises_steps (parts get) ++ raises_steps (optional_parts set)
attributes_steps (Set id set) = DeclaresFeature Kinds.Attribute id ∷ raises_steps (parts set)

abbrev pub attribute_steps : Attribute → List Step
attribute_steps a = param_type_steps a.attribute_type ++ attributes_steps a.declared

-- a parameter's type stands in the scope of the interface, its name in that of the operation
abbrev pub param_steps : Leaf → Param → List Step
param_steps id p = param_type_steps p.param_type ++ Enters id ∷ HasMember p.identifier ∷ Leaves ∷ []

abbrev pub result_steps : Option ParamType → List Step
result_steps None = []
result_steps (Some t) = param_type_steps t

abbrev pub operation_steps : Operation → List Step
operation_steps o = result_steps o.result_type ++ DeclaresFeature Kinds.Operation o.identifier
    ∷ flat_map (param_steps o.identifier) (optional_parts o.params) ++ raises_steps (optional_parts o.raises)

-- ---- interfaces and modules

abbrev pub export_steps : Export → List Step
export_steps (Exports.Pragma l) = Says l ∷ []
export_steps (Exports.Declaration d) = declaration_steps d
export_steps (Exports.Attribute a) = attribute_steps a
export_steps (Exports.Operation o) = operation_steps o

-- an interface counts as defined behind its bases, of which it isn't one
abbrev pub interface_steps : Interface → List Step
interface_steps (Ahead id) = Declares Kinds.Interface id ∷ []
interface_steps (Defined id bases exports) = Declares Kinds.Interface id ∷ IsUndefined id
    ∷ map (HasBase id) (optional_parts bases) ++ Enters id ∷ Defines id
    ∷ flat_map export_steps exports.items ++ Leaves ∷ []

abbrev pub module_body : Leaf → List Step → List Step
module_body id inner = Declares Kinds.Module id ∷ Enters id ∷ inner ++ Leaves ∷ []

abbrev mutual
  pub definition_steps : Definition → List Step
  definition_steps (Pragma l) = Says l ∷ []
  definition_steps (Declared d) = declaration_steps d
  definition_steps (InterfaceDcl i) = interface_steps i
  definition_steps (Module' id shape definitions) = module_body id (definitions_steps definitions)

  pub definitions_steps : {n : _} → Row_of-Definition n → List Step
  definitions_steps end_of-Definition = []
  definitions_steps (more_of-Definition d rest) = definition_steps d ++ definitions_steps rest

abbrev pub steps_of : List Definition → List Step
steps_of definitions = flat_map definition_steps definitions
