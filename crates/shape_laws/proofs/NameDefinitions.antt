-- Definitions of one shape ask the same of their names, step by step.
use Rattle.std.proofs.Common.{◌≡◌, List, map, Option, Some, None, refl}
use Rattle.std.specs.List.{flat_map}
use Rattle.idl_tree.specs.Lists.{parts}
use Rattle.idl_tree.specs.declared.names.Leaf.{Leaf}
use Rattle.idl_tree.specs.declared.names.Listed.{Listed}
use Rattle.idl_tree.specs.declared.names.ScopedName.{ScopedName}
use Rattle.idl_tree.specs.declared.types.ParamType.{ParamType}
use Rattle.idl_tree.specs.declared.definitions.TypeDcl.{TypeDcl}
use Rattle.idl_tree.specs.declared.definitions.TypeDcl.TheVariants as TypeDcls
use Rattle.idl_tree.specs.declared.definitions.Const.{Const}
use Rattle.idl_tree.specs.declared.definitions.Except.{Except}
use Rattle.idl_tree.specs.declared.definitions.Declaration.{Declaration}
use Rattle.idl_tree.specs.declared.definitions.Declaration.TheVariants as Declarations
use Rattle.idl_tree.specs.declared.definitions.Attributes.{Attributes}
use Rattle.idl_tree.specs.declared.definitions.Attributes.TheVariants.{Silent, Readonly, Get, Set}
use Rattle.idl_tree.specs.declared.definitions.Attribute.{Attribute}
use Rattle.idl_tree.specs.declared.definitions.Operation.{Operation}
use Rattle.idl_tree.specs.declared.definitions.Param.{Param}
use Rattle.idl_tree.specs.declared.definitions.Export.{Export}
use Rattle.idl_tree.specs.declared.definitions.Export.TheVariants as Exports
use Rattle.idl_tree.specs.declared.definitions.Interface.{Interface}
use Rattle.idl_tree.specs.declared.definitions.Interface.TheVariants.{Ahead, Defined}
use Rattle.idl_tree.specs.declared.definitions.Definition.{Definition, Pragma, Declaration as Declared, Interface as InterfaceDcl, Module', Row_of-Definition, end_of-Definition, more_of-Definition}
use Rattle.idl_tree.specs.declared.kinds.EntryKind.TheVariants as Kinds
use Rattle.name_steps.specs.Steps.{Declares, IsNew, DeclaresConst, DeclaresFeature, HasMember, IsUndefined, HasBase, Enters, Defines, NamesException, Says, member_steps, typedef_steps, type_dcl_steps, const_steps, except_steps, declaration_steps, optional_parts, raises_steps, attributes_steps, attribute_steps, param_steps, result_steps, operation_steps, export_steps, interface_steps, definition_steps, definitions_steps, steps_of}
use Rattle.idl_tree.specs.Shapes.{leaf_shape, optional_shape, listed_shape, name_shape, names_shape}
use Rattle.idl_tree.specs.TypeShapes.{param_type_shape, declarator_shape, member_shape}
use Rattle.idl_tree.specs.DefinitionShapes.{type_dcl_shape, const_shape, except_shape, declaration_shape, attributes_shape, attribute_shape, param_shape, operation_shape, export_shape, interface_shape, definition_shape, definitions_shape, spec_shape}
use Rattle.shape_laws.proofs.Apart.{apart}
use Rattle.shape_laws.proofs.NameStepShapes.{Alike, step_shape, none, led, single, joined, flat_alike, flat_parts, map_parts}
use Rattle.shape_laws.proofs.NameSteps.{const_type_alike, param_type_alike, typedef_alike, type_alike, struct_alike, union_alike, enum_alike, member_alike, left}

-- ---- declarations

type_dcl_alike : (a b : TypeDcl) → type_dcl_shape a ≡ type_dcl_shape b → Alike (type_dcl_steps a) (type_dcl_steps b)
type_dcl_alike (TypeDcls.Typedef t ds) (TypeDcls.Typedef u es) h =
    joined (type_alike t u cc)
    (flat_parts declarator_shape (typedef_steps t) (typedef_steps u) (typedef_alike t u cc) ds es cc)
type_dcl_alike (TypeDcls.Struct s) (TypeDcls.Struct r) h = struct_alike s r cc
type_dcl_alike (TypeDcls.Union u) (TypeDcls.Union v) h = union_alike u v cc
type_dcl_alike (TypeDcls.Enum e) (TypeDcls.Enum f) h = enum_alike e f cc
type_dcl_alike (TypeDcls.StructAhead l) (TypeDcls.StructAhead m) h =
    single (Declares Kinds.Struct l) (Declares Kinds.Struct m) cc
type_dcl_alike (TypeDcls.UnionAhead l) (TypeDcls.UnionAhead m) h =
    single (Declares Kinds.Union l) (Declares Kinds.Union m) cc
type_dcl_alike a b h = apart h refl

const_alike : (a b : Const) → const_shape a ≡ const_shape b → Alike (const_steps a) (const_steps b)
const_alike a b h =
    joined (const_type_alike a.const_type b.const_type cc)
    (led (IsNew a.identifier) (IsNew b.identifier) (cc) (single (DeclaresConst a) (DeclaresConst b) cc))

except_alike : (a b : Except) → except_shape a ≡ except_shape b → Alike (except_steps a) (except_steps b)
except_alike a b h =
    led (Declares Kinds.Exception a.identifier) (Declares Kinds.Exception b.identifier) (cc)
    (led (Enters a.identifier) (Enters b.identifier) (cc)
    (joined (flat_alike member_shape member_steps member_steps member_alike a.members.items b.members.items cc) left))

declaration_alike : (a b : Declaration) → declaration_shape a ≡ declaration_shape b
    → Alike (declaration_steps a) (declaration_steps b)
declaration_alike (Declarations.TypeDcl t) (Declarations.TypeDcl u) h = type_dcl_alike t u cc
declaration_alike (Declarations.Const c) (Declarations.Const d) h = const_alike c d cc
declaration_alike (Declarations.Except e) (Declarations.Except f) h = except_alike e f cc
declaration_alike a b h = apart h refl

-- ---- operations and attributes

raises_alike : (a b : Listed ScopedName) → names_shape a ≡ names_shape b
    → Alike (raises_steps (parts a)) (raises_steps (parts b))
raises_alike = map_parts name_shape NamesException NamesException (λ n m k. cc)

optional_raises_alike : (a b : Option (Listed ScopedName)) → optional_shape names_shape a ≡ optional_shape names_shape b
    → Alike (raises_steps (optional_parts a)) (raises_steps (optional_parts b))
optional_raises_alike None None h = none
optional_raises_alike (Some a) (Some b) h = raises_alike a b cc
optional_raises_alike a b h = absurd cc

feature_alike : (l m : Leaf) → leaf_shape l ≡ leaf_shape m
    → step_shape (DeclaresFeature Kinds.Attribute l) ≡ step_shape (DeclaresFeature Kinds.Attribute m)
feature_alike l m h = cc

attributes_alike : (a b : Attributes) → attributes_shape a ≡ attributes_shape b
    → Alike (attributes_steps a) (attributes_steps b)
attributes_alike (Silent only ls) (Silent only' ms) h =
    map_parts leaf_shape (DeclaresFeature Kinds.Attribute) (DeclaresFeature Kinds.Attribute) feature_alike ls ms cc
attributes_alike (Readonly l ns) (Readonly m os) h =
    led (DeclaresFeature Kinds.Attribute l) (DeclaresFeature Kinds.Attribute m) (cc) (raises_alike ns os cc)
attributes_alike (Get l get set) (Get m get' set') h =
    led (DeclaresFeature Kinds.Attribute l) (DeclaresFeature Kinds.Attribute m) (cc)
    (joined (raises_alike get get' cc) (optional_raises_alike set set' cc))
attributes_alike (Set l set) (Set m set') h =
    led (DeclaresFeature Kinds.Attribute l) (DeclaresFeature Kinds.Attribute m) (cc) (raises_alike set set' cc)
attributes_alike a b h = apart h refl

attribute_alike : (a b : Attribute) → attribute_shape a ≡ attribute_shape b
    → Alike (attribute_steps a) (attribute_steps b)
attribute_alike a b h = joined (param_type_alike a.attribute_type b.attribute_type cc)
    (attributes_alike a.declared b.declared cc)

-- of an operation whose identifier is that
param_alike : (l m : Leaf) → leaf_shape l ≡ leaf_shape m
    → (a b : Param) → param_shape a ≡ param_shape b → Alike (param_steps l a) (param_steps m b)
param_alike l m k a b h =
    joined (param_type_alike a.param_type b.param_type cc)
    (led (Enters l) (Enters m) (cc) (led (HasMember a.identifier) (HasMember b.identifier) (cc) left))

params_alike : (l m : Leaf) → leaf_shape l ≡ leaf_shape m
    → (a b : Option (Listed Param)) → optional_shape (listed_shape param_shape) a
    ≡ optional_shape (listed_shape param_shape) b
    → Alike (flat_map (param_steps l) (optional_parts a)) (flat_map (param_steps m) (optional_parts b))
params_alike l m k None None h = none
params_alike l m k (Some a) (Some b) h =
    flat_parts param_shape (param_steps l) (param_steps m) (param_alike l m k) a b cc
params_alike l m k a b h = absurd cc

result_alike : (a b : Option ParamType) → optional_shape param_type_shape a ≡ optional_shape param_type_shape b
    → Alike (result_steps a) (result_steps b)
result_alike None None h = none
result_alike (Some t) (Some u) h = param_type_alike t u cc
result_alike a b h = absurd cc

operation_alike : (a b : Operation) → operation_shape a ≡ operation_shape b
    → Alike (operation_steps a) (operation_steps b)
operation_alike a b h =
    joined (joined (result_alike a.result_type b.result_type cc)
    (led (DeclaresFeature Kinds.Operation a.identifier) (DeclaresFeature Kinds.Operation b.identifier) (cc)
    (params_alike a.identifier b.identifier (cc) a.params b.params cc)))
    (optional_raises_alike a.raises b.raises cc)

-- ---- interfaces and modules

export_alike : (a b : Export) → export_shape a ≡ export_shape b → Alike (export_steps a) (export_steps b)
export_alike (Exports.Pragma l) (Exports.Pragma m) h = single (Says l) (Says m) cc
export_alike (Exports.Declaration d) (Exports.Declaration e) h = declaration_alike d e cc
export_alike (Exports.Attribute a) (Exports.Attribute b) h = attribute_alike a b cc
export_alike (Exports.Operation a) (Exports.Operation b) h = operation_alike a b cc
export_alike a b h = apart h refl

bases_alike : (l m : Leaf) → leaf_shape l ≡ leaf_shape m
    → (a b : Option (Listed ScopedName)) → optional_shape names_shape a ≡ optional_shape names_shape b
    → Alike (map (HasBase l) (optional_parts a)) (map (HasBase m) (optional_parts b))
bases_alike l m k None None h = none
bases_alike l m k (Some a) (Some b) h = map_parts name_shape (HasBase l) (HasBase m) (λ x y e. cc) a b cc
bases_alike l m k a b h = absurd cc

interface_alike : (a b : Interface) → interface_shape a ≡ interface_shape b
    → Alike (interface_steps a) (interface_steps b)
interface_alike (Ahead l) (Ahead m) h = single (Declares Kinds.Interface l) (Declares Kinds.Interface m) cc
interface_alike (Defined l bases es) (Defined m bases' fs) h =
    let k : leaf_shape l ≡ leaf_shape m = cc in
    led (Declares Kinds.Interface l) (Declares Kinds.Interface m) (cc) (led (IsUndefined l) (IsUndefined m) (cc)
    (joined (joined (bases_alike l m k bases bases' cc)
    (led (Enters l) (Enters m) (cc) (led (Defines l) (Defines m) (cc)
    (flat_alike export_shape export_steps export_steps export_alike es.items fs.items cc)))) left))
interface_alike a b h = apart h refl

mutual
  definition_alike : (a b : Definition) → definition_shape a ≡ definition_shape b
      → Alike (definition_steps a) (definition_steps b)
  definition_alike (Pragma l) (Pragma m) h = single (Says l) (Says m) cc
  definition_alike (Declared d) (Declared e) h = declaration_alike d e cc
  definition_alike (InterfaceDcl i) (InterfaceDcl j) h = interface_alike i j cc
  definition_alike (Module' l form ds) (Module' m form' es) h =
      led (Declares Kinds.Module l) (Declares Kinds.Module m) (cc) (led (Enters l) (Enters m) (cc)
      (joined (definitions_alike ds es cc) left))
  definition_alike a b h = apart h refl

  definitions_alike : {n k : _} (a : Row_of-Definition n) (b : Row_of-Definition k)
      → definitions_shape a ≡ definitions_shape b
      → Alike (definitions_steps a) (definitions_steps b)
  definitions_alike end_of-Definition end_of-Definition h = none
  definitions_alike (more_of-Definition d ds) (more_of-Definition e es) h =
      joined (definition_alike d e cc) (definitions_alike ds es cc)
  definitions_alike a b h = absurd cc

pub steps_alike : (a b : List Definition) → spec_shape a ≡ spec_shape b → Alike (steps_of a) (steps_of b)
steps_alike a b h = flat_alike definition_shape definition_steps definition_steps definition_alike a b h
