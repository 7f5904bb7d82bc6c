-- Trees of one shape ask the same of their names, step by step.
use Rattle.std.proofs.Common.{◌≡◌, [], ◌∷◌, map, Option, Some, None, refl}
use Rattle.std.specs.List.{flat_map}
use Rattle.idl_tree.specs.Lists.{parts}
use Rattle.idl_tree.specs.declared.names.Leaf.{Leaf}
use Rattle.idl_tree.specs.declared.names.Listed.{Listed}
use Rattle.idl_tree.specs.declared.const_expr.ConstExpr.{ConstExpr}
use Rattle.idl_tree.specs.declared.const_expr.Bound.{Bound}
use Rattle.idl_tree.specs.declared.types.ConstType.{ConstType}
use Rattle.idl_tree.specs.declared.types.ConstType.TheVariants as ConstTypes
use Rattle.idl_tree.specs.declared.types.ParamType.{ParamType}
use Rattle.idl_tree.specs.declared.types.ParamType.TheVariants as ParamTypes
use Rattle.idl_tree.specs.declared.types.SimpleType.{SimpleType, Plain, Sequence'}
use Rattle.idl_tree.specs.declared.types.Declarator.{Declarator}
use Rattle.idl_tree.specs.declared.types.EnumType.{EnumType}
use Rattle.idl_tree.specs.declared.types.SwitchType.{SwitchType}
use Rattle.idl_tree.specs.declared.types.SwitchType.TheVariants as SwitchTypes
use Rattle.idl_tree.specs.declared.types.Label.{Label}
use Rattle.idl_tree.specs.declared.types.Label.TheVariants as Labels
use Rattle.idl_tree.specs.declared.types.TypeSpec.{TypeSpec, Simple, Struct, Union, Enum}
use Rattle.idl_tree.specs.declared.types.StructType.{StructType, StructType', Row_of-Member, end_of-Member, more_of-Member}
use Rattle.idl_tree.specs.declared.types.UnionType.{UnionType, UnionType', Row_of-Case, end_of-Case, more_of-Case}
use Rattle.idl_tree.specs.declared.types.Member.{Member}
use Rattle.idl_tree.specs.declared.kinds.EntryKind.{EntryKind}
use Rattle.idl_tree.specs.declared.kinds.EntryKind.TheVariants as Kinds
use Rattle.name_steps.specs.Steps.{Declares, DeclaresEnum, DeclaresEnumerator, DeclaresTypedef, HasMember, Enters, Defines, Leaves, NamesType, HasWorth, IsSize, bound_steps, const_type_steps, param_type_steps, simple_type_steps, size_step, label_steps, typedef_steps, declarator_steps, enum_steps, switch_steps, opening, type_steps, struct_steps, union_steps, members_steps, cases_steps, member_steps}
use Rattle.idl_tree.specs.Shapes.{leaf_shape, optional_shape, listed_shape, bound_shape, const_expr_shape}
use Rattle.idl_tree.specs.TypeShapes.{const_type_shape, param_type_shape, simple_type_shape, declarator_shape, enum_shape, switch_shape, label_shape, type_shape, struct_shape, union_shape, members_shape, cases_shape, member_shape}
use Rattle.shape_laws.proofs.Apart.{apart}
use Rattle.shape_laws.proofs.NameStepShapes.{Alike, step_shape, none, led, single, joined, flat_parts, map_alike, map_parts}

-- ---- types that declare nothing

bounds_alike : (a b : Option Bound) → optional_shape bound_shape a ≡ optional_shape bound_shape b
    → Alike (bound_steps a) (bound_steps b)
bounds_alike None None h = none
bounds_alike (Some a) (Some b) h = single (IsSize a.expr.value) (IsSize b.expr.value) cc
bounds_alike a b h = absurd cc

pub const_type_alike : (a b : ConstType) → const_type_shape a ≡ const_type_shape b
    → Alike (const_type_steps a) (const_type_steps b)
const_type_alike (ConstTypes.Integer i) (ConstTypes.Integer j) h = none
const_type_alike ConstTypes.Char ConstTypes.Char h = none
const_type_alike ConstTypes.Boolean ConstTypes.Boolean h = none
const_type_alike ConstTypes.Octet ConstTypes.Octet h = none
const_type_alike (ConstTypes.String a) (ConstTypes.String b) h = bounds_alike a b cc
const_type_alike (ConstTypes.Name n) (ConstTypes.Name m) h = single (NamesType n) (NamesType m) cc
const_type_alike a b h = apart h refl

pub param_type_alike : (a b : ParamType) → param_type_shape a ≡ param_type_shape b
    → Alike (param_type_steps a) (param_type_steps b)
param_type_alike (ParamTypes.Plain t) (ParamTypes.Plain u) h = const_type_alike t u cc
param_type_alike ParamTypes.Object ParamTypes.Object h = none
param_type_alike a b h = apart h refl

simple_type_alike : (a b : SimpleType) → simple_type_shape a ≡ simple_type_shape b
    → Alike (simple_type_steps a) (simple_type_steps b)
simple_type_alike (Plain t) (Plain u) h = param_type_alike t u cc
simple_type_alike (Sequence' p e bound) (Sequence' q f other) h =
    joined (simple_type_alike e f cc) (bounds_alike bound other cc)
simple_type_alike a b h = apart h refl

label_alike : (a b : Label) → label_shape a ≡ label_shape b → Alike (label_steps a) (label_steps b)
label_alike (Labels.Case x) (Labels.Case y) h = single (HasWorth x.expr) (HasWorth y.expr) cc
label_alike (Labels.Default l) (Labels.Default m) h = none
label_alike a b h = apart h refl

-- ---- declarators

size_alike : (a b : ConstExpr) → const_expr_shape a ≡ const_expr_shape b
    → step_shape (size_step a) ≡ step_shape (size_step b)
size_alike a b h = cc

sizes_alike : (a b : Declarator) → declarator_shape a ≡ declarator_shape b
    → Alike (map size_step a.sizes.items) (map size_step b.sizes.items)
sizes_alike a b h = map_alike const_expr_shape size_step size_step size_alike a.sizes.items b.sizes.items cc

pub typedef_alike : (t u : TypeSpec) → type_shape t ≡ type_shape u
    → (a b : Declarator) → declarator_shape a ≡ declarator_shape b → Alike (typedef_steps t a) (typedef_steps u b)
typedef_alike t u k a b h = led (DeclaresTypedef t a) (DeclaresTypedef u b) (cc) (sizes_alike a b h)

declarator_alike : (a b : Declarator) → declarator_shape a ≡ declarator_shape b
    → Alike (declarator_steps a) (declarator_steps b)
declarator_alike a b h = led (HasMember a.identifier) (HasMember b.identifier) (cc) (sizes_alike a b h)

declarators_alike : (a b : Listed Declarator) → listed_shape declarator_shape a ≡ listed_shape declarator_shape b
    → Alike (flat_map declarator_steps (parts a)) (flat_map declarator_steps (parts b))
declarators_alike = flat_parts declarator_shape declarator_steps declarator_steps declarator_alike

labels_alike : (a b : Listed Label) → listed_shape label_shape a ≡ listed_shape label_shape b
    → Alike (flat_map label_steps (parts a)) (flat_map label_steps (parts b))
labels_alike = flat_parts label_shape label_steps label_steps label_alike

-- ---- types

pub enum_alike : (a b : EnumType) → enum_shape a ≡ enum_shape b → Alike (enum_steps a) (enum_steps b)
enum_alike a b h =
    led (DeclaresEnum a.identifier) (DeclaresEnum b.identifier) (cc)
    (map_parts leaf_shape DeclaresEnumerator DeclaresEnumerator (λ l m k. cc) a.enumerators.value b.enumerators.value
    cc)

switch_alike : (a b : SwitchType) → switch_shape a ≡ switch_shape b → Alike (switch_steps a) (switch_steps b)
switch_alike (SwitchTypes.Enum e) (SwitchTypes.Enum f) h = enum_alike e f cc
switch_alike (SwitchTypes.Integer i) (SwitchTypes.Integer j) h = none
switch_alike SwitchTypes.Char SwitchTypes.Char h = none
switch_alike SwitchTypes.Boolean SwitchTypes.Boolean h = none
switch_alike (SwitchTypes.Name n) (SwitchTypes.Name m) h = single (NamesType n) (NamesType m) cc
switch_alike a b h = apart h refl

opening_alike : (kind : EntryKind) (l m : Leaf) → leaf_shape l ≡ leaf_shape m → Alike (opening kind l) (opening kind m)
opening_alike kind l m h =
    led (Declares kind l) (Declares kind m) (cc) (led (Enters l) (Enters m) (cc) (single (Defines l) (Defines m) cc))

pub left : Alike (Leaves ∷ []) (Leaves ∷ [])
left = single Leaves Leaves refl

mutual
  pub type_alike : (a b : TypeSpec) → type_shape a ≡ type_shape b → Alike (type_steps a) (type_steps b)
  type_alike (Simple t) (Simple u) h = simple_type_alike t u cc
  type_alike (Struct s) (Struct r) h = struct_alike s r cc
  type_alike (Union u) (Union v) h = union_alike u v cc
  type_alike (Enum e) (Enum f) h = enum_alike e f cc
  type_alike a b h = apart h refl

  pub struct_alike : (a b : StructType) → struct_shape a ≡ struct_shape b → Alike (struct_steps a) (struct_steps b)
  struct_alike (StructType' l p t ds form rest) (StructType' m q u es form' rest') h =
      joined (joined (joined (opening_alike Kinds.Struct l m cc)
      (joined (type_alike t u cc) (declarators_alike ds es cc)))
      (members_alike rest rest' cc)) left

  pub union_alike : (a b : UnionType) → union_shape a ≡ union_shape b → Alike (union_steps a) (union_steps b)
  union_alike (UnionType' l s p ls t d form rest) (UnionType' m r q ms u e form' rest') h =
      joined (joined (joined (joined (opening_alike Kinds.Union l m cc) (switch_alike s.value r.value cc))
      (joined (joined (labels_alike ls ms cc) (type_alike t u cc)) (declarator_alike d e cc)))
      (cases_alike rest rest' cc)) left

  members_alike : {n k : _} (a : Row_of-Member n) (b : Row_of-Member k) → members_shape a ≡ members_shape b
      → Alike (members_steps a) (members_steps b)
  members_alike end_of-Member end_of-Member h = none
  members_alike (more_of-Member t ds rest) (more_of-Member u es rest') h =
      joined (joined (type_alike t u cc) (declarators_alike ds es cc)) (members_alike rest rest' cc)
  members_alike a b h = absurd cc

  cases_alike : {n k : _} (a : Row_of-Case n) (b : Row_of-Case k) → cases_shape a ≡ cases_shape b
      → Alike (cases_steps a) (cases_steps b)
  cases_alike end_of-Case end_of-Case h = none
  cases_alike (more_of-Case ls t d rest) (more_of-Case ms u e rest') h =
      joined (joined (joined (labels_alike ls ms cc) (type_alike t u cc)) (declarator_alike d e cc))
      (cases_alike rest rest' cc)
  cases_alike a b h = absurd cc

pub member_alike : (a b : Member) → member_shape a ≡ member_shape b → Alike (member_steps a) (member_steps b)
member_alike a b h = joined (type_alike a.member_type b.member_type cc)
    (declarators_alike a.declarators b.declarators cc)
