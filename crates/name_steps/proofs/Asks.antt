-- How the pieces that a tree spells ask its steps.
use Rattle.std.proofs.Common.{◌≡◌, Bool, true, sym, false, refl, ℕ, List, [], ◌∷◌, ◌++◌, Option, Some, None, codes, append-nil, append_assoc, subst}
use Rattle.std.specs.Prelude.{map}
use Rattle.std.specs.List.{flat_map}
use Rattle.idl_tree.specs.declared.names.Leaf.{Leaf}
use Rattle.idl_tree.specs.declared.names.Listed.{Listed}
use Rattle.idl_tree.specs.declared.names.ScopedName.{ScopedName}
use Rattle.idl_tree.specs.declared.const_expr.ConstExpr.{ConstExpr}
use Rattle.idl_tree.specs.declared.const_expr.Bound.{Bound}
use Rattle.idl_tree.specs.declared.types.Integer.{Integer}
use Rattle.idl_tree.specs.declared.types.Integer.TheVariants.{Signed, Unsigned}
use Rattle.idl_tree.specs.declared.types.IntegerSize.{IntegerSize}
use Rattle.idl_tree.specs.declared.types.IntegerSize.TheVariants.{Short, Long, LongLong}
use Rattle.idl_tree.specs.declared.types.ConstType.{ConstType}
use Rattle.idl_tree.specs.declared.types.ConstType.TheVariants as ConstTypes
use Rattle.idl_tree.specs.declared.types.ParamType.{ParamType}
use Rattle.idl_tree.specs.declared.types.ParamType.TheVariants as ParamTypes
use Rattle.idl_tree.specs.declared.types.SimpleType.{SimpleType, Plain, Sequence'}
use Rattle.idl_tree.specs.declared.types.Declarator.{Declarator}
use Rattle.idl_tree.specs.declared.types.EnumType.{EnumType}
use Rattle.idl_tree.specs.declared.types.Label.{Label}
use Rattle.idl_tree.specs.declared.types.Label.TheVariants as Labels
use Rattle.idl_tree.specs.declared.types.SwitchType.{SwitchType}
use Rattle.idl_tree.specs.declared.types.SwitchType.TheVariants as SwitchTypes
use Rattle.idl_tree.specs.declared.types.TypeSpec.{TypeSpec, Simple, Struct as StructSpec, Union as UnionSpec, Enum as EnumSpec}
use Rattle.idl_tree.specs.declared.types.StructType.{StructType, StructType', Row_of-Member, end_of-Member, more_of-Member}
use Rattle.idl_tree.specs.declared.types.UnionType.{UnionType, UnionType', Row_of-Case, end_of-Case, more_of-Case}
use Rattle.idl_tree.specs.declared.types.Member.{Member}
use Rattle.idl_tree.specs.declared.definitions.TypeDcl.{TypeDcl}
use Rattle.idl_tree.specs.declared.definitions.TypeDcl.TheVariants as TypeDcls
use Rattle.idl_tree.specs.declared.definitions.Const.{Const}
use Rattle.idl_tree.specs.declared.definitions.Except.{Except}
use Rattle.idl_tree.specs.declared.definitions.Declaration.{Declaration}
use Rattle.idl_tree.specs.declared.definitions.Declaration.TheVariants as Declarations
use Rattle.idl_tree.specs.declared.definitions.Attributes.{Attributes}
use Rattle.idl_tree.specs.declared.definitions.Attributes.TheVariants.{Silent, Readonly, Get, Set}
use Rattle.idl_tree.specs.declared.definitions.Attribute.{Attribute}
use Rattle.idl_tree.specs.declared.definitions.Operation.{Operation}
use Rattle.idl_tree.specs.declared.definitions.Param.{Param}
use Rattle.idl_tree.specs.declared.definitions.Direction.{Direction}
use Rattle.idl_tree.specs.declared.definitions.Direction.TheVariants.{In, Out, InOut}
use Rattle.idl_tree.specs.declared.definitions.Export.{Export}
use Rattle.idl_tree.specs.declared.definitions.Export.TheVariants as Exports
use Rattle.idl_tree.specs.declared.definitions.Interface.{Interface}
use Rattle.idl_tree.specs.declared.definitions.Interface.TheVariants.{Ahead, Defined}
use Rattle.idl_tree.specs.declared.definitions.Definition.{Definition, Pragma, Declaration as Declared, Interface as InterfaceDcl, Module', Row_of-Definition, end_of-Definition, more_of-Definition}
use Rattle.idl_tree.specs.Pieces.{Piece, keyword, kept, mark, piece}
use Rattle.idl_tree.specs.Yields.{const_expr_yield, identifier, in_order, listed, name_yield, optional}
use Rattle.idl_tree.specs.TypeYields.{cases_yield, const_type_yield, declarator_yield, enum_yield, integer_size_yield, integer_yield, label_yield, member_yield, members_yield, param_type_yield, sequence_bound_yield, simple_type_yield, size_yield, string_bound_yield, struct_yield, switch_yield, type_yield, union_yield}
use Rattle.idl_tree.specs.DefinitionYields.{attribute_yield, attributes_yield, bases_yield, const_yield, declaration_yield, definition_yield, definitions_spelled, definitions_yield, direction_yield, except_yield, export_yield, interface_yield, is_readonly, oneway_yield, operation_yield, param_yield, raises_yield, readonly_yield, result_yield, type_dcl_yield}
use Rattle.idl_tree.specs.Lists.{parts}
use Rattle.idl_tree.specs.declared.kinds.EntryKind.{EntryKind}
use Rattle.idl_tree.specs.declared.kinds.EntryKind.TheVariants as Kinds
use Rattle.name_steps.specs.Steps.{Step, Declares, DeclaresEnum, DeclaresEnumerator, DeclaresTypedef, IsNew, DeclaresConst, DeclaresFeature, HasMember, IsUndefined, HasBase, Enters, Defines, Leaves, NamesType, NamesException, HasWorth, IsSize, Says, attribute_steps, attributes_steps, bound_steps, cases_steps, const_steps, const_type_steps, declaration_steps, declarator_steps, definition_steps, definitions_steps, enum_steps, except_steps, export_steps, interface_steps, label_steps, member_steps, members_steps, operation_steps, optional_parts, param_steps, param_type_steps, raises_steps, result_steps, simple_type_steps, size_step, steps_of, struct_steps, switch_steps, type_dcl_steps, type_steps, typedef_steps, union_steps}
use Rattle.name_steps.specs.Asked.{is_asked, pieces_of}

-- a step that asks for what stands at its place, and for nothing else
abbrev pub IsPlain : Step → Type 0
IsPlain (IsNew l) = ⊥
IsPlain (DeclaresConst c) = ⊥
IsPlain (IsUndefined l) = ⊥
IsPlain (HasBase l name) = ⊥
IsPlain (Enters l) = ⊥
IsPlain (Defines l) = ⊥
IsPlain Leaves = ⊥
IsPlain _ = Unit {0}

-- the pieces ask the steps, one behind another, where the leaves are declared
pub data Asks : List Leaf → List Piece → List Step → Type 0 where
  none : {ls : List Leaf} → Asks ls [] []
  silent : {ls : List Leaf} (p : Piece) → is_asked p.kind ≡ false → Asks ls (p ∷ []) []
  joined : {ls : List Leaf} {ps qs : List Piece} {xs ys : List Step} → Asks ls ps xs → Asks ls qs ys
      → Asks ls (ps ++ qs) (xs ++ ys)
  plain : {ls : List Leaf} (s : Step) → IsPlain s → Asks ls (pieces_of s) (s ∷ [])
  -- a base behind its mark
  base : {ls : List Leaf} (text : List ℕ) (id : Leaf) (name : ScopedName)
      → Asks ls (mark text ++ name_yield name) (HasBase id name ∷ [])
  -- a constant's type, and then its name, `=` and its value
  valued : {ls : List Leaf} (c : Const) → Asks ls (const_type_yield c.const_type) (const_type_steps c.const_type)
      → Asks ls (const_type_yield c.const_type
      ++ ((identifier c.identifier ++ mark (codes "=")) ++ const_expr_yield c.value))
      (const_type_steps c.const_type ++ IsNew c.identifier ∷ DeclaresConst c ∷ [])
  -- what stands behind a declaration
  declared : {ls : List Leaf} {ps : List Piece} {xs : List Step} (kind : EntryKind) (id : Leaf) → Asks (id ∷ ls) ps xs
      → Asks ls (identifier id ++ ps) (Declares kind id ∷ xs)
  featured : {ls : List Leaf} {ps : List Piece} {xs : List Step} (kind : EntryKind) (id : Leaf) → Asks (id ∷ ls) ps xs
      → Asks ls (identifier id ++ ps) (DeclaresFeature kind id ∷ xs)
  undefined : {ls : List Leaf} {ps : List Piece} {xs : List Step} (kind : EntryKind) (id : Leaf) → Asks (id ∷ ls) ps xs
      → Asks ls (identifier id ++ ps) (Declares kind id ∷ IsUndefined id ∷ xs)
  -- what stands inside
  inside : {ls : List Leaf} {ps : List Piece} {xs : List Step} (id : Leaf) → Asks [] ps xs
      → Asks (id ∷ ls) ps (Enters id ∷ (xs ++ Leaves ∷ []))
  defines : {ls : List Leaf} {ps : List Piece} {xs : List Step} (id : Leaf) → Asks ls ps xs
      → Asks ls ps (Defines id ∷ xs)

-- ---- pieces that ask for nothing

word : {ls : List Leaf} (text : List ℕ) → Asks ls (keyword text) []
unfolding piece
word text = silent _ refl

quiet : {ls : List Leaf} (text : List ℕ) → Asks ls (mark text) []
unfolding piece
quiet text = silent _ refl

-- the same pieces, and the same steps
moved : {ls : List Leaf} {ps qs : List Piece} {xs : List Step} → ps ≡ qs → Asks ls ps xs → Asks ls qs xs
moved {ls} {ps} {qs} {xs} same a = subst (λ rs. Asks ls rs xs) same a

grouped : {ls : List Leaf} {ps : List Piece} {xs ys : List Step} → xs ≡ ys → Asks ls ps xs → Asks ls ps ys
grouped {ls} {ps} same a = subst (Asks ls ps) same a

begun : {ls : List Leaf} {ps qs : List Piece} {ys : List Step} → Asks ls ps [] → Asks ls qs ys → Asks ls (ps ++ qs) ys
begun a b = joined a b

ended : {ls : List Leaf} {ps qs : List Piece} {xs : List Step} → Asks ls ps xs → Asks ls qs [] → Asks ls (ps ++ qs) xs
ended {xs = xs} a b = grouped (append-nil xs) (joined a b)

-- ---- lists of parts

pub each_part : {ls : List Leaf} {T : Type 0} (yield : T → List Piece) (steps : T → List Step)
    → ((x : T) → Asks ls (yield x) (steps x)) → (xs : List T)
    → Asks ls (flat_map yield xs) (flat_map steps xs)
each_part yield steps part [] = none
each_part yield steps part (x ∷ xs) = joined (part x) (each_part yield steps part xs)

-- one step for each
pub each_step : {ls : List Leaf} {T : Type 0} (yield : T → List Piece) (step : T → Step)
    → ((x : T) → Asks ls (yield x) (step x ∷ [])) → (xs : List T)
    → Asks ls (flat_map yield xs) (map step xs)
each_step yield step part [] = none
each_step yield step part (x ∷ xs) = joined (part x) (each_step yield step part xs)

pub listed_parts : {ls : List Leaf} {T : Type 0} (yield : T → List Piece) (steps : T → List Step)
    → ((x : T) → Asks ls (yield x) (steps x)) → (l : Listed T)
    → Asks ls (listed yield l) (flat_map steps (parts l))
listed_parts yield steps part l =
    joined (part l.first) (each_part (λ x. mark (codes ",") ++ yield x) steps (λ x. begun (quiet (codes ",")) (part x))
    l.rest.items)

listed_steps : {ls : List Leaf} {T : Type 0} (yield : T → List Piece) (step : T → Step)
    → ((x : T) → Asks ls (yield x) (step x ∷ [])) → (l : Listed T)
    → Asks ls (listed yield l) (map step (parts l))
listed_steps yield step part l =
    joined (part l.first) (each_step (λ x. mark (codes ",") ++ yield x) step (λ x. begun (quiet (codes ",")) (part x))
    l.rest.items)

-- ---- types that declare nothing

string_bound_asks : {ls : List Leaf} (b : Option Bound) → Asks ls (optional string_bound_yield b) (bound_steps b)
string_bound_asks None = none
string_bound_asks (Some b) = ended (begun (quiet (codes "<")) (plain (IsSize b.expr.value) tt)) (quiet (codes ">"))

sequence_bound_asks : {ls : List Leaf} (b : Option Bound) → Asks ls (optional sequence_bound_yield b) (bound_steps b)
sequence_bound_asks None = none
sequence_bound_asks (Some b) = begun (quiet (codes ",")) (plain (IsSize b.expr.value) tt)

integer_size_asks : {ls : List Leaf} (size : IntegerSize) → Asks ls (integer_size_yield size) []
integer_size_asks Short = word (codes "short")
integer_size_asks Long = word (codes "long")
integer_size_asks LongLong = joined (word (codes "long")) (word (codes "long"))

integer_asks : {ls : List Leaf} (i : Integer) → Asks ls (integer_yield i) []
integer_asks (Signed size) = integer_size_asks size
integer_asks (Unsigned size) = joined (word (codes "unsigned")) (integer_size_asks size)

pub const_type_asks : {ls : List Leaf} (t : ConstType) → Asks ls (const_type_yield t) (const_type_steps t)
const_type_asks (ConstTypes.Integer i) = integer_asks i
const_type_asks ConstTypes.Char = word (codes "char")
const_type_asks ConstTypes.Boolean = word (codes "boolean")
const_type_asks ConstTypes.Octet = word (codes "octet")
const_type_asks (ConstTypes.String b) = begun (word (codes "string")) (string_bound_asks b)
const_type_asks (ConstTypes.Name name) = plain (NamesType name) tt

pub param_type_asks : {ls : List Leaf} (t : ParamType) → Asks ls (param_type_yield t) (param_type_steps t)
param_type_asks (ParamTypes.Plain t) = const_type_asks t
param_type_asks ParamTypes.Object = word (codes "Object")

pub simple_type_asks : {ls : List Leaf} (t : SimpleType) → Asks ls (simple_type_yield t) (simple_type_steps t)
simple_type_asks (Plain t) = param_type_asks t
simple_type_asks (Sequence' p element b) =
    ended (joined (begun (joined (word (codes "sequence")) (quiet (codes "<"))) (simple_type_asks element))
    (sequence_bound_asks b)) (quiet (codes ">"))

-- ---- types

size_asks : {ls : List Leaf} (size : ConstExpr) → Asks ls (size_yield size) (size_step size ∷ [])
size_asks size = ended (begun (quiet (codes "[")) (plain (IsSize size.expr) tt)) (quiet (codes "]"))

pub sizes_ask : {ls : List Leaf} (sizes : List ConstExpr) → Asks ls (flat_map size_yield sizes) (map size_step sizes)
sizes_ask sizes = each_step size_yield size_step size_asks sizes

pub declarator_asks : {ls : List Leaf} (d : Declarator) → Asks ls (declarator_yield d) (declarator_steps d)
declarator_asks d = joined (plain (HasMember d.identifier) tt) (sizes_ask d.sizes.items)

pub declarators_ask : {ls : List Leaf} (l : Listed Declarator)
    → Asks ls (listed declarator_yield l) (flat_map declarator_steps (parts l))
declarators_ask l = listed_parts declarator_yield declarator_steps declarator_asks l

pub enum_asks : {ls : List Leaf} (e : EnumType) → Asks ls (enum_yield e) (enum_steps e)
enum_asks e =
    let named = begun (word (codes "enum")) (plain (DeclaresEnum e.identifier) tt) in
    let list = listed_steps identifier DeclaresEnumerator (λ l. plain (DeclaresEnumerator l) tt) e.enumerators.value in
    ended (joined (ended named (quiet (codes "{"))) list) (quiet (codes "}"))

pub switch_asks : {ls : List Leaf} (s : SwitchType) → Asks ls (switch_yield s) (switch_steps s)
switch_asks (SwitchTypes.Enum e) = enum_asks e
switch_asks (SwitchTypes.Integer i) = integer_asks i
switch_asks SwitchTypes.Char = word (codes "char")
switch_asks SwitchTypes.Boolean = word (codes "boolean")
switch_asks (SwitchTypes.Name name) = plain (NamesType name) tt

pub label_asks : {ls : List Leaf} (l : Label) → Asks ls (label_yield l) (label_steps l)
unfolding kept
label_asks (Labels.Case value) =
    ended (begun (word (codes "case")) (plain (HasWorth value.expr) tt)) (quiet (codes ":"))
label_asks (Labels.Default l) = joined (silent _ refl) (quiet (codes ":"))

pub labels_ask : {ls : List Leaf} (l : Listed Label) → Asks ls (in_order label_yield l) (flat_map label_steps (parts l))
labels_ask l = joined (label_asks l.first) (each_part label_yield label_steps label_asks l.rest.items)

-- a word, an identifier that is declared, and what stands inside it
body_asks : {ls : List Leaf} {ps : List Piece} {xs : List Step} (text : List ℕ) (kind : EntryKind) (id : Leaf)
    → Asks [] ps xs
    → Asks ls (keyword text ++ (identifier id ++ ps)) (Declares kind id ∷ Enters id ∷ (xs ++ Leaves ∷ []))
body_asks text kind id body = begun (word text) (declared kind id (inside id body))

mutual
  unfolding piece kept

  pub type_asks : {ls : List Leaf} (t : TypeSpec) → Asks ls (type_yield t) (type_steps t)
  type_asks (Simple t) = simple_type_asks t
  type_asks (StructSpec s) = struct_asks s
  type_asks (UnionSpec u) = union_asks u
  type_asks (EnumSpec e) = enum_asks e

  pub struct_asks : {ls : List Leaf} (s : StructType) → Asks ls (struct_yield s) (struct_steps s)
  struct_asks (StructType' id p t declarators shape rest) =
      let first = ended (joined (type_asks t) (declarators_ask declarators)) (quiet (codes ";")) in
      let members = joined (begun (quiet (codes "{")) first) (members_ask rest) in
      body_asks (codes "struct") Kinds.Struct id (defines id (ended members (quiet (codes "}"))))

  pub union_asks : {ls : List Leaf} (u : UnionType) → Asks ls (union_yield u) (union_steps u)
  union_asks (UnionType' id switch p labels t declarator shape rest) =
      let chosen = begun (joined (word (codes "switch")) (quiet (codes "("))) (switch_asks switch.value) in
      let first = ended (joined (joined (labels_ask labels) (type_asks t)) (declarator_asks declarator))
      (quiet (codes ";")) in
      let cases = joined (joined (ended (ended chosen (quiet (codes ")"))) (quiet (codes "{"))) first) (cases_ask rest)
      in
      body_asks (codes "union") Kinds.Union id (defines id (ended cases (quiet (codes "}"))))

  pub members_ask : {ls : List Leaf} {n : _} → (row : Row_of-Member n) → Asks ls (members_yield row) (members_steps row)
  members_ask end_of-Member = none
  members_ask (more_of-Member t declarators rest) =
      joined (ended (joined (type_asks t) (declarators_ask declarators)) (quiet (codes ";"))) (members_ask rest)

  pub cases_ask : {ls : List Leaf} {n : _} → (row : Row_of-Case n) → Asks ls (cases_yield row) (cases_steps row)
  cases_ask end_of-Case = none
  cases_ask (more_of-Case labels t declarator rest) =
      let first = joined (joined (labels_ask labels) (type_asks t)) (declarator_asks declarator) in
      joined (ended first (quiet (codes ";"))) (cases_ask rest)

pub member_asks : {ls : List Leaf} (m : Member) → Asks ls (member_yield m) (member_steps m)
member_asks m = ended (joined (type_asks m.member_type) (declarators_ask m.declarators)) (quiet (codes ";"))

-- ---- declarations

pub type_dcl_asks : {ls : List Leaf} (t : TypeDcl) → Asks ls (type_dcl_yield t) (type_dcl_steps t)
type_dcl_asks (TypeDcls.Typedef t declarators) =
    let names = listed_parts declarator_yield (typedef_steps t)
    (λ d. joined (plain (DeclaresTypedef t d) tt) (sizes_ask d.sizes.items)) declarators in
    joined (begun (word (codes "typedef")) (type_asks t)) names
type_dcl_asks (TypeDcls.Struct s) = struct_asks s
type_dcl_asks (TypeDcls.Union u) = union_asks u
type_dcl_asks (TypeDcls.Enum e) = enum_asks e
type_dcl_asks (TypeDcls.StructAhead id) = begun (word (codes "struct")) (plain (Declares Kinds.Struct id) tt)
type_dcl_asks (TypeDcls.UnionAhead id) = begun (word (codes "union")) (plain (Declares Kinds.Union id) tt)

last_three : (ps qs rs ts : List Piece) → ps ++ ((qs ++ rs) ++ ts) ≡ ((ps ++ qs) ++ rs) ++ ts
last_three ps qs rs ts = simp append_assoc

last_four : (ps qs rs ts us : List Piece) → ps ++ (qs ++ ((rs ++ ts) ++ us)) ≡ (((ps ++ qs) ++ rs) ++ ts) ++ us
last_four ps qs rs ts us = simp append_assoc

pub const_asks : {ls : List Leaf} (c : Const) → Asks ls (const_yield c) (const_steps c)
const_asks c =
    moved (last_four (keyword (codes "const")) (const_type_yield c.const_type) (identifier c.identifier)
    (mark (codes "=")) (const_expr_yield c.value))
    (begun (word (codes "const")) (valued c (const_type_asks c.const_type)))

pub except_asks : {ls : List Leaf} (e : Except) → Asks ls (except_yield e) (except_steps e)
unfolding piece kept
except_asks e =
    let members = begun (quiet (codes "{")) (each_part member_yield member_steps member_asks e.members.items) in
    body_asks (codes "exception") Kinds.Exception e.identifier (ended members (quiet (codes "}")))

pub declaration_asks : {ls : List Leaf} (d : Declaration) → Asks ls (declaration_yield d) (declaration_steps d)
declaration_asks (Declarations.TypeDcl t) = type_dcl_asks t
declaration_asks (Declarations.Const c) = const_asks c
declaration_asks (Declarations.Except e) = except_asks e

-- ---- operations and attributes

pub raises_ask : {ls : List Leaf} (text : List ℕ) (names : Listed ScopedName)
    → Asks ls (raises_yield text names) (raises_steps (parts names))
raises_ask text names =
    let list = listed_steps name_yield NamesException (λ name. plain (NamesException name) tt) names in
    ended (begun (joined (word text) (quiet (codes "("))) list) (quiet (codes ")"))

pub may_raise : {ls : List Leaf} (text : List ℕ) (names : Option (Listed ScopedName))
    → Asks ls (optional (raises_yield text) names) (raises_steps (optional_parts names))
may_raise text None = none
may_raise text (Some names) = raises_ask text names

feature_asks : {ls : List Leaf} (kind : EntryKind) (l : Leaf) → Asks ls (identifier l) (DeclaresFeature kind l ∷ [])
feature_asks kind l = plain (DeclaresFeature kind l) tt

pub attributes_ask : {ls : List Leaf} (a : Attributes) → Asks ls (attributes_yield a) (attributes_steps a)
attributes_ask (Silent only identifiers) =
    listed_steps identifier (DeclaresFeature Kinds.Attribute) (feature_asks Kinds.Attribute) identifiers
attributes_ask (Readonly id names) = joined (feature_asks Kinds.Attribute id) (raises_ask (codes "raises") names)
attributes_ask (Get id get set) =
    joined (joined (feature_asks Kinds.Attribute id) (raises_ask (codes "getraises") get))
    (may_raise (codes "setraises") set)
attributes_ask (Set id set) = joined (feature_asks Kinds.Attribute id) (raises_ask (codes "setraises") set)

readonly_asks : {ls : List Leaf} (only : Bool) → Asks ls (readonly_yield only) []
readonly_asks true = word (codes "readonly")
readonly_asks false = none

pub attribute_asks : {ls : List Leaf} (a : Attribute) → Asks ls (attribute_yield a) (attribute_steps a)
attribute_asks a =
    let front = joined (readonly_asks (is_readonly a.declared)) (word (codes "attribute")) in
    joined (begun front (param_type_asks a.attribute_type)) (attributes_ask a.declared)

direction_asks : {ls : List Leaf} (d : Direction) → Asks ls (direction_yield d) []
direction_asks In = word (codes "in")
direction_asks Out = word (codes "out")
direction_asks InOut = word (codes "inout")

-- where the operation is declared
pub param_asks : {ls : List Leaf} (id : Leaf) (p : Param) → Asks (id ∷ ls) (param_yield p) (param_steps id p)
param_asks id p =
    joined (begun (direction_asks p.direction) (param_type_asks p.param_type))
    (inside id (plain (HasMember p.identifier) tt))

pub params_ask : {ls : List Leaf} (id : Leaf) (params : Option (Listed Param))
    → Asks (id ∷ ls) (optional (listed param_yield) params) (flat_map (param_steps id) (optional_parts params))
params_ask id None = none
params_ask id (Some params) = listed_parts param_yield (param_steps id) (param_asks id) params

oneway_asks : {ls : List Leaf} (only : Bool) → Asks ls (oneway_yield only) []
oneway_asks true = word (codes "oneway")
oneway_asks false = none

pub result_asks : {ls : List Leaf} (t : Option ParamType) → Asks ls (result_yield t) (result_steps t)
result_asks None = word (codes "void")
result_asks (Some t) = param_type_asks t

pub operation_asks : {ls : List Leaf} (o : Operation) → Asks ls (operation_yield o) (operation_steps o)
operation_asks o =
    let front = oneway_yield o.is_oneway ++ result_yield o.result_type in
    let params = ended (begun (quiet (codes "(")) (params_ask o.identifier o.params)) (quiet (codes ")")) in
    let named = joined (begun (oneway_asks o.is_oneway) (result_asks o.result_type))
    (featured Kinds.Operation o.identifier params) in
    let all = last_four front (identifier o.identifier) (mark (codes "(")) (optional (listed param_yield) o.params)
    (mark (codes ")")) in
    joined (moved all named) (may_raise (codes "raises") o.raises)

-- ---- interfaces and modules

pub export_asks : {ls : List Leaf} (x : Export) → Asks ls (export_yield x) (export_steps x)
export_asks (Exports.Pragma l) = plain (Says l) tt
export_asks (Exports.Declaration d) = ended (declaration_asks d) (quiet (codes ";"))
export_asks (Exports.Attribute a) = ended (attribute_asks a) (quiet (codes ";"))
export_asks (Exports.Operation o) = ended (operation_asks o) (quiet (codes ";"))

pub bases_ask : {ls : List Leaf} (id : Leaf) (bases : Option (Listed ScopedName))
    → Asks ls (optional bases_yield bases) (map (HasBase id) (optional_parts bases))
unfolding piece
bases_ask id None = none
bases_ask id (Some l) =
    joined (base (codes ":") id l.first)
    (each_step (λ name. mark (codes ",") ++ name_yield name) (HasBase id) (base (codes ",") id) l.rest.items)

pub interface_asks : {ls : List Leaf} (i : Interface) → Asks ls (interface_yield i) (interface_steps i)
unfolding piece kept
interface_asks (Ahead id) = begun (word (codes "interface")) (plain (Declares Kinds.Interface id) tt)
interface_asks (Defined id bases exports) =
    let exported = begun (quiet (codes "{")) (each_part export_yield export_steps export_asks exports.items) in
    let body = inside id (defines id (ended exported (quiet (codes "}")))) in
    let pieces = last_three (optional bases_yield bases) (mark (codes "{")) (flat_map export_yield exports.items)
    (mark (codes "}")) in
    let steps = append_assoc (map (HasBase id) (optional_parts bases)) _ (Leaves ∷ []) in
    begun (word (codes "interface"))
    (undefined Kinds.Interface id (moved pieces (grouped (sym steps) (joined (bases_ask id bases) body))))

mutual
  unfolding piece kept

  pub definition_asks : {ls : List Leaf} (d : Definition) → Asks ls (definition_yield d) (definition_steps d)
  definition_asks (Pragma l) = plain (Says l) tt
  definition_asks (Declared d) = ended (declaration_asks d) (quiet (codes ";"))
  definition_asks (InterfaceDcl i) = ended (interface_asks i) (quiet (codes ";"))
  definition_asks (Module' id shape definitions) =
      let all = begun (quiet (codes "{")) (definitions_ask definitions) in
      ended (body_asks (codes "module") Kinds.Module id (ended all (quiet (codes "}")))) (quiet (codes ";"))

  pub definitions_ask : {ls : List Leaf} {n : _} → (row : Row_of-Definition n)
      → Asks ls (definitions_yield row) (definitions_steps row)
  definitions_ask end_of-Definition = none
  definitions_ask (more_of-Definition d rest) = joined (definition_asks d) (definitions_ask rest)

-- a whole specification
pub all_ask : (definitions : List Definition) → Asks [] (definitions_spelled definitions) (steps_of definitions)
all_ask definitions = each_part definition_yield definition_steps definition_asks definitions
