-- Types of one shape, and declarations of types, constants and exceptions, are lowered to the same.
use Rattle.std.proofs.Common.{◌≡◌, ℕ, ◌+◌, List, Result, Ok, refl, ap, ◌∙◌}
use Rattle.idl_tree.specs.declared.names.At.{At}
use Rattle.idl_tree.specs.declared.names.Leaf.{Leaf}
use Rattle.idl_tree.specs.declared.names.Listed.{Listed}
use Rattle.idl_tree.specs.declared.types.Declarator.{Declarator}
use Rattle.idl_tree.specs.declared.types.Label.{Label}
use Rattle.idl_tree.specs.declared.types.TypeSpec.{TypeSpec, Simple, Struct, Union, Enum}
use Rattle.idl_tree.specs.declared.types.StructType.{StructType, StructType', Row_of-Member, end_of-Member, more_of-Member}
use Rattle.idl_tree.specs.declared.types.UnionType.{UnionType, UnionType', Row_of-Case, end_of-Case, more_of-Case}
use Rattle.idl_tree.specs.declared.types.Member.{Member}
use Rattle.idl_tree.specs.declared.definitions.TypeDcl.{TypeDcl}
use Rattle.idl_tree.specs.declared.definitions.TypeDcl.TheVariants as TypeDcls
use Rattle.idl_tree.specs.declared.definitions.Const.{Const}
use Rattle.idl_tree.specs.declared.definitions.Except.{Except}
use Rattle.idl_tree.specs.declared.definitions.Declaration.{Declaration}
use Rattle.idl_tree.specs.declared.definitions.Declaration.TheVariants as Declarations
use Rattle.idl_tree.specs.Lists.{parts}
use Rattle.name_table.specs.Entry.{Entry}
use Rattle.scoped_names.specs.Reading.{◌>>◌}
use Rattle.lowered_types.specs.declared.fault.BuildFault.{BuildFault}
use Rattle.lowered_types.specs.declared.place.Place.TheVariants.{Typed}
use Rattle.lowered_types.specs.Faults.{each}
use Rattle.lowered_types.specs.Lowered.{Lowered, Numbered, already, opened, placed}
use Rattle.lowered_types.specs.Members.{Members}
use Rattle.lowered_types.specs.SimpleTypes.{const_type, declarator_at}
use Rattle.lowered_types.specs.Labels.{Arms, label_added, no_arms, no_labels, with_case}
use Rattle.lowered_types.specs.Types.{WithMembers, with_members_of, no_members, member_added, with_declarator, with_declarators, members_added, struct_defined, Cases, cases_of, case_added, union_defined, type_spec, struct_type, union_type, with_members, with_cases, with_member}
use Rattle.lowered_types.specs.Declarations.{with_typedef, ahead, type_dcl, id_member, exception_added, except, declaration}
use Rattle.idl_tree.specs.Shapes.{leaf_shape, list_shape, listed_shape}
use Rattle.idl_tree.specs.TypeShapes.{declarator_shape, enum_shape, switch_shape, label_shape, type_shape, struct_shape, union_shape, members_shape, cases_shape, member_shape}
use Rattle.idl_tree.specs.DefinitionShapes.{type_dcl_shape, const_shape, except_shape, declaration_shape}
use Rattle.shape_laws.proofs.Apart.{apart}
use Rattle.shape_laws.proofs.Labels.{switch_same, label_same}
use Rattle.shape_laws.proofs.PartLists.{each_same}
use Rattle.shape_laws.proofs.Starts.{leaf_same}
use Rattle.shape_laws.proofs.TypeParts.{entry_same, const_type_same, simple_type_same, declarator_name, declarator_place, declarator_word, array_same, enum_same}

-- ---- members

with_declarator_same : (es : List Entry) (scope number : ℕ) (m : WithMembers) (a b : Declarator)
    → declarator_shape a ≡ declarator_shape b
    → with_declarator es scope number m a ≡ with_declarator es scope number m b
with_declarator_same es scope number m a b h =
    λ i. array_same es scope (already m.lowered number) a b h i >> λ t.
    member_added m.members (declarator_word a b h i) t.number (declarator_place a b h i) >> λ ms. Ok
    (with_members_of t.lowered ms)

with_declarators_same : (es : List Entry) (scope : ℕ) (t : Numbered) (ms : Members) (a b : Listed Declarator)
    → listed_shape declarator_shape a ≡ listed_shape declarator_shape b
    → with_declarators es scope t ms a ≡ with_declarators es scope t ms b
with_declarators_same es scope t ms a b h =
    each_same declarator_shape (with_declarator es scope t.number) (with_declarator es scope t.number)
    (with_declarator_same es scope t.number)
    (with_members_of t.lowered ms) (parts a) (parts b) h

first_place : (a b : Listed Declarator) → listed_shape declarator_shape a ≡ listed_shape declarator_shape b
    → declarator_at a.first ≡ declarator_at b.first
first_place a b h = declarator_place a.first b.first cc

members_added_same : (es : List Entry) (scope : ℕ) (ms : Members) (t u : Result Numbered BuildFault) → t ≡ u
    → (a b : Listed Declarator)
    → listed_shape declarator_shape a ≡ listed_shape declarator_shape b
    → members_added es scope ms t a ≡ members_added es scope ms u b
members_added_same es scope ms t u p a b h = λ i. p i >> λ n. with_declarators_same es scope n ms a b h i

-- ---- cases

labels_same : (es : List Entry) (scope : ℕ) (s : _) (arms : Arms) (a b : Listed Label)
    → listed_shape label_shape a ≡ listed_shape label_shape b
    → each (label_added es scope s arms) no_labels (parts a) ≡ each (label_added es scope s arms) no_labels (parts b)
labels_same es scope s arms a b h =
    each_same label_shape (label_added es scope s arms) (label_added es scope s arms) (label_same es scope s arms)
    no_labels (parts a) (parts b) h

case_added_same : (es : List Entry) (scope : ℕ) (s : _) (c : Cases) (a b : Listed Label)
    → listed_shape label_shape a ≡ listed_shape label_shape b
    → (t u : Lowered → Result Numbered BuildFault) → ((w : Lowered) → t w ≡ u w)
    → (d e : Declarator) → declarator_shape d ≡ declarator_shape e
    → case_added es scope s c a t d ≡ case_added es scope s c b u e
case_added_same es scope s c a b h t u p d e k =
    λ i. labels_same es scope s c.arms a b h i >> λ ls. p c.lowered i >> λ n. array_same es scope n d e k i >> λ x.
    Ok (cases_of x.lowered (with_case c.arms (declarator_word d e k i) x.number (declarator_place d e k i) ls))

-- ---- types

mutual
  pub type_same : (es : List Entry) (w : Lowered) (scope : ℕ) (at to : At) → at ≡ to → (a b : TypeSpec)
      → type_shape a ≡ type_shape b
      → type_spec es w scope at a ≡ type_spec es w scope to b
  type_same es w scope at to p (Simple a) (Simple b) h = simple_type_same es w scope at to p a b cc
  type_same es w scope at to p (Struct a) (Struct b) h = struct_same es w scope a b cc
  type_same es w scope at to p (Union a) (Union b) h = union_same es w scope a b cc
  type_same es w scope at to p (Enum a) (Enum b) h = enum_same es w scope a b cc
  type_same es w scope at to p a b h = apart h refl

  pub struct_same : (es : List Entry) (w : Lowered) (scope : ℕ) (a b : StructType) → struct_shape a ≡ struct_shape b
      → struct_type es w scope a ≡ struct_type es w scope b
  struct_same es w scope (StructType' l p t ds form rest) (StructType' m q u es' form' rest') h =
      let names : leaf_shape l ≡ leaf_shape m = cc in
      let types : type_shape t ≡ type_shape u = cc in
      let declarators : listed_shape declarator_shape ds ≡ listed_shape declarator_shape es' = cc in
      let rests : members_shape rest ≡ members_shape rest' = cc in
      let at = leaf_same l m names in
      let place = first_place ds es' declarators in
      λ i. entry_same es scope l m names i >> λ e. opened w e (at i) >> λ o.
      members_added_same es (e + 1) no_members _ _ (type_same es o.lowered (e + 1) _ _ place t u types) ds es'
      declarators i >> λ first.
      members_same es (e + 1) first rest rest' rests i >> λ ms.
      struct_defined ms o.number (at i) >> λ behind. Ok (already behind o.number)

  pub union_same : (es : List Entry) (w : Lowered) (scope : ℕ) (a b : UnionType) → union_shape a ≡ union_shape b
      → union_type es w scope a ≡ union_type es w scope b
  union_same es w scope (UnionType' l s p ls t d form rest) (UnionType' m r q ms u d' form' rest') h =
      let names : leaf_shape l ≡ leaf_shape m = cc in
      let switches : switch_shape s.value ≡ switch_shape r.value = cc in
      let labels : listed_shape label_shape ls ≡ listed_shape label_shape ms = cc in
      let types : type_shape t ≡ type_shape u = cc in
      let declarators : declarator_shape d ≡ declarator_shape d' = cc in
      let rests : cases_shape rest ≡ cases_shape rest' = cc in
      let at = leaf_same l m names in
      let place = declarator_place d d' declarators in
      λ i. entry_same es scope l m names i >> λ e. opened w e (at i) >> λ o.
      switch_same es o.lowered (e + 1) _ _ at s.value r.value switches i >> λ switch.
      case_added_same es (e + 1) switch.switch (cases_of switch.lowered no_arms) ls ms labels
      (λ v. type_spec es v (e + 1) (declarator_at d) t) (λ v. type_spec es v (e + 1) (declarator_at d') u)
      (λ v. type_same es v (e + 1) _ _ place t u types) d d' declarators i >> λ first.
      cases_same es (e + 1) switch.switch first rest rest' rests i >> λ c.
      union_defined switch.switch c o.number (at i) >> λ behind. Ok (already behind o.number)

  members_same : {n k : _} (es : List Entry) (scope : ℕ) (m : WithMembers) (a : Row_of-Member n) (b : Row_of-Member k)
      → members_shape a ≡ members_shape b
      → with_members es scope m a ≡ with_members es scope m b
  members_same es scope m end_of-Member end_of-Member h = refl
  members_same es scope m (more_of-Member t ds rest) (more_of-Member u es' rest') h =
      let types : type_shape t ≡ type_shape u = cc in
      let declarators : listed_shape declarator_shape ds ≡ listed_shape declarator_shape es' = cc in
      let rests : members_shape rest ≡ members_shape rest' = cc in
      let place = first_place ds es' declarators in
      λ i. members_added_same es scope m.members _ _ (type_same es m.lowered scope _ _ place t u types) ds es'
      declarators i >> λ next.
      members_same es scope next rest rest' rests i
  members_same es scope m a b h = absurd cc

  cases_same : {n k : _} (es : List Entry) (scope : ℕ) (s : _) (c : Cases) (a : Row_of-Case n) (b : Row_of-Case k)
      → cases_shape a ≡ cases_shape b
      → with_cases es scope s c a ≡ with_cases es scope s c b
  cases_same es scope s c end_of-Case end_of-Case h = refl
  cases_same es scope s c (more_of-Case ls t d rest) (more_of-Case ms u d' rest') h =
      let labels : listed_shape label_shape ls ≡ listed_shape label_shape ms = cc in
      let types : type_shape t ≡ type_shape u = cc in
      let declarators : declarator_shape d ≡ declarator_shape d' = cc in
      let rests : cases_shape rest ≡ cases_shape rest' = cc in
      let place = declarator_place d d' declarators in
      λ i. case_added_same es scope s c ls ms labels
      (λ v. type_spec es v scope (declarator_at d) t) (λ v. type_spec es v scope (declarator_at d') u)
      (λ v. type_same es v scope _ _ place t u types) d d' declarators i >> λ next.
      cases_same es scope s next rest rest' rests i
  cases_same es scope s c a b h = absurd cc

member_same : (es : List Entry) (scope : ℕ) (m : WithMembers) (a b : Member) → member_shape a ≡ member_shape b
    → with_member es scope m a ≡ with_member es scope m b
member_same es scope m a b h =
    let types : type_shape a.member_type ≡ type_shape b.member_type = cc in
    let declarators : listed_shape declarator_shape a.declarators ≡ listed_shape declarator_shape b.declarators = cc in
    let place = first_place a.declarators b.declarators declarators in
    members_added_same es scope m.members _ _ (type_same es m.lowered scope _ _ place a.member_type b.member_type types)
    a.declarators b.declarators declarators

-- ---- declarations

with_typedef_same : (es : List Entry) (scope number : ℕ) (w : Lowered) (a b : Declarator)
    → declarator_shape a ≡ declarator_shape b
    → with_typedef es scope number w a ≡ with_typedef es scope number w b
with_typedef_same es scope number w a b h =
    λ i. array_same es scope (already w number) a b h i >> λ t.
    entry_same es scope a.identifier b.identifier (declarator_name a b h) i >> λ e. placed t.lowered e (Typed t.number)

ahead_same : (es : List Entry) (w : Lowered) (scope : ℕ) (a b : Leaf) → leaf_shape a ≡ leaf_shape b
    → ahead es w scope a ≡ ahead es w scope b
ahead_same es w scope a b h =
    λ i. entry_same es scope a b h i >> λ e. opened w e (leaf_same a b h i) >> λ o. Ok o.lowered

type_dcl_same : (es : List Entry) (w : Lowered) (scope : ℕ) (a b : TypeDcl) → type_dcl_shape a ≡ type_dcl_shape b
    → type_dcl es w scope a ≡ type_dcl es w scope b
type_dcl_same es w scope (TypeDcls.Typedef t ds) (TypeDcls.Typedef u ds') h =
    let types : type_shape t ≡ type_shape u = cc in
    let declarators : listed_shape declarator_shape ds ≡ listed_shape declarator_shape ds' = cc in
    λ i. type_same es w scope _ _ (first_place ds ds' declarators) t u types i >> λ n.
    each_same declarator_shape (with_typedef es scope n.number) (with_typedef es scope n.number)
    (with_typedef_same es scope n.number)
    n.lowered (parts ds) (parts ds') declarators i
type_dcl_same es w scope (TypeDcls.Struct a) (TypeDcls.Struct b) h =
    let structs : struct_shape a ≡ struct_shape b = cc in λ i. struct_same es w scope a b structs i >> λ n. Ok n.lowered
type_dcl_same es w scope (TypeDcls.Union a) (TypeDcls.Union b) h =
    let unions : union_shape a ≡ union_shape b = cc in λ i. union_same es w scope a b unions i >> λ n. Ok n.lowered
type_dcl_same es w scope (TypeDcls.Enum a) (TypeDcls.Enum b) h =
    let enums : enum_shape a ≡ enum_shape b = cc in λ i. enum_same es w scope a b enums i >> λ n. Ok n.lowered
type_dcl_same es w scope (TypeDcls.StructAhead a) (TypeDcls.StructAhead b) h = ahead_same es w scope a b cc
type_dcl_same es w scope (TypeDcls.UnionAhead a) (TypeDcls.UnionAhead b) h = ahead_same es w scope a b cc
type_dcl_same es w scope a b h = apart h refl

-- the members of exceptions that stand at one place
excepted : (es : List Entry) (w : Lowered) (scope : ℕ) (at to : At) → at ≡ to → (a b : Except)
    → list_shape member_shape a.members.items ≡ list_shape member_shape b.members.items
    → each (with_member es scope) (with_members_of w (id_member at)) a.members.items
    ≡ each (with_member es scope) (with_members_of w (id_member to)) b.members.items
excepted es w scope at to p a b h =
    each_same member_shape (with_member es scope) (with_member es scope) (member_same es scope)
    (with_members_of w (id_member at))
    a.members.items b.members.items h
    ∙ ap (λ x. each (with_member es scope) (with_members_of w (id_member x)) b.members.items) p

except_same : (es : List Entry) (w : Lowered) (scope : ℕ) (a b : Except) → except_shape a ≡ except_shape b
    → except es w scope a ≡ except es w scope b
except_same es w scope a b h =
    let names : leaf_shape a.identifier ≡ leaf_shape b.identifier = cc in
    let members : list_shape member_shape a.members.items ≡ list_shape member_shape b.members.items = cc in
    let at = leaf_same a.identifier b.identifier names in
    λ i. entry_same es scope a.identifier b.identifier names i >> λ e.
    excepted es w (e + 1) _ _ at a b members i >> λ m. exception_added m e (at i)

const_same : (es : List Entry) (w : Lowered) (scope : ℕ) (a b : Const) → const_shape a ≡ const_shape b
    → const_type es w scope a.const_type ≡ const_type es w scope b.const_type
const_same es w scope a b h = const_type_same es w scope a.const_type b.const_type cc

pub declaration_same : (es : List Entry) (w : Lowered) (scope : ℕ) (a b : Declaration)
    → declaration_shape a ≡ declaration_shape b
    → declaration es w scope a ≡ declaration es w scope b
declaration_same es w scope (Declarations.TypeDcl a) (Declarations.TypeDcl b) h = type_dcl_same es w scope a b cc
declaration_same es w scope (Declarations.Const a) (Declarations.Const b) h =
    let consts : const_shape a ≡ const_shape b = cc in λ i. const_same es w scope a b consts i >> λ n. Ok n.lowered
declaration_same es w scope (Declarations.Except a) (Declarations.Except b) h = except_same es w scope a b cc
declaration_same es w scope a b h = apart h refl
