-- What holds of the steps of a part of a tree holds of what it is made of.
use Rattle.std.proofs.Common.{◌≡◌, ℕ, suc, List, [], ◌∷◌, ◌++◌, map, Option, Some, Vec, Global, append_assoc, subst}
use Rattle.std.specs.List.{AllByRecursion, flat_map}
use Rattle.idl_tree.specs.declared.names.Leaf.{Leaf}
use Rattle.idl_tree.specs.declared.names.Listed.{Listed}
use Rattle.idl_tree.specs.declared.names.ScopedName.{ScopedName}
use Rattle.idl_tree.specs.declared.const_expr.ConstExpr.{ConstExpr}
use Rattle.idl_tree.specs.declared.types.Declarator.{Declarator}
use Rattle.idl_tree.specs.declared.types.Label.{Label}
use Rattle.idl_tree.specs.declared.types.SwitchType.{SwitchType}
use Rattle.idl_tree.specs.declared.types.TypeSpec.{TypeSpec}
use Rattle.idl_tree.specs.declared.types.StructType.{StructType, out-StructType}
use Rattle.idl_tree.specs.declared.types.UnionType.{UnionType, out-UnionType}
use Rattle.idl_tree.specs.declared.types.Member.{Member}
use Rattle.idl_tree.specs.declared.types.Case.{Case}
use Rattle.idl_tree.specs.declared.definitions.Except.{Except}
use Rattle.idl_tree.specs.declared.definitions.Attribute.{Attribute}
use Rattle.idl_tree.specs.declared.definitions.Operation.{Operation}
use Rattle.idl_tree.specs.declared.definitions.Param.{Param}
use Rattle.idl_tree.specs.declared.definitions.Export.{Export}
use Rattle.idl_tree.specs.declared.definitions.Definition.{Definition, Module}
use Rattle.idl_tree.specs.declared.definitions.Module.{Module as ModuleRecord}
use Rattle.idl_tree.specs.Lists.{parts}
use Rattle.name_table.specs.Entry.{Entry, named}
use Rattle.name_table.specs.Search.{word}
use Rattle.idl_tree.specs.declared.kinds.EntryKind.TheVariants as Kinds
use Rattle.idl_tree.specs.declared.types.ParamType.{ParamType}
use Rattle.idl_tree.specs.declared.definitions.Interface.TheVariants.{Defined}
use Rattle.name_steps.specs.Steps.{Step, DeclaresFeature, DeclaresTypedef, Defines, Enters, HasBase, HasMember, IsSize, Leaves, NamesException, attribute_steps, attributes_steps, case_steps, declarator_steps, definition_steps, except_steps, export_steps, interface_steps, label_steps, member_steps, operation_steps, optional_parts, param_steps, param_type_steps, raises_steps, result_steps, size_step, steps_of, struct_steps, switch_steps, type_steps, typedef_steps, union_steps}
use Rattle.scoped_names.proofs.Introducing.{all_map}
use Rattle.name_steps.proofs.ListedSteps.{module_listed, struct_listed, union_listed}
use Rattle.scoped_names.specs.Holding.{AllHold, Holds}
use Rattle.name_steps.proofs.Asks.{definition_asks, export_asks, label_asks, param_asks, param_type_asks, result_asks, switch_asks, type_asks}
use Rattle.scoped_names.proofs.Parts.{Closed, both_closed, both_hold, closed, each_closed, each_holds, each_step_closed, each_step_holds, holds_split, inside_holds, one_closed}

-- ---- members

sizes_closed : (sizes : List ConstExpr) → Closed (map size_step sizes)
sizes_closed sizes = each_step_closed size_step (λ s. tt) sizes

declarator_closed : (d : Declarator) → Closed (declarator_steps d)
declarator_closed d = both_closed (one_closed (HasMember d.identifier) tt) (sizes_closed d.sizes.items)

typedef_closed : (t : TypeSpec) (d : Declarator) → Closed (typedef_steps t d)
typedef_closed t d = both_closed (one_closed (DeclaresTypedef t d) tt) (sizes_closed d.sizes.items)

type_closed : (t : TypeSpec) → Closed (type_steps t)
type_closed t = closed (type_asks {ls = []} t)

declarators_closed : (l : Listed Declarator) → Closed (flat_map declarator_steps (parts l))
declarators_closed l = each_closed declarator_steps declarator_closed (parts l)

member_closed : (m : Member) → Closed (member_steps m)
member_closed m = both_closed (type_closed m.member_type) (declarators_closed m.declarators)

label_closed : (l : Label) → Closed (label_steps l)
label_closed l = closed (label_asks {ls = []} l)

labels_closed : (l : Listed Label) → Closed (flat_map label_steps (parts l))
labels_closed l = each_closed label_steps label_closed (parts l)

case_closed : (c : Case) → Closed (case_steps c)
case_closed c = both_closed (both_closed (labels_closed c.labels) (type_closed c.member_type))
    (declarator_closed c.declarator)

switch_closed : (s : SwitchType) → Closed (switch_steps s)
switch_closed s = closed (switch_asks {ls = []} s)

pub sizes_hold : (es : List Entry) (scope : ℕ) (sizes : List ConstExpr) → AllHold es scope (map size_step sizes)
    → AllByRecursion (λ s. Holds es scope (IsSize s.expr)) sizes
sizes_hold es scope sizes h = each_step_holds es scope size_step (λ s. tt) sizes h

pub declarators_hold : (es : List Entry) (scope : ℕ) (l : Listed Declarator)
    → AllHold es scope (flat_map declarator_steps (parts l))
    → AllByRecursion (λ d. AllHold es scope (declarator_steps d)) (parts l)
declarators_hold es scope l h = each_holds es scope declarator_steps declarator_closed (parts l) h

pub typedefs_hold : (es : List Entry) (scope : ℕ) (t : TypeSpec) (l : Listed Declarator)
    → AllHold es scope (type_steps t ++ flat_map (typedef_steps t) (parts l))
    → AllHold es scope (type_steps t) × AllByRecursion (λ d. AllHold es scope (typedef_steps t d)) (parts l)
typedefs_hold es scope t l h =
    let both = both_hold es scope (type_steps t) (flat_map (typedef_steps t) (parts l)) (type_closed t) h in
    (both.0, each_holds es scope (typedef_steps t) (typedef_closed t) (parts l) both.1)

pub member_holds : (es : List Entry) (scope : ℕ) (m : Member) → AllHold es scope (member_steps m)
    → AllHold es scope (type_steps m.member_type)
    × AllByRecursion (λ d. AllHold es scope (declarator_steps d)) (parts m.declarators)
member_holds es scope m h =
    let both = both_hold es scope (type_steps m.member_type) (flat_map declarator_steps (parts m.declarators))
    (type_closed m.member_type) h in
    (both.0, declarators_hold es scope m.declarators both.1)

pub case_holds : (es : List Entry) (scope : ℕ) (c : Case) → AllHold es scope (case_steps c)
    → AllByRecursion (λ l. AllHold es scope (label_steps l)) (parts c.labels)
    × AllHold es scope (type_steps c.member_type) × AllHold es scope (declarator_steps c.declarator)
case_holds es scope c h =
    let labels = flat_map label_steps (parts c.labels) in
    let last = both_hold es scope (labels ++ type_steps c.member_type) (declarator_steps c.declarator)
    (both_closed (labels_closed c.labels) (type_closed c.member_type)) h in
    let first = both_hold es scope labels (type_steps c.member_type) (labels_closed c.labels) last.0 in
    (each_holds es scope label_steps label_closed (parts c.labels) first.0, first.1, last.1)

-- ---- what has a scope

-- the entry of an identifier, in whose scope this holds
pub record Inside (es : List Entry) (scope : ℕ) (l : Leaf) (holds : ℕ → Type 0) : Type 0 where
  pub entry : ℕ
  pub is : named es scope (word l) ≡ Some entry
  pub inner : holds (suc entry)

-- in that of the entry that the identifier is
pub inside_at : {es : List Entry} {scope : ℕ} {l : Leaf} {holds : ℕ → Type 0} → Inside es scope l holds → (e : ℕ)
    → named es scope (word l) ≡ Some e → holds (suc e)
inside_at {holds = holds} i e here =
    let there = i.is in
    let same : i.entry ≡ e = cc in
    subst (λ k. holds (suc k)) same i.inner

defining_closed : {xs : List Step} (l : Leaf) → Closed xs → Closed (Defines l ∷ xs)
defining_closed l c = both_closed (one_closed (Defines l) tt) c

pub struct_holds : (es : List Entry) (scope : ℕ) (s : StructType) → AllHold es scope (struct_steps s)
    → Inside es scope (out-StructType s).identifier
    (λ inner. AllHold es inner (member_steps (out-StructType s).first.value)
    × AllByRecursion (λ m. AllHold es inner (member_steps m)) (out-StructType s).rest.items)
struct_holds es scope s h =
    let v = out-StructType s in
    let others = flat_map member_steps v.rest.items in
    let members = each_closed member_steps member_closed v.rest.items in
    let steps = subst (AllHold es scope) (struct_listed s) h in
    let all = defining_closed v.identifier (both_closed (member_closed v.first.value) members) in
    let (n, is, body) = inside_holds es scope v.identifier
    (Defines v.identifier ∷ (member_steps v.first.value ++ others)) all steps.1 in
    let both = both_hold es (suc n) (member_steps v.first.value) others (member_closed v.first.value) body.1 in
    record {
      entry = n;
      is = is;
      inner =
          (both.0, each_holds es (suc n) member_steps member_closed v.rest.items both.1);
    }

pub union_holds : (es : List Entry) (scope : ℕ) (u : UnionType) → AllHold es scope (union_steps u)
    → Inside es scope (out-UnionType u).identifier
    (λ inner. AllHold es inner (switch_steps (out-UnionType u).switch.value)
    × AllHold es inner (case_steps (out-UnionType u).first.value)
    × AllByRecursion (λ c. AllHold es inner (case_steps c)) (out-UnionType u).rest.items)
union_holds es scope u h =
    let v = out-UnionType u in
    let others = flat_map case_steps v.rest.items in
    let cases = each_closed case_steps case_closed v.rest.items in
    let steps = subst (AllHold es scope) (union_listed u) h in
    let front = both_closed (switch_closed v.switch.value) (case_closed v.first.value) in
    let (n, is, body) = inside_holds es scope v.identifier
    (Defines v.identifier ∷ ((switch_steps v.switch.value ++ case_steps v.first.value) ++ others))
    (defining_closed v.identifier (both_closed front cases)) steps.1 in
    let last = both_hold es (suc n) (switch_steps v.switch.value ++ case_steps v.first.value) others front body.1 in
    let first = both_hold es (suc n) (switch_steps v.switch.value) (case_steps v.first.value)
    (switch_closed v.switch.value) last.0 in
    record {
      entry = n;
      is = is;
      inner =
          (first.0, first.1, each_holds es (suc n) case_steps case_closed v.rest.items last.1);
    }

pub except_holds : (es : List Entry) (scope : ℕ) (e : Except) → AllHold es scope (except_steps e)
    → Inside es scope e.identifier (λ inner. AllByRecursion (λ m. AllHold es inner (member_steps m)) e.members.items)
except_holds es scope e h =
    let members = each_closed member_steps member_closed e.members.items in
    let (n, is, body) = inside_holds es scope e.identifier (flat_map member_steps e.members.items) members h.1 in
    record { entry = n; is = is; inner = each_holds es (suc n) member_steps member_closed e.members.items body }

-- ---- operations and attributes

param_type_closed : (t : ParamType) → Closed (param_type_steps t)
param_type_closed t = closed (param_type_asks {ls = []} t)

raises_closed : (names : List ScopedName) → Closed (raises_steps names)
raises_closed names = each_step_closed NamesException (λ name. tt) names

pub raises_hold : (es : List Entry) (scope : ℕ) (names : List ScopedName) → AllHold es scope (raises_steps names)
    → AllByRecursion (λ name. Holds es scope (NamesException name)) names
raises_hold es scope names h = each_step_holds es scope NamesException (λ name. tt) names h

param_closed : (id : Leaf) (p : Param) → Closed (param_steps id p)
param_closed id p = closed (param_asks {ls = []} id p)

param_holds : (es : List Entry) (scope : ℕ) (id : Leaf) (p : Param) → AllHold es scope (param_steps id p)
    → AllHold es scope (param_type_steps p.param_type)
param_holds es scope id p h =
    (holds_split es scope (param_type_steps p.param_type) (Enters id ∷ HasMember p.identifier ∷ Leaves ∷ []) h).0

pub operation_holds : (es : List Entry) (scope : ℕ) (o : Operation) → AllHold es scope (operation_steps o)
    → AllHold es scope (result_steps o.result_type) × Holds es scope (DeclaresFeature Kinds.Operation o.identifier)
    × AllByRecursion (λ p. AllHold es scope (param_type_steps p.param_type)) (optional_parts o.params)
    × AllByRecursion (λ name. Holds es scope (NamesException name)) (optional_parts o.raises)
operation_holds es scope o h =
    let result = result_steps o.result_type in
    let feature = DeclaresFeature Kinds.Operation o.identifier in
    let params = flat_map (param_steps o.identifier) (optional_parts o.params) in
    let result_closed = closed (result_asks {ls = []} o.result_type) in
    let params_closed = each_closed (param_steps o.identifier) (param_closed o.identifier) (optional_parts o.params) in
    let named = both_closed (one_closed feature tt) params_closed in
    let last = both_hold es scope (result ++ feature ∷ params) (raises_steps (optional_parts o.raises))
    (both_closed result_closed named) h in
    let first = both_hold es scope result (feature ∷ params) result_closed last.0 in
    let each = each_holds es scope (param_steps o.identifier) (param_closed o.identifier) (optional_parts o.params)
    first.1.1 in (
      first.0,
      first.1.0,
      all_map (λ p. AllHold es scope (param_steps o.identifier p))
          (λ p. AllHold es scope (param_type_steps p.param_type)) (param_holds es scope o.identifier)
          (optional_parts o.params) each,
      raises_hold es scope (optional_parts o.raises) last.1,
    )

pub attribute_holds : (es : List Entry) (scope : ℕ) (a : Attribute) → AllHold es scope (attribute_steps a)
    → AllHold es scope (param_type_steps a.attribute_type) × AllHold es scope (attributes_steps a.declared)
attribute_holds es scope a h =
    both_hold es scope (param_type_steps a.attribute_type) (attributes_steps a.declared)
    (param_type_closed a.attribute_type) h

-- ---- interfaces and modules

export_closed : (x : Export) → Closed (export_steps x)
export_closed x = closed (export_asks {ls = []} x)

pub interface_holds : (es : List Entry) (scope : ℕ) (id : Leaf) (bases : Option (Listed ScopedName))
    (exports : Vec Export Global) → AllHold es scope (interface_steps (Defined id bases exports))
    → AllByRecursion (λ name. Holds es scope (HasBase id name)) (optional_parts bases)
    × Inside es scope id (λ inner. AllByRecursion (λ x. AllHold es inner (export_steps x)) exports.items)
interface_holds es scope id bases exports h =
    let named = map (HasBase id) (optional_parts bases) in
    let inner = Defines id ∷ flat_map export_steps exports.items in
    let steps = subst (AllHold es scope) (append_assoc named (Enters id ∷ inner) (Leaves ∷ [])) h.1.1 in
    let both = both_hold es scope named (Enters id ∷ (inner ++ Leaves ∷ []))
    (each_step_closed (HasBase id) (λ name. tt) (optional_parts bases)) steps in
    let all = each_closed export_steps export_closed exports.items in
    let (n, is, body) = inside_holds es scope id inner (defining_closed id all) both.1 in (
      each_step_holds es scope (HasBase id) (λ name. tt) (optional_parts bases) both.0,
      record { entry = n; is = is; inner = each_holds es (suc n) export_steps export_closed exports.items body.1 },
    )

definition_closed : (d : Definition) → Closed (definition_steps d)
definition_closed d = closed (definition_asks {ls = []} d)

pub definitions_hold : (es : List Entry) (scope : ℕ) (ds : List Definition) → AllHold es scope (steps_of ds)
    → AllByRecursion (λ d. AllHold es scope (definition_steps d)) ds
definitions_hold es scope ds h = each_holds es scope definition_steps definition_closed ds h

pub module_holds : (es : List Entry) (scope : ℕ) (m : ModuleRecord) → AllHold es scope (definition_steps (Module m))
    → Inside es scope m.identifier
    (λ inner. AllByRecursion (λ d. AllHold es inner (definition_steps d)) m.definitions.items)
module_holds es scope m h =
    let steps = subst (AllHold es scope) (module_listed m) h in
    let (n, is, body) = inside_holds es scope m.identifier (steps_of m.definitions.items)
    (each_closed definition_steps definition_closed m.definitions.items) steps.1 in
    record { entry = n; is = is; inner = definitions_hold es (suc n) m.definitions.items body }
