-- Types: the names of each node that they are lowered to are apart, and one for one for its parts.
use Rattle.std.proofs.Common.{◌≡◌, ◌∙◌, ℕ, ◌+◌, ◌≤◌, List, [], ◌∷◌, ◌++◌, length, length-append, map, append_assoc, append-nil, Some, None, Result, refl, sym, ap, subst, arith}
use Rattle.std.specs.List.{flat_map}
use Rattle.std.specs.Prelude.{slice_get}
use Rattle.std.proofs.lemmas.List.{length-map}
use Rattle.idl_tree.specs.declared.names.At.{At}
use Rattle.idl_tree.specs.declared.names.Listed.{Listed}
use Rattle.idl_tree.specs.declared.types.ConstType.{ConstType}
use Rattle.idl_tree.specs.declared.types.ConstType.TheVariants as ConstTypes
use Rattle.idl_tree.specs.declared.types.ParamType.{ParamType}
use Rattle.idl_tree.specs.declared.types.ParamType.TheVariants as ParamTypes
use Rattle.idl_tree.specs.declared.types.SimpleType.{SimpleType, Plain, Sequence'}
use Rattle.idl_tree.specs.declared.types.Declarator.{Declarator}
use Rattle.idl_tree.specs.declared.types.EnumType.{EnumType}
use Rattle.idl_tree.specs.declared.types.Label.{Label}
use Rattle.idl_tree.specs.declared.types.SwitchType.{SwitchType}
use Rattle.idl_tree.specs.declared.types.SwitchType.TheVariants as SwitchTypes
use Rattle.idl_tree.specs.declared.types.TypeSpec.{TypeSpec, Simple, Struct as StructSpec, Union as UnionSpec, Enum as EnumSpec}
use Rattle.idl_tree.specs.declared.types.StructType.{StructType, StructType', Row_of-Member, end_of-Member, more_of-Member}
use Rattle.idl_tree.specs.declared.types.UnionType.{UnionType, UnionType', Row_of-Case, end_of-Case, more_of-Case}
use Rattle.idl_tree.specs.Lists.{parts}
use Rattle.idl_tree.specs.Starts.{expr_start, leaf_at}
use Rattle.idl_tree.specs.declared.kinds.EntryKind.TheVariants as Kinds
use Rattle.type_graph.specs.declared.fault.GraphLimit.TheVariants.{Enumerators, Members as MembersLimit}
use Rattle.type_graph.specs.declared.node.Node.TheVariants.{Text, Seq, Array, Enum, Struct, Union}
use Rattle.name_table.specs.Entry.{Entry}
use Rattle.name_table.specs.Search.{word}
use Rattle.name_steps.specs.Steps.{cases_steps, declarator_steps, enum_steps, label_steps, members_steps, struct_steps, switch_steps, type_steps, union_steps}
use Rattle.name_steps.proofs.Asks.{cases_ask, members_ask, switch_asks}
use Rattle.scoped_names.specs.Introductions.{introduced}
use Rattle.scoped_names.proofs.Parts.{Closed, both_closed, closed}
use Rattle.type_model.specs.PartNamesNames.{AreApart}
use Rattle.lowered_types.specs.declared.fault.BuildFault.{BuildFault}
use Rattle.lowered_types.specs.Faults.{at_most, each, max_enumerators, max_members}
use Rattle.lowered_types.specs.Members.{Members}
use Rattle.lowered_types.specs.Lowered.{Lowered, Numbered, added_at, already, counted, one_site, opened}
use Rattle.lowered_types.specs.TypeKinds.{kind_of}
use Rattle.lowered_types.specs.SimpleTypes.{array_type, arrays, bound_of, bound_or_none, const_type, declarator_at, declarator_name, entry_of, enum_type, param_type, simple_type, sizes_read, type_found}
use Rattle.lowered_types.specs.Labels.{Switched, label_added, no_arms, no_labels, switch_at, switch_kind, switch_of, switch_read, switch_type, values_of}
use Rattle.lowered_types.specs.Types.{Cases, WithMembers, arm_at, case_added, cases_of, default_number, default_sites, default_test, member_added, members_added, no_members, numbered_arm, struct_defined, struct_type, type_spec, union_defined, union_type, with_cases, with_declarator, with_members, with_members_of}
use Rattle.model_builder.specs.PartNames.{HaveNames}
use Rattle.model_builder.proofs.Good.{Good, good_both, good_walk}
use Rattle.model_builder.proofs.Labelled.{AreRead, Switch, case_more, labels_are_read, labels_in, union_names}
use Rattle.model_builder.proofs.NamedNodes.{Has, HasAll, Leaves, added_named, and_then, behind, counted_named, defined_named, most_is, none_apart, opened_named, type_named}
use Rattle.model_builder.proofs.Picked.{Picked, picked_behind, picked_both}
use Rattle.model_builder.proofs.PickedNames.{case_closed, case_picked, case_type_good, cases_picked, enumerators_apart, good_body, inside_apart, member_closed, member_picked, members_picked, names_in, names_of_cases, names_of_members, type_closed}

-- ---- types that declare nothing

pub const_named : (es : List Entry) (w : Lowered) (scope : ℕ) (t : ConstType) → Has w
    → Leaves HasAll (const_type es w scope t)
const_named es w scope (ConstTypes.Integer i) h = h
const_named es w scope ConstTypes.Octet h = h
const_named es w scope ConstTypes.Char h = h
const_named es w scope ConstTypes.Boolean h = h
const_named es w scope (ConstTypes.String None) h = h
const_named es w scope (ConstTypes.String (Some bound)) h =
    behind HasAll (bound_of es scope bound) _
    (λ most is. added_named w (Text most) [] (one_site (leaf_at (expr_start bound.expr.value))) h none_apart refl)
const_named es w scope (ConstTypes.Name name) h = behind HasAll (type_found es w scope name) _ (λ n is. h)

pub param_named : (es : List Entry) (w : Lowered) (scope : ℕ) (t : ParamType) → Has w
    → Leaves HasAll (param_type es w scope t)
param_named es w scope (ParamTypes.Plain t) h = const_named es w scope t h
param_named es w scope ParamTypes.Object h = h

simple_named : (es : List Entry) (w : Lowered) (scope : ℕ) (at : At) (t : SimpleType) → Has w
    → Leaves HasAll (simple_type es w scope at t)
simple_named es w scope at (Plain t) h = param_named es w scope t h
simple_named es w scope at (Sequence' shape element bound) h =
    and_then HasAll HasAll (simple_type es w scope at element) _ (simple_named es w scope at element h) (λ e k.
    behind HasAll (bound_or_none es scope bound) (λ most. added_at e.lowered (Seq e.number most) at) (λ most is.
    added_named e.lowered (Seq e.number most) [] (one_site at) k none_apart refl))

arrays_named : (element : Numbered) (at : At) (ns : List ℕ) → HasAll element → Leaves HasAll (arrays element at ns)
arrays_named element at [] h = h
arrays_named element at (n ∷ ns) h =
    and_then HasAll HasAll (arrays element at ns) _ (arrays_named element at ns h) (λ inner k.
    added_named inner.lowered (Array inner.number n) [] (one_site at) k none_apart refl)

pub array_named : (es : List Entry) (scope : ℕ) (element : Numbered) (d : Declarator) → HasAll element
    → Leaves HasAll (array_type es scope element d)
array_named es scope element d h =
    behind HasAll (sizes_read es scope d.sizes.items) _ (λ ns is. arrays_named element (declarator_at d) ns h)

-- ---- enumerations

pub enum_named : (es : List Entry) (w : Lowered) (scope : ℕ) (e : EnumType) → Has w → Good es scope (enum_steps e)
    → Leaves HasAll (enum_type es w scope e)
enum_named es w scope e h g =
    let ids = parts e.enumerators.value in
    let at = leaf_at e.identifier in
    behind HasAll (entry_of es scope e.identifier) _ (λ entry told.
    behind HasAll (at_most max_enumerators Enumerators at (length ids)) _ (λ n is.
    type_named w entry (Enum n) (map word ids) at h (enumerators_apart es scope e g)
    (length-map ids word ∙ sym (most_is max_enumerators Enumerators at (length ids) n is))))

-- ---- members

-- each has a name
pub record AreMembers (names : List (List ℕ)) (ms : Members) : Type 0 where
  pub long : length ms.names ≡ length ms.numbers
  pub are : ms.names ≡ names

pub record HasMembers (names : List (List ℕ)) (m : WithMembers) : Type 0 where
  pub has : Has m.lowered
  pub members : AreMembers names m.members

pub member_named : (names : List (List ℕ)) (ms : Members) (name : List ℕ) (number : ℕ) (at : At) → AreMembers names ms
    → Leaves (AreMembers (names ++ name ∷ [])) (member_added ms name number at)
member_named names ms name number at h =
    let one = length-append ms.names (name ∷ []) in
    let other = length-append ms.numbers (number ∷ []) in
    let long = h.long in
    behind (AreMembers (names ++ name ∷ [])) (at_most max_members MembersLimit at (length ms.numbers + 1)) _ (λ n is.
    record { long = omega (arith, one, other, long); are = ap (λ ns. ns ++ name ∷ []) h.are })

declarator_named : (es : List Entry) (scope number : ℕ) (names : List (List ℕ)) (m : WithMembers) (d : Declarator)
    → HasMembers names m
    → Leaves (HasMembers (names ++ declarator_name d ∷ [])) (with_declarator es scope number m d)
declarator_named es scope number names m d h =
    let more = names ++ declarator_name d ∷ [] in
    and_then HasAll (HasMembers more) (array_type es scope (already m.lowered number) d) _
    (array_named es scope (already m.lowered number) d h.has) (λ a k.
    and_then (AreMembers more) (HasMembers more) (member_added m.members (declarator_name d) a.number (declarator_at d))
    _
    (member_named names m.members (declarator_name d) a.number (declarator_at d) h.members)
    (λ ms are. record { has = k; members = are }))

declarators_named : (es : List Entry) (scope number : ℕ) (names : List (List ℕ)) (m : WithMembers)
    (ds : List Declarator) → HasMembers names m
    → Leaves (HasMembers (names ++ map declarator_name ds)) (each (with_declarator es scope number) m ds)
declarators_named es scope number names m [] h = subst (λ ns. HasMembers ns m) (sym (append-nil names)) h
declarators_named es scope number names m (d ∷ ds) h =
    let more = names ++ declarator_name d ∷ [] in
    let all = names ++ map declarator_name (d ∷ ds) in
    and_then (HasMembers more) (HasMembers all) (with_declarator es scope number m d) _
    (declarator_named es scope number names m d h) (λ next k.
    subst (λ ns. Leaves (HasMembers ns) (each (with_declarator es scope number) next ds))
    (append_assoc names (declarator_name d ∷ []) (map declarator_name ds))
    (declarators_named es scope number more next ds k))

-- members of a type that leaves names
pub added_members : (es : List Entry) (scope : ℕ) (names : List (List ℕ)) (ms : Members)
    (type : Result Numbered BuildFault) (ds : Listed Declarator) → AreMembers names ms
    → Leaves HasAll type → Leaves (HasMembers (names ++ names_in ds)) (members_added es scope ms type ds)
added_members es scope names ms type ds h typed =
    and_then HasAll (HasMembers (names ++ names_in ds)) type _ typed (λ t k.
    declarators_named es scope t.number names (with_members_of t.lowered ms) (parts ds)
    (record { has = k; members = h }))

struct_closed : (m : WithMembers) (names : List (List ℕ)) (number : ℕ) (at : At) → HasMembers names m → AreApart names
    → Leaves Has (struct_defined m number at)
struct_closed m names number at h apart =
    and_then Has Has (counted m.lowered (length m.members.numbers) at) _
    (counted_named m.lowered (length m.members.numbers) at h.has) (λ w k.
    defined_named w number (Struct m.members.numbers) m.members.names m.members.sites k
    (subst AreApart (sym h.members.are) apart) h.members.long)

-- ---- cases

-- each has a name, and a label or more
record HasCases (names : List (List ℕ)) (c : Cases) : Type 0 where
  has : Has c.lowered
  are : c.arms.names ≡ names
  most : labels_in no_arms + length names ≤ labels_in c.arms

case_named : (es : List Entry) (scope : ℕ) (s : Switch) (names : List (List ℕ)) (c : Cases) (labels : Listed Label)
    (type : Lowered → Result Numbered BuildFault) (d : Declarator)
    → HasCases names c → Leaves HasAll (type c.lowered)
    → Leaves (HasCases (names ++ declarator_name d ∷ [])) (case_added es scope s c labels type d)
case_named es scope s names c labels type d h typed =
    let goal = HasCases (names ++ declarator_name d ∷ []) in
    behind goal (each (label_added es scope s c.arms) no_labels (parts labels)) _ (λ ls reads.
    and_then HasAll goal (type c.lowered) _ typed (λ t k.
    and_then HasAll goal (array_type es scope t d) _ (array_named es scope t d k) (λ a m.
    let none : AreRead c.arms no_labels 0 = record { long = refl; free = λ k is. absurd cc } in
    let read = labels_are_read es scope s c.arms no_labels ls 0 (parts labels) none reads in
    let some : 1 ≤ 0 + length (parts labels) = omega arith in
    let more = case_more c.arms ls (0 + length (parts labels)) (declarator_name d) a.number (declarator_at d) read some
    in
    let long = length-append names (declarator_name d ∷ []) in
    let most = h.most in
    record { has = m; are = ap (λ ns. ns ++ declarator_name d ∷ []) h.are; most = omega (arith, more, long, most) })))

union_closed : (s : Switch) (c : Cases) (name : List ℕ) (names : List (List ℕ)) (number : ℕ) (at : At)
    → HasCases (name ∷ names) c → AreApart (name ∷ names)
    → Leaves Has (union_defined s c number at)
union_closed s c name names number at h apart =
    let node = Union s.number (map numbered_arm c.arms.arms) (default_number c.arms.default) in
    let fits = union_names s.number c.arms (length names) h.most in
    behind Has (default_test s (length c.arms.arms) c.arms.default) _ (λ u is.
    and_then Has Has (counted c.lowered (length c.arms.arms) at) _
    (counted_named c.lowered (length c.arms.arms) at h.has) (λ w k.
    defined_named w number node c.arms.names (map arm_at c.arms.arms ++ default_sites c.arms.default) k
    (subst AreApart (sym h.are) apart)
    (subst (λ ns. HaveNames node (length ns)) (sym h.are) fits)))

-- ---- discriminators

record HasSwitch (r : Switched) : Type 0 where
  has : Has r.lowered

switch_named : (es : List Entry) (w : Lowered) (scope : ℕ) (at : At) (s : SwitchType) → Has w
    → Good es scope (switch_steps s) → Leaves HasSwitch (switch_read es w scope at s)
switch_named es w scope at s h g =
    and_then HasAll HasSwitch (switch_type es w scope s) _ (by s g) (λ t k.
    behind HasSwitch (switch_kind es scope s) _ (λ kind is.
    behind HasSwitch (switch_of (switch_at s at) (kind_of t.number (slice_get t.lowered.nodes t.number)) t.number kind
    (values_of (slice_get t.lowered.nodes t.number))) _ (λ switch chosen.
    record { has = k })))
  where
    by : (s : SwitchType) → Good es scope (switch_steps s) → Leaves HasAll (switch_type es w scope s)
    by (SwitchTypes.Integer i) g = h
    by SwitchTypes.Char g = h
    by SwitchTypes.Boolean g = h
    by (SwitchTypes.Enum e) g = enum_named es w scope e h g
    by (SwitchTypes.Name name) g = behind HasAll (type_found es w scope name) _ (λ n is. h)

-- ---- types

no_members_named : AreMembers [] no_members
no_members_named = record { long = refl; are = refl }

no_cases_named : (w : Lowered) → Has w → HasCases [] (cases_of w no_arms)
no_cases_named w h = record { has = h; are = refl; most = omega arith }

mutual
  pub spec_named : (es : List Entry) (w : Lowered) (scope : ℕ) (at : At) (t : TypeSpec) → Has w
      → Good es scope (type_steps t) → Leaves HasAll (type_spec es w scope at t)
  spec_named es w scope at (Simple t) h g = simple_named es w scope at t h
  spec_named es w scope at (StructSpec s) h g = struct_named es w scope s h g
  spec_named es w scope at (UnionSpec u) h g = union_named es w scope u h g
  spec_named es w scope at (EnumSpec e) h g = enum_named es w scope e h g

  pub struct_named : (es : List Entry) (w : Lowered) (scope : ℕ) (s : StructType) → Has w
      → Good es scope (struct_steps s) → Leaves HasAll (struct_type es w scope s)
  struct_named es w scope (StructType' id p t ds shape rest) h g =
      let first = type_steps t ++ flat_map declarator_steps (parts ds) in
      let others = members_steps rest in
      let rest_closed : Closed others = closed (members_ask {ls = []} rest) in
      let names = names_in ds ++ names_of_members rest in
      let site = declarator_at ds.first in
      behind HasAll (entry_of es scope id) _ (λ e told.
      let inner = e + 1 in
      let body = good_body es scope Kinds.Struct id (first ++ others) e (both_closed (member_closed t ds) rest_closed)
      told g in
      let both = good_both es inner first others (member_closed t ds) body in
      let walk = good_walk es inner first others (member_closed t ds) body in
      let picked = subst (Picked inner names) (sym walk)
      (picked_both inner (names_in ds) (names_of_members rest) (introduced es inner first) (introduced es inner others)
      (member_picked es inner t ds both.0) (members_picked es inner rest both.1)) in
      let apart = inside_apart es inner names (first ++ others) body picked in
      let typed = (good_both es inner (type_steps t) (flat_map declarator_steps (parts ds)) (type_closed t) both.0).0 in
      and_then HasAll HasAll (opened w e (leaf_at id)) _ (opened_named w e (leaf_at id) h) (λ o k.
      and_then (HasMembers (names_in ds)) HasAll
      (members_added es inner no_members (type_spec es o.lowered inner site t) ds) _
      (added_members es inner [] no_members (type_spec es o.lowered inner site t) ds no_members_named
      (spec_named es o.lowered inner site t k typed)) (λ m has.
      and_then (HasMembers names) HasAll (with_members es inner m rest) _
      (members_named es inner (names_in ds) m rest has both.1) (λ n all.
      and_then Has HasAll (struct_defined n o.number (leaf_at id)) _
      (struct_closed n names o.number (leaf_at id) all apart) (λ u done. done)))))

  pub union_named : (es : List Entry) (w : Lowered) (scope : ℕ) (u : UnionType) → Has w → Good es scope (union_steps u)
      → Leaves HasAll (union_type es w scope u)
  union_named es w scope (UnionType' id switch p labels t d shape rest) h g =
      let chosen = switch_steps switch.value in
      let first = flat_map label_steps (parts labels) ++ type_steps t ++ declarator_steps d in
      let others = cases_steps rest in
      let switch_closed : Closed chosen = closed (switch_asks {ls = []} switch.value) in
      let front = both_closed switch_closed (case_closed labels t d) in
      let rest_closed : Closed others = closed (cases_ask {ls = []} rest) in
      let names = declarator_name d ∷ names_of_cases rest in
      let site = declarator_at d in
      behind HasAll (entry_of es scope id) _ (λ e told.
      let inner = e + 1 in
      let body = good_body es scope Kinds.Union id ((chosen ++ first) ++ others) e (both_closed front rest_closed) told
      g in
      let both = good_both es inner (chosen ++ first) others front body in
      let walk = good_walk es inner (chosen ++ first) others front body in
      let begun = good_both es inner chosen first switch_closed both.0 in
      let begun_walk = good_walk es inner chosen first switch_closed both.0 in
      let own_picked = subst (Picked inner (declarator_name d ∷ [])) (sym begun_walk)
      (picked_behind inner (declarator_name d ∷ []) (introduced es inner chosen) (introduced es inner first)
      (case_picked es inner labels t d begun.1)) in
      let picked = subst (Picked inner names) (sym walk)
      (picked_both inner (declarator_name d ∷ []) (names_of_cases rest) (introduced es inner (chosen ++ first))
      (introduced es inner others)
      own_picked (cases_picked es inner rest both.1)) in
      let apart = inside_apart es inner names ((chosen ++ first) ++ others) body picked in
      and_then HasAll HasAll (opened w e (leaf_at id)) _ (opened_named w e (leaf_at id) h) (λ o k.
      and_then HasSwitch HasAll (switch_read es o.lowered inner (leaf_at id) switch.value) _
      (switch_named es o.lowered inner (leaf_at id) switch.value k begun.0) (λ s has.
      and_then (HasCases (declarator_name d ∷ [])) HasAll
      (case_added es inner s.switch (cases_of s.lowered no_arms) labels (λ v. type_spec es v inner site t) d) _
      (case_named es inner s.switch [] (cases_of s.lowered no_arms) labels (λ v. type_spec es v inner site t) d
      (no_cases_named s.lowered has.has)
      (spec_named es s.lowered inner site t has.has (case_type_good es inner labels t d begun.1))) (λ c one.
      and_then (HasCases names) HasAll (with_cases es inner s.switch c rest) _
      (cases_named es inner s.switch (declarator_name d ∷ []) c rest one both.1) (λ c all.
      and_then Has HasAll (union_defined s.switch c o.number (leaf_at id)) _
      (union_closed s.switch c (declarator_name d) (names_of_cases rest) o.number (leaf_at id) all apart)
      (λ u done. done))))))

  members_named : {n : _} → (es : List Entry) (scope : ℕ) (names : List (List ℕ)) (m : WithMembers)
      (row : Row_of-Member n) → HasMembers names m → Good es scope (members_steps row)
      → Leaves (HasMembers (names ++ names_of_members row)) (with_members es scope m row)
  members_named es scope names m end_of-Member h g = subst (λ ns. HasMembers ns m) (sym (append-nil names)) h
  members_named es scope names m (more_of-Member t ds rest) h g =
      let first = type_steps t ++ flat_map declarator_steps (parts ds) in
      let both = good_both es scope first (members_steps rest) (member_closed t ds) g in
      let typed = (good_both es scope (type_steps t) (flat_map declarator_steps (parts ds)) (type_closed t) both.0).0 in
      let site = declarator_at ds.first in
      let more = names ++ names_in ds in
      and_then (HasMembers more) (HasMembers (names ++ names_of_members (more_of-Member t ds rest)))
      (members_added es scope m.members (type_spec es m.lowered scope site t) ds) _
      (added_members es scope names m.members (type_spec es m.lowered scope site t) ds h.members
      (spec_named es m.lowered scope site t h.has typed)) (λ next k.
      subst (λ ns. Leaves (HasMembers ns) (with_members es scope next rest))
      (append_assoc names (names_in ds) (names_of_members rest))
      (members_named es scope more next rest k both.1))

  cases_named : {n : _} → (es : List Entry) (scope : ℕ) (s : Switch) (names : List (List ℕ)) (c : Cases)
      (row : Row_of-Case n) → HasCases names c → Good es scope (cases_steps row)
      → Leaves (HasCases (names ++ names_of_cases row)) (with_cases es scope s c row)
  cases_named es scope s names c end_of-Case h g = subst (λ ns. HasCases ns c) (sym (append-nil names)) h
  cases_named es scope s names c (more_of-Case labels t d rest) h g =
      let first = flat_map label_steps (parts labels) ++ type_steps t ++ declarator_steps d in
      let both = good_both es scope first (cases_steps rest) (case_closed labels t d) g in
      let site = declarator_at d in
      let more = names ++ declarator_name d ∷ [] in
      and_then (HasCases more) (HasCases (names ++ names_of_cases (more_of-Case labels t d rest)))
      (case_added es scope s c labels (λ v. type_spec es v scope site t) d) _
      (case_named es scope s names c labels (λ v. type_spec es v scope site t) d h
      (spec_named es c.lowered scope site t h.has (case_type_good es scope labels t d both.0))) (λ next k.
      subst (λ ns. Leaves (HasCases ns) (with_cases es scope s next rest))
      (append_assoc names (declarator_name d ∷ []) (names_of_cases rest))
      (cases_named es scope s more next rest k both.1))
