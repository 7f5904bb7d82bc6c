-- The names of the members of a type, of its cases and of what it carries are picked from what its steps introduce.
use Rattle.std.proofs.Common.{◌≡◌, ℕ, suc, ◌+◌, List, [], ◌∷◌, ◌++◌, map, Some, Ok, refl, sym, ap, subst, arith}
use Rattle.std.specs.List.{IsDistinct, flat_map}
use Rattle.std.proofs.lemmas.List.Concat.{flat_map_single}
use Rattle.idl_tree.specs.declared.names.Leaf.{Leaf}
use Rattle.idl_tree.specs.declared.names.Listed.{Listed}
use Rattle.idl_tree.specs.declared.const_expr.ConstExpr.{ConstExpr}
use Rattle.idl_tree.specs.declared.types.Declarator.{Declarator}
use Rattle.idl_tree.specs.declared.types.EnumType.{EnumType}
use Rattle.idl_tree.specs.declared.types.Label.{Label}
use Rattle.idl_tree.specs.declared.types.TypeSpec.{TypeSpec}
use Rattle.idl_tree.specs.declared.types.StructType.{Row_of-Member, end_of-Member, more_of-Member}
use Rattle.idl_tree.specs.declared.types.UnionType.{Row_of-Case, end_of-Case, more_of-Case}
use Rattle.idl_tree.specs.Lists.{parts}
use Rattle.idl_tree.specs.declared.kinds.EntryKind.{EntryKind}
use Rattle.name_table.specs.Entry.{Entry, named}
use Rattle.name_table.specs.Search.{word}
use Rattle.scoped_names.specs.Introductions.{IsEntry, Stands, Has, clashes, introduced}
use Rattle.name_steps.specs.Steps.{Step, Declares, DeclaresEnum, DeclaresEnumerator, Defines, Enters, Leaves, cases_steps, declarator_steps, enum_steps, label_steps, members_steps, size_step, type_steps}
use Rattle.name_steps.proofs.Asks.{declarator_asks, label_asks, type_asks}
use Rattle.scoped_names.proofs.Parts.{Closed, both_closed, closed, each_closed, one_closed}
use Rattle.lowered_types.specs.Faults.{or_other}
use Rattle.lowered_types.specs.SimpleTypes.{declarator_name, entry_of}
use Rattle.type_model.specs.PartNamesNames.{AreApart}
use Rattle.model_builder.proofs.Good.{Good, good_both, good_inside, good_tail, good_walk}
use Rattle.model_builder.proofs.Picked.{Picked, picked_apart, picked_behind, picked_both, stands_apart, stands_enumerator}

-- ---- names in the order of the text

abbrev pub names_in : Listed Declarator → List (List ℕ)
names_in ds = map declarator_name (parts ds)

abbrev pub names_of_members : {n : _} → Row_of-Member n → List (List ℕ)
names_of_members end_of-Member = []
names_of_members (more_of-Member t declarators rest) = names_in declarators ++ names_of_members rest

abbrev pub names_of_cases : {n : _} → Row_of-Case n → List (List ℕ)
names_of_cases end_of-Case = []
names_of_cases (more_of-Case labels t declarator rest) = declarator_name declarator ∷ names_of_cases rest

-- ---- members

sizes_nothing : (es : List Entry) (scope : ℕ) (sizes : List ConstExpr) → introduced es scope (map size_step sizes) ≡ []
sizes_nothing es scope [] = refl
sizes_nothing es scope (s ∷ sizes) = sizes_nothing es scope sizes

declarator_picked : (es : List Entry) (scope : ℕ) (d : Declarator)
    → Picked scope (declarator_name d ∷ []) (introduced es scope (declarator_steps d))
declarator_picked es scope d =
    ([], d.identifier, [], ap (λ z. Has scope d.identifier ∷ z) (sizes_nothing es scope d.sizes.items), refl, tt)

declarator_closed : (d : Declarator) → Closed (declarator_steps d)
declarator_closed d = closed (declarator_asks {ls = []} d)

-- of parts one behind another, whose names are those of members of the scope s
pub each_picked : {T : Type 0} (es : List Entry) (s scope : ℕ) (steps : T → List Step) (names : T → List (List ℕ))
    → ((x : T) → Closed (steps x))
    → ((x : T) → Good es scope (steps x) → Picked s (names x) (introduced es scope (steps x)))
    → (xs : List T) → Good es scope (flat_map steps xs)
    → Picked s (flat_map names xs) (introduced es scope (flat_map steps xs))
each_picked es s scope steps names c one [] g = tt
each_picked es s scope steps names c one (x ∷ xs) g =
    let both = good_both es scope (steps x) (flat_map steps xs) (c x) g in
    let walk = good_walk es scope (steps x) (flat_map steps xs) (c x) g in
    subst (Picked s (names x ++ flat_map names xs)) (sym walk)
    (picked_both s (names x) (flat_map names xs) (introduced es scope (steps x))
    (introduced es scope (flat_map steps xs))
    (one x both.0) (each_picked es s scope steps names c one xs both.1))

declarators_picked : (es : List Entry) (scope : ℕ) (ds : List Declarator) → Good es scope (flat_map declarator_steps ds)
    → Picked scope (map declarator_name ds) (introduced es scope (flat_map declarator_steps ds))
declarators_picked es scope ds g =
    subst (λ ns. Picked scope ns (introduced es scope (flat_map declarator_steps ds)))
    (flat_map_single declarator_name ds)
    (each_picked es scope scope declarator_steps (λ d. declarator_name d ∷ []) declarator_closed
    (λ d h. declarator_picked es scope d) ds g)

pub type_closed : (t : TypeSpec) → Closed (type_steps t)
type_closed t = closed (type_asks {ls = []} t)

-- members of one type
pub member_picked : (es : List Entry) (scope : ℕ) (t : TypeSpec) (ds : Listed Declarator)
    → Good es scope (type_steps t ++ flat_map declarator_steps (parts ds))
    → Picked scope (names_in ds) (introduced es scope (type_steps t ++ flat_map declarator_steps (parts ds)))
member_picked es scope t ds g =
    let named = flat_map declarator_steps (parts ds) in
    let both = good_both es scope (type_steps t) named (type_closed t) g in
    subst (Picked scope (names_in ds)) (sym (good_walk es scope (type_steps t) named (type_closed t) g))
    (picked_behind scope (names_in ds) (introduced es scope (type_steps t)) (introduced es scope named)
    (declarators_picked es scope (parts ds) both.1))

pub member_closed : (t : TypeSpec) (ds : Listed Declarator)
    → Closed (type_steps t ++ flat_map declarator_steps (parts ds))
member_closed t ds = both_closed (type_closed t) (each_closed declarator_steps declarator_closed (parts ds))

pub members_picked : {n : _} → (es : List Entry) (scope : ℕ) (row : Row_of-Member n) → Good es scope (members_steps row)
    → Picked scope (names_of_members row) (introduced es scope (members_steps row))
members_picked es scope end_of-Member g = tt
members_picked es scope (more_of-Member t ds rest) g =
    let first = type_steps t ++ flat_map declarator_steps (parts ds) in
    let both = good_both es scope first (members_steps rest) (member_closed t ds) g in
    subst (Picked scope (names_in ds ++ names_of_members rest))
    (sym (good_walk es scope first (members_steps rest) (member_closed t ds) g))
    (picked_both scope (names_in ds) (names_of_members rest) (introduced es scope first)
    (introduced es scope (members_steps rest))
    (member_picked es scope t ds both.0) (members_picked es scope rest both.1))

-- ---- cases: labels, a type, a declarator

pub labels_closed : (labels : Listed Label) → Closed (flat_map label_steps (parts labels))
labels_closed labels = each_closed label_steps (λ l. closed (label_asks {ls = []} l)) (parts labels)

pub case_front_closed : (labels : Listed Label) (t : TypeSpec)
    → Closed (flat_map label_steps (parts labels) ++ type_steps t)
case_front_closed labels t = both_closed (labels_closed labels) (type_closed t)

pub case_picked : (es : List Entry) (scope : ℕ) (labels : Listed Label) (t : TypeSpec) (d : Declarator)
    → Good es scope (flat_map label_steps (parts labels) ++ type_steps t ++ declarator_steps d)
    → Picked scope (declarator_name d ∷ [])
    (introduced es scope (flat_map label_steps (parts labels) ++ type_steps t ++ declarator_steps d))
case_picked es scope labels t d g =
    let front = flat_map label_steps (parts labels) ++ type_steps t in
    subst (Picked scope (declarator_name d ∷ []))
    (sym (good_walk es scope front (declarator_steps d) (case_front_closed labels t) g))
    (picked_behind scope (declarator_name d ∷ []) (introduced es scope front) (introduced es scope (declarator_steps d))
    (declarator_picked es scope d))

pub case_closed : (labels : Listed Label) (t : TypeSpec) (d : Declarator)
    → Closed (flat_map label_steps (parts labels) ++ type_steps t ++ declarator_steps d)
case_closed labels t d = both_closed (case_front_closed labels t) (declarator_closed d)

-- the type of a case
pub case_type_good : (es : List Entry) (scope : ℕ) (labels : Listed Label) (t : TypeSpec) (d : Declarator)
    → Good es scope (flat_map label_steps (parts labels) ++ type_steps t ++ declarator_steps d)
    → Good es scope (type_steps t)
case_type_good es scope labels t d g =
    let front = good_both es scope (flat_map label_steps (parts labels) ++ type_steps t) (declarator_steps d)
    (case_front_closed labels t) g in
    (good_both es scope (flat_map label_steps (parts labels)) (type_steps t) (labels_closed labels) front.0).1

pub cases_picked : {n : _} → (es : List Entry) (scope : ℕ) (row : Row_of-Case n) → Good es scope (cases_steps row)
    → Picked scope (names_of_cases row) (introduced es scope (cases_steps row))
cases_picked es scope end_of-Case g = tt
cases_picked es scope (more_of-Case labels t d rest) g =
    let first = flat_map label_steps (parts labels) ++ type_steps t ++ declarator_steps d in
    let both = good_both es scope first (cases_steps rest) (case_closed labels t d) g in
    subst (Picked scope (declarator_name d ∷ names_of_cases rest))
    (sym (good_walk es scope first (cases_steps rest) (case_closed labels t d) g))
    (picked_both scope (declarator_name d ∷ []) (names_of_cases rest) (introduced es scope first)
    (introduced es scope (cases_steps rest))
    (case_picked es scope labels t d both.0) (cases_picked es scope rest both.1))

-- the names of what stands inside a scope are apart
pub inside_apart : (es : List Entry) (scope : ℕ) (names : List (List ℕ)) (steps : List Step) → Good es scope steps
    → Picked scope names (introduced es scope steps) → AreApart names
inside_apart es scope names steps g picked = picked_apart scope names (introduced es scope steps) g.apart picked

-- ---- enumerators

pub enumerators_apart : (es : List Entry) (scope : ℕ) (e : EnumType) → Good es scope (enum_steps e)
    → AreApart (map word (parts e.enumerators.value))
enumerators_apart es scope e g =
    let ids = parts e.enumerators.value in
    let behind = (good_tail es scope (DeclaresEnum e.identifier) (map DeclaresEnumerator ids) tt g).1 in
    stands_apart scope ids (subst (IsDistinct clashes) (standing ids) behind.apart)
  where
    standing : (ls : List Leaf) → introduced es scope (map DeclaresEnumerator ls) ≡ map (stands_enumerator scope) ls
    standing [] = refl
    standing (l ∷ ls) = ap (λ z. stands_enumerator scope l ∷ z) (standing ls)

-- ---- what stands inside a declaration

-- what the identifier of a declaration stands for
pub number_of : (es : List Entry) (scope : ℕ) (l : Leaf) (kind : EntryKind) → IsEntry es (Stands scope l kind)
    → (n : ℕ) × (named es scope (word l) ≡ Some n)
number_of es scope l kind (n, e, is, here, kind_is, name_is) = (n, is)

-- it is the entry that is told
pub told_same : (es : List Entry) (scope : ℕ) (l : Leaf) (n e : ℕ) → named es scope (word l) ≡ Some n
    → entry_of es scope l ≡ Ok e → n ≡ e
told_same es scope l n e is told =
    let found : entry_of es scope l ≡ Ok n = ap or_other is in
    cc

-- inside the scope of an entry
pub good_in : (es : List Entry) (scope : ℕ) (l : Leaf) (xs : List Step) (n e : ℕ) → Closed xs
    → named es scope (word l) ≡ Some n → entry_of es scope l ≡ Ok e
    → Good es scope (Enters l ∷ (xs ++ Leaves ∷ [])) → Good es (e + 1) xs
good_in es scope l xs n e c is told g =
    let same = told_same es scope l n e is told in
    let next : suc n ≡ e + 1 = omega (arith, same) in
    subst (λ k. Good es k xs) next (good_inside es scope l xs n c is g)

-- a declaration with a body
pub good_body : (es : List Entry) (scope : ℕ) (kind : EntryKind) (l : Leaf) (xs : List Step) (e : ℕ) → Closed xs
    → entry_of es scope l ≡ Ok e
    → Good es scope (Declares kind l ∷ Enters l ∷ (Defines l ∷ xs) ++ Leaves ∷ []) → Good es (e + 1) xs
good_body es scope kind l xs e c told g =
    let head = good_tail es scope (Declares kind l) (Enters l ∷ (Defines l ∷ xs) ++ Leaves ∷ []) tt g in
    let (n, is) = number_of es scope l kind head.0.entries.0 in
    let inner = good_in es scope l (Defines l ∷ xs) n e (both_closed (one_closed (Defines l) tt) c) is told head.1 in
    (good_tail es (e + 1) (Defines l) xs tt inner).1
