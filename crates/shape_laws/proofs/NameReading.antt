-- Specifications of one shape have the same names, and the same fault of their names.
use Rattle.std.proofs.Common.{◌≡◌, ℕ, not, ◌&&◌, if◌then◌else◌, List, [], ◌∷◌, ◌++◌, map, length, Option, Some, None, Ok, Err, slice_get, refl, ap, ap₂, ◌∙◌}
use Rattle.std.specs.Str.{bytes_eq}
use Rattle.std.specs.Option.{option_or}
use Rattle.idl_lexer.specs.Identifiers.{words}
use Rattle.idl_tree.specs.declared.names.At.{At}
use Rattle.idl_tree.specs.declared.names.Leaf.{Leaf}
use Rattle.idl_tree.specs.declared.names.ScopedName.{ScopedName}
use Rattle.idl_tree.specs.declared.types.Declarator.{Declarator}
use Rattle.idl_tree.specs.declared.types.TypeSpec.{TypeSpec, Simple, Struct as StructSpec, Union as UnionSpec, Enum as EnumSpec}
use Rattle.idl_tree.specs.declared.definitions.Const.{Const}
use Rattle.idl_tree.specs.declared.definitions.Definition.{Definition}
use Rattle.idl_tree.specs.declared.kinds.EntryKind.{EntryKind}
use Rattle.name_steps.specs.Steps.{Step, Declares, DeclaresEnum, DeclaresEnumerator, DeclaresTypedef, IsNew, DeclaresConst, DeclaresFeature, HasMember, IsUndefined, HasBase, Enters, Defines, Leaves, NamesType, NamesException, HasWorth, IsSize, Says, steps_of}
use Rattle.name_table.specs.Entry.{Entry, named}
use Rattle.name_table.specs.Entries.{plain, scope_number, scope_of}
use Rattle.name_table.specs.Features.{features_of}
use Rattle.name_table.specs.Search.{begins_at_root, identifiers_see, inherited, word}
use Rattle.name_table.specs.declared.entry.Meaning.{Meaning}
use Rattle.name_table.specs.declared.search.Found.{Found}
use Rattle.name_table.specs.declared.search.Found.TheVariants.{Nothing, One, Several}
use Rattle.scoped_names.specs.Faults.{scope_at, taken_by, free_test, entry_at, new_test, may_reappear, keeps_prefix, declares_over, entry_in, declared_as, declared, enum_declared, enumerator_declared, type_kind, typedef_declared, const_declared, member_added, is_defined, undefined_test, defined_here, free_of, feature_declared, with_base_at, base_added, given_once, prefix_set, said_read, step_read, steps_read, never_defined, left_open, nothing_yet}
use Rattle.scoped_names.specs.FileNames.{file_names, names_of}
use Rattle.scoped_names.specs.IdPragmas.{Said, SetsPrefix, Gives, said_by, said_by_kind}
use Rattle.scoped_names.specs.Meanings.{const_meant, enum_meant, enumerator_meant, typedef_meant}
use Rattle.scoped_names.specs.Reading.{State, StateOrFault, ◌>>◌, passed}
use Rattle.scoped_names.specs.RepositoryIds.{pragma_for}
use Rattle.scoped_names.specs.Tests.{at_entry, found_at, is_exception, is_type, resolved, value_of_type}
use Rattle.scoped_names.specs.TypeKinds.{const_type_kind}
use Rattle.scoped_names.specs.declared.fault.NameFault.TheVariants.{Collides, PrefixDiffers}
use Rattle.idl_tree.specs.Shapes.{leaf_shape, name_shape}
use Rattle.idl_tree.specs.TypeShapes.{type_shape, declarator_shape}
use Rattle.idl_tree.specs.DefinitionShapes.{const_shape, spec_shape}
use Rattle.shape_laws.proofs.Apart.{apart}
use Rattle.shape_laws.proofs.Starts.{leaf_same, name_at}
use Rattle.shape_laws.proofs.NameWords.{kind_text, leaf_number, word_same}
use Rattle.shape_laws.proofs.NameStepShapes.{step_shape}
use Rattle.shape_laws.proofs.NameDefinitions.{steps_alike}
use Rattle.shape_laws.proofs.NameTests.{bind_same, found_same, resolved_same, value_same, size_same, of_type_same, const_kind_same, simple_kind_same, typedef_meant_same, enum_meant_same, enumerator_meant_same, const_meant_same}

-- ---- names that are taken

free_same : (l m : Leaf) → leaf_shape l ≡ leaf_shape m → (x : Option At) → free_test l x ≡ free_test m x
free_same l m h None = refl
free_same l m h (Some other) = ap (λ p. Err (Collides p (Some other))) (leaf_same l m h)

taken_same : (st : State) (l m : Leaf) → leaf_shape l ≡ leaf_shape m
    → free_test l (taken_by st (word l)) ≡ free_test m (taken_by st (word m))
taken_same st l m h = free_same l m h (taken_by st (word l)) ∙ ap (λ w. free_test m (taken_by st w)) (word_same l m h)

new_same : (st : State) (l m : Leaf) → leaf_shape l ≡ leaf_shape m → new_test st l ≡ new_test st m
new_same st l m h =
    free_same l m h (option_or (taken_by st (word l)) (entry_at st.entries (named st.entries st.scope (word l))))
    ∙ ap (λ w. free_test m (option_or (taken_by st w) (entry_at st.entries (named st.entries st.scope w))))
    (word_same l m h)

-- ---- declarations

-- a declaration over another, by the word and the place
abbrev again_at : EntryKind → State → Entry → List ℕ → At → StateOrFault
again_at kind st e w p =
    (if not (may_reappear kind e.kind && bytes_eq w e.name) then Err (Collides p (at_entry (Some e)))
    else if keeps_prefix kind && not (bytes_eq st.prefix e.prefix) then Err (PrefixDiffers p (at_entry (Some e)))
    else Ok st)

abbrev entry_by : Meaning → State → List ℕ → At → Entry
entry_by m st w p = record {
  scope = st.scope;
  name = w;
  token = m.token;
  kind = m.kind;
  bases = [];
  worth = m.worth;
  stands_for = m.stands_for;
  line = p.line;
  identifier = p.token;
  prefix = st.prefix;
}

over_same : (k : Meaning) (st : State) (l m : Leaf) → leaf_shape l ≡ leaf_shape m → (x : Option Entry)
    → declares_over k st l x ≡ declares_over k st m x
over_same k st l m h None =
    ap₂ (λ w p. Ok (record st { entries = st.entries ++ entry_by k st w p ∷ [] })) (word_same l m h) (leaf_same l m h)
over_same k st l m h (Some e) = ap₂ (again_at k.kind st e) (word_same l m h) (leaf_same l m h)

named_over : (k : Meaning) (st : State) (l m : Leaf) → leaf_shape l ≡ leaf_shape m
    → declares_over k st l (entry_in st.entries (named st.entries st.scope (word l)))
    ≡ declares_over k st m (entry_in st.entries (named st.entries st.scope (word m)))
named_over k st l m h =
    over_same k st l m h (entry_in st.entries (named st.entries st.scope (word l)))
    ∙ ap (λ w. declares_over k st m (entry_in st.entries (named st.entries st.scope w))) (word_same l m h)

meant_same : (k : Meaning) (st : State) (l m : Leaf) → leaf_shape l ≡ leaf_shape m
    → declared_as k st l ≡ declared_as k st m
meant_same k st l m h =
    bind_same (free_test l (taken_by st (word l))) (free_test m (taken_by st (word m))) _ _ (taken_same st l m h)
    (λ u. named_over k st l m h)

declared_as_same : (k j : Meaning) → k ≡ j → (st : State) (l m : Leaf) → leaf_shape l ≡ leaf_shape m
    → declared_as k st l ≡ declared_as j st m
declared_as_same k j e st l m h = ap (λ k. declared_as k st l) e ∙ meant_same j st l m h

declared_same : (kind : EntryKind) (st : State) (l m : Leaf) → leaf_shape l ≡ leaf_shape m
    → declared kind st l ≡ declared kind st m
declared_same kind st l m h =
    declared_as_same (plain l.number kind) (plain m.number kind) (ap (λ n. plain n kind) (leaf_number l m h)) st l m h

enum_same : (st : State) (l m : Leaf) → leaf_shape l ≡ leaf_shape m → enum_declared st l ≡ enum_declared st m
enum_same st l m h =
    let n = length st.entries in
    bind_same (declared_as (enum_meant n l) st l) (declared_as (enum_meant n m) st m) _ _
    (declared_as_same (enum_meant n l) (enum_meant n m) (enum_meant_same n l m h) st l m h) (λ next. refl)

enumerator_same : (st : State) (l m : Leaf) → leaf_shape l ≡ leaf_shape m
    → enumerator_declared st l ≡ enumerator_declared st m
enumerator_same st l m h =
    declared_as_same (enumerator_meant st.enumeration (length st.entries) l)
    (enumerator_meant st.enumeration (length st.entries) m)
    (enumerator_meant_same st.enumeration (length st.entries) l m h) st l m h

type_kind_same : (st : State) (t u : TypeSpec) → type_shape t ≡ type_shape u → type_kind st t ≡ type_kind st u
type_kind_same st (Simple t) (Simple u) h = simple_kind_same st.entries st.scope t u cc
type_kind_same st (StructSpec s) (StructSpec r) h = refl
type_kind_same st (UnionSpec u) (UnionSpec v) h = refl
type_kind_same st (EnumSpec e) (EnumSpec f) h = refl
type_kind_same st t u h = apart h refl

typedef_same : (st : State) (t u : TypeSpec) → type_shape t ≡ type_shape u → (a b : Declarator)
    → declarator_shape a ≡ declarator_shape b
    → typedef_declared st t a ≡ typedef_declared st u b
typedef_same st t u k a b h =
    declared_as_same (typedef_meant (type_kind st t) a) (typedef_meant (type_kind st u) b)
    (typedef_meant_same (type_kind st t) (type_kind st u) (type_kind_same st t u k) a b h) st a.identifier b.identifier
    cc

const_same : (st : State) (a b : Const) → const_shape a ≡ const_shape b → const_declared st a ≡ const_declared st b
const_same st a b h =
    let k : leaf_shape a.identifier ≡ leaf_shape b.identifier = cc in
    bind_same (value_of_type (const_type_kind st.entries st.scope a.const_type) st.entries st.scope a.value.expr)
    (value_of_type (const_type_kind st.entries st.scope b.const_type) st.entries st.scope b.value.expr) _ _
    (of_type_same (const_type_kind st.entries st.scope a.const_type) (const_type_kind st.entries st.scope b.const_type)
    (const_kind_same st.entries st.scope a.const_type b.const_type cc) st.entries st.scope a.value.expr b.value.expr cc)
    (λ worth. declared_as_same (const_meant a worth) (const_meant b worth) (const_meant_same worth a b h) st
    a.identifier b.identifier k)

-- ---- members, definitions, operations and attributes

member_same : (st : State) (l m : Leaf) → leaf_shape l ≡ leaf_shape m → member_added st l ≡ member_added st m
member_same st l m h =
    bind_same (new_test st l) (new_test st m) _ _ (new_same st l m h)
    (λ u. ap₂ (λ w p. Ok (record st { members = st.members ++ record { scope = st.scope; name = w; at = p } ∷ [] }))
    (word_same l m h) (leaf_same l m h))

undefined_same : (st : State) (scope other : ℕ) → scope ≡ other → (l m : Leaf) → leaf_shape l ≡ leaf_shape m
    → undefined_test st scope l ≡ undefined_test st other m
undefined_same st scope other e l m h =
    ap₂ (λ s p. (if is_defined st s then Err (Collides p (scope_at st.entries s)) else Ok tt)) e (leaf_same l m h)

scope_same : (es : List Entry) (scope : ℕ) (l m : Leaf) → leaf_shape l ≡ leaf_shape m
    → scope_of es scope l ≡ scope_of es scope m
scope_same es scope l m h = ap (λ w. scope_number (named es scope w)) (word_same l m h)

defined_same : (st : State) (l m : Leaf) → leaf_shape l ≡ leaf_shape m → defined_here st l ≡ defined_here st m
defined_same st l m h =
    bind_same (undefined_test st st.scope l) (undefined_test st st.scope m) _ _
    (undefined_same st st.scope st.scope refl l m h) (λ u. refl)

free_of_same : (es : List Entry) (l m : Leaf) → leaf_shape l ≡ leaf_shape m → (x : Found)
    → free_of es l x ≡ free_of es m x
free_of_same es l m h Nothing = refl
free_of_same es l m h (One e) = ap (λ p. Err (Collides p (at_entry (slice_get es e)))) (leaf_same l m h)
free_of_same es l m h (Several a b) = ap (λ p. Err (Collides p (at_entry (slice_get es a)))) (leaf_same l m h)

feature_same : (kind : EntryKind) (st : State) (l m : Leaf) → leaf_shape l ≡ leaf_shape m
    → feature_declared kind st l ≡ feature_declared kind st m
feature_same kind st l m h =
    let features = features_of st.entries in
    bind_same (free_of st.entries l (inherited features l.number st.scope (word l)))
    (free_of st.entries m (inherited features m.number st.scope (word m))) _ _
    (free_of_same st.entries l m h (inherited features l.number st.scope (word l))
    ∙ ap₂ (λ n w. free_of st.entries m (inherited features n st.scope w)) (leaf_number l m h) (word_same l m h))
    (λ u. declared_same kind st l m h)

-- ---- bases and pragmas

base_same : (st : State) (inner other : ℕ) → inner ≡ other → (a b : ScopedName) → name_shape a ≡ name_shape b
    → base_added st inner a ≡ base_added st other b
base_same st inner other k a b h =
    bind_same (resolved st.entries st.scope a) (resolved st.entries st.scope b) _ _
    (resolved_same st.entries st.scope a b h)
    (λ e. ap₂ (λ s p. with_base_at st s (record { token = p.token; entry = e }) p) k (name_at a b h))

said_same : (st : State) (l m : Leaf) → leaf_shape l ≡ leaf_shape m → (x : Option Said)
    → said_read st l x ≡ said_read st m x
said_same st l m h None = refl
said_same st l m h (Some (SetsPrefix text)) = ap (prefix_set st st.scope text) (leaf_same l m h)
said_same st l m h (Some (Gives name given)) =
    ap (λ p. found_at st.entries p (identifiers_see st.entries p.token st.scope (begins_at_root name) (words name)) >>
    λ e.
    given_once st.given e given p (pragma_for st.given e) >> λ ps. Ok (record st { given = ps })) (leaf_same l m h)

pragma_same : (st : State) (l m : Leaf) → leaf_shape l ≡ leaf_shape m
    → said_read st l (said_by l) ≡ said_read st m (said_by m)
pragma_same st l m h = said_same st l m h (said_by l) ∙ ap (said_read st m) (kind_text said_by_kind l m h)

-- ---- steps

pub step_same : (st : State) (s t : Step) → step_shape s ≡ step_shape t → step_read st s ≡ step_read st t
step_same st (Declares kind l) (Declares other m) h =
    let k : kind ≡ other = cc in
    declared_same kind st l m (cc) ∙ ap (λ k. declared k st m) k
step_same st (DeclaresEnum l) (DeclaresEnum m) h = enum_same st l m cc
step_same st (DeclaresEnumerator l) (DeclaresEnumerator m) h = enumerator_same st l m cc
step_same st (DeclaresTypedef t d) (DeclaresTypedef u e) h = typedef_same st t u (cc) d e cc
step_same st (IsNew l) (IsNew m) h = ap (passed st) (new_same st l m cc)
step_same st (DeclaresConst c) (DeclaresConst d) h = const_same st c d cc
step_same st (DeclaresFeature kind l) (DeclaresFeature other m) h =
    let k : kind ≡ other = cc in
    feature_same kind st l m (cc) ∙ ap (λ k. feature_declared k st m) k
step_same st (HasMember l) (HasMember m) h = member_same st l m cc
step_same st (IsUndefined l) (IsUndefined m) h =
    ap (passed st) (undefined_same st (scope_of st.entries st.scope l) (scope_of st.entries st.scope m)
    (scope_same st.entries st.scope l m cc) l m cc)
step_same st (HasBase l n) (HasBase m o) h =
    base_same st (scope_of st.entries st.scope l) (scope_of st.entries st.scope m)
    (scope_same st.entries st.scope l m cc) n o cc
step_same st (Enters l) (Enters m) h = ap (λ s. Ok (record st { scope = s })) (scope_same st.entries st.scope l m cc)
step_same st (Defines l) (Defines m) h = defined_same st l m cc
step_same st Leaves Leaves h = refl
step_same st (NamesType n) (NamesType m) h = ap (passed st) (found_same is_type st.entries st.scope n m cc)
step_same st (NamesException n) (NamesException m) h =
    ap (passed st) (found_same is_exception st.entries st.scope n m cc)
step_same st (HasWorth a) (HasWorth b) h = ap (λ r. passed st (r >> λ c. Ok tt)) (value_same st.entries st.scope a b cc)
step_same st (IsSize a) (IsSize b) h = ap (λ r. passed st (r >> λ n. Ok tt)) (size_same st.entries st.scope a b cc)
step_same st (Says l) (Says m) h = pragma_same st l m cc
step_same st s t h = absurd cc

steps_same : (st : State) (a b : List Step) → map step_shape a ≡ map step_shape b → steps_read st a ≡ steps_read st b
steps_same st [] [] h = refl
steps_same st (s ∷ ss) (t ∷ ts) h =
    let k : map step_shape ss ≡ map step_shape ts = cc in
    bind_same (step_read st s) (step_read st t) _ _ (step_same st s t cc) (λ next. steps_same next ss ts k)
steps_same st a b h = absurd cc

-- ---- a whole specification

pub names_same : (a b : List Definition) → spec_shape a ≡ spec_shape b → names_of a ≡ names_of b
names_same a b h =
    ap (λ r. (r >> λ st. passed st (never_defined (left_open st 0 st.entries))) >> λ st. Ok (file_names st))
    (steps_same nothing_yet (steps_of a) (steps_of b) (steps_alike a b h).by)
