-- The faults of a specification's names (ISO/IEC 19500-1, names and scoping, and pragma directives for repository ids):
-- each step, where `st` is what is known before it, gives what is known behind it, or its fault.
use Rattle.std.specs.Prelude.{ℕ, zero, suc, Bool, true, false, not, ◌&&◌, if◌then◌else◌, nat_eq, List, [], ◌∷◌, ◌++◌, Option, Some, None, Result, Ok, Err, length, slice_get}
use Rattle.std.specs.Str.{bytes_eq, str_eq_ignore_ascii_case}
use Rattle.std.specs.List.{list_any}
use Rattle.std.specs.Option.{option_or}
use Rattle.idl_lexer.specs.Identifiers.{words}
use Rattle.idl_tree.specs.declared.names.Leaf.{Leaf}
use Rattle.idl_tree.specs.declared.names.ScopedName.{ScopedName}
use Rattle.idl_tree.specs.declared.types.Declarator.{Declarator}
use Rattle.idl_tree.specs.declared.types.TypeSpec.{TypeSpec, Simple, Struct as StructSpec, Union as UnionSpec, Enum as EnumSpec}
use Rattle.idl_tree.specs.declared.definitions.Const.{Const}
use Rattle.idl_tree.specs.declared.definitions.Definition.{Definition}
use Rattle.idl_tree.specs.Starts.{name_start, leaf_at as at}
use Rattle.name_table.specs.declared.const_values.kind.ConstKind.{ConstKind}
use Rattle.name_table.specs.declared.const_values.kind.ConstKind.TheVariants as Kinds
use Rattle.idl_tree.specs.declared.kinds.EntryKind.{EntryKind}
use Rattle.idl_tree.specs.declared.kinds.EntryKind.TheVariants as Entries
use Rattle.name_table.specs.declared.entry.Base.{Base}
use Rattle.name_table.specs.declared.entry.Meaning.{Meaning}
use Rattle.idl_tree.specs.declared.names.At.{At}
use Rattle.scoped_names.specs.declared.fault.Unfit.TheVariants.{NotDefined, NamedTwice, FeatureTwice}
use Rattle.scoped_names.specs.declared.fault.NameFault.{NameFault}
use Rattle.scoped_names.specs.declared.fault.NameFault.TheVariants.{Unknown, Collides, IdTwice, BadBase, PrefixInScope, PrefixDiffers}
use Rattle.name_table.specs.declared.search.Found.{Found}
use Rattle.name_table.specs.declared.search.Found.TheVariants.{Nothing, One, Several}
use Rattle.name_table.specs.Entry.{Entry, around, bases_of, named}
use Rattle.name_table.specs.Search.{begins_at_root, identifiers_see, inherited, word}
use Rattle.name_table.specs.Features.{differ, features_of}
use Rattle.scoped_names.specs.TypeKinds.{const_type_kind, simple_type_kind}
use Rattle.name_table.specs.Entries.{entry_declared, plain, scope_of, with_base}
use Rattle.name_table.specs.OwnNames.{is_own_name}
use Rattle.scoped_names.specs.Meanings.{const_meant, enum_meant, enumerator_meant, typedef_meant}
use Rattle.scoped_names.specs.RepositoryIds.{GivenId, IdPragma, pragma_for}
use Rattle.scoped_names.specs.IdPragmas.{Said, SetsPrefix, Gives, is_same_given, said_by}
use Rattle.scoped_names.specs.Reading.{Member as Field, State, StateOrFault, Test, ◌>>◌, passed}
use Rattle.name_steps.specs.Steps.{Step, Declares, DeclaresEnum, DeclaresEnumerator, DeclaresTypedef, IsNew, DeclaresConst, DeclaresFeature, HasMember, IsUndefined, HasBase, Enters, Defines, Leaves, NamesType, NamesException, HasWorth, IsSize, Says, steps_of}
use Rattle.scoped_names.specs.Tests.{at_entry, found_at, is_of, raised_test, resolved, size_read, type_name_test, value_of_type, value_read}

-- ---- names that are taken

-- where what has the scope is declared first
abbrev pub scope_at : List Entry → ℕ → Option At
scope_at es zero = None
scope_at es (suc e) = at_entry (slice_get es e)

-- the scope's own name isn't declared directly inside it
abbrev pub own_at : List Entry → ℕ → List ℕ → Option At
own_at es scope name = (if is_own_name es scope name then scope_at es scope else None)

abbrev pub member_named : List Field → ℕ → List ℕ → Option At
member_named [] scope name = None
member_named (m ∷ ms) scope name =
    (if nat_eq scope m.scope && str_eq_ignore_ascii_case name m.name then Some m.at else member_named ms scope name)

-- the scope itself has the name, or a member or a parameter of it
abbrev pub taken_by : State → List ℕ → Option At
taken_by st name = option_or (own_at st.entries st.scope name) (member_named st.members st.scope name)

abbrev pub free_test : Leaf → Option At → Test
free_test l None = Ok tt
free_test l (Some other) = Err (Collides (at l) (Some other))

abbrev pub entry_at : List Entry → Option ℕ → Option At
entry_at es None = None
entry_at es (Some e) = at_entry (slice_get es e)

-- an identifier that is nothing in the scope yet
abbrev pub new_test : State → Leaf → Test
new_test st l =
    free_test l (option_or (taken_by st (word l)) (entry_at st.entries (named st.entries st.scope (word l))))

-- ---- what is declared again

-- what a name was declared as it may be declared as once more
abbrev pub may_reappear : EntryKind → EntryKind → Bool
may_reappear Entries.Module Entries.Module = true
may_reappear Entries.Interface Entries.Interface = true
may_reappear Entries.Struct Entries.Struct = true
may_reappear Entries.Union Entries.Union = true
may_reappear _ _ = false

-- a module may be opened again where another prefix is set
abbrev pub keeps_prefix : EntryKind → Bool
keeps_prefix Entries.Module = false
keeps_prefix _ = true

-- the same kind, the same spelling, and, but for a module, the same prefix
abbrev pub reappears : EntryKind → State → Leaf → Entry → StateOrFault
reappears kind st l e =
    (if not (may_reappear kind e.kind && bytes_eq (word l) e.name) then Err (Collides (at l) (at_entry (Some e)))
    else if keeps_prefix kind && not (bytes_eq st.prefix e.prefix) then Err (PrefixDiffers (at l) (at_entry (Some e)))
    else Ok st)

-- ---- declarations

abbrev pub with_declared : Meaning → State → Leaf → State
with_declared m st l = record st { entries = st.entries ++ entry_declared m st.prefix st.scope l ∷ [] }

abbrev pub declares_over : Meaning → State → Leaf → Option Entry → StateOrFault
declares_over m st l None = Ok (with_declared m st l)
declares_over m st l (Some e) = reappears m.kind st l e

abbrev pub entry_in : List Entry → Option ℕ → Option Entry
entry_in es None = None
entry_in es (Some e) = slice_get es e

-- an identifier that is declared in the scope as what is meant
abbrev pub declared_as : Meaning → State → Leaf → StateOrFault
declared_as m st l = free_test l (taken_by st (word l)) >> λ u.
    declares_over m st l (entry_in st.entries (named st.entries st.scope (word l)))

abbrev pub declared : EntryKind → State → Leaf → StateOrFault
declared kind st l = declared_as (plain l.number kind) st l

-- an enumeration, whose enumerators follow
abbrev pub enum_declared : State → Leaf → StateOrFault
enum_declared st l = declared_as (enum_meant (length st.entries) l) st l >> λ next.
    Ok (record next { enumeration = length st.entries })

abbrev pub enumerator_declared : State → Leaf → StateOrFault
enumerator_declared st l = declared_as (enumerator_meant st.enumeration (length st.entries) l) st l

-- the type of constants that a type is in the end that was read
abbrev pub type_kind : State → TypeSpec → Option ConstKind
type_kind st (Simple t) = simple_type_kind st.entries st.scope t
type_kind st (StructSpec s) = None
type_kind st (UnionSpec u) = None
type_kind st (EnumSpec e) = Some (Kinds.Enum st.enumeration)

abbrev pub typedef_declared : State → TypeSpec → Declarator → StateOrFault
typedef_declared st t d = declared_as (typedef_meant (type_kind st t) d) st d.identifier

abbrev pub const_declared : State → Const → StateOrFault
const_declared st c =
    value_of_type (const_type_kind st.entries st.scope c.const_type) st.entries st.scope c.value.expr >> λ worth.
    declared_as (const_meant c worth) st c.identifier

-- ---- members and definitions

abbrev pub member_added : State → Leaf → StateOrFault
member_added st l = new_test st l >> λ u. Ok (record st {
  members = st.members ++ record { scope = st.scope; name = word l; at = at l } ∷ [];
})

abbrev pub is_defined : State → ℕ → Bool
is_defined st scope = list_any (λ s. nat_eq scope s) st.defined

-- a scope that has no definition yet
abbrev pub undefined_test : State → ℕ → Leaf → Test
undefined_test st scope l = (if is_defined st scope then Err (Collides (at l) (scope_at st.entries scope)) else Ok tt)

abbrev pub defined_here : State → Leaf → StateOrFault
defined_here st l = undefined_test st st.scope l >> λ u. Ok (record st { defined = st.defined ++ st.scope ∷ [] })

-- ---- operations and attributes

abbrev pub free_of : List Entry → Leaf → Found → Test
free_of es l Nothing = Ok tt
free_of es l (One e) = Err (Collides (at l) (at_entry (slice_get es e)))
free_of es l (Several a b) = Err (Collides (at l) (at_entry (slice_get es a)))

-- an operation or attribute, whose name isn't that of one that the interface inherits
abbrev pub feature_declared : EntryKind → State → Leaf → StateOrFault
feature_declared kind st l =
    free_of st.entries l (inherited (features_of st.entries) l.number st.scope (word l)) >> λ u. declared kind st l

-- ---- bases

abbrev pub is_interface : EntryKind → Bool
is_interface Entries.Interface = true
is_interface _ = false

abbrev pub is_defined_interface : State → ℕ → Bool
is_defined_interface st e = is_of is_interface (slice_get st.entries e) && is_defined st (suc e)

-- a base is an interface that is defined, stands once in the list, and has no other operation or attribute of a name of
-- those before
abbrev pub base_test : State → ℕ → Base → At → Test
base_test st inner base here =
    (if not (is_defined_interface st base.entry) then Err (BadBase here NotDefined)
    else if list_any (λ b. nat_eq b.entry base.entry) (bases_of st.entries inner) then Err (BadBase here NamedTwice)
    else if differ (features_of st.entries) inner base then Err (BadBase here FeatureTwice)
    else Ok tt)

abbrev pub based : State → ℕ → Base → State
based st inner base = record st { entries = with_base st.entries inner base }

-- one base more, where it may be one
abbrev pub with_base_at : State → ℕ → Base → At → StateOrFault
with_base_at st inner base here = base_test st inner base here >> λ u. Ok (based st inner base)

-- a base of the interface that has the scope `inner`
abbrev pub base_added : State → ℕ → ScopedName → StateOrFault
base_added st inner name = resolved st.entries st.scope name >> λ e.
    with_base_at st inner (record { token = (name_start name).number; entry = e }) (at (name_start name))

-- ---- pragmas for repository ids

-- what is given already may be given again
abbrev pub again_test : GivenId → At → GivenId → At → Test
again_test first there given here = (if is_same_given first given then Ok tt else Err (IdTwice here there))

-- what is given to an entry once
abbrev pub given_once : List IdPragma → ℕ → GivenId → At → Option IdPragma → Result (List IdPragma) NameFault
given_once ps entry given here None = Ok (ps ++ record { entry = entry; given = given; at = here } ∷ [])
given_once ps entry given here (Some first) = again_test first.given first.at given here >> λ u. Ok ps

-- prefixes are set in the file's scope alone
abbrev pub prefix_set : State → ℕ → List ℕ → At → StateOrFault
prefix_set st zero text here = Ok (record st { prefix = text })
prefix_set st (suc e) text here = Err (PrefixInScope here)

abbrev pub said_read : State → Leaf → Option Said → StateOrFault
said_read st l None = Ok st
said_read st l (Some (SetsPrefix text)) = prefix_set st st.scope text (at l)
said_read st l (Some (Gives name given)) =
    found_at st.entries (at l) (identifiers_see st.entries l.number st.scope (begins_at_root name) (words name)) >> λ e.
    given_once st.given e given (at l) (pragma_for st.given e) >> λ ps. Ok (record st { given = ps })

-- ---- steps

-- what a step asks of what is known, where it changes nothing
abbrev pub test_of : State → Step → Test
test_of st (IsNew l) = new_test st l
test_of st (IsUndefined l) = undefined_test st (scope_of st.entries st.scope l) l
test_of st (NamesType name) = type_name_test st.entries st.scope name
test_of st (NamesException name) = raised_test st.entries st.scope name
test_of st (HasWorth e) = value_read st.entries st.scope e >> λ c. Ok tt
test_of st (IsSize e) = size_read st.entries st.scope e >> λ n. Ok tt
test_of st _ = Ok tt

abbrev pub step_read : State → Step → StateOrFault
step_read st (Declares kind l) = declared kind st l
step_read st (DeclaresEnum l) = enum_declared st l
step_read st (DeclaresEnumerator l) = enumerator_declared st l
step_read st (DeclaresTypedef t d) = typedef_declared st t d
step_read st (DeclaresConst c) = const_declared st c
step_read st (DeclaresFeature kind l) = feature_declared kind st l
step_read st (HasMember l) = member_added st l
step_read st (HasBase l name) = base_added st (scope_of st.entries st.scope l) name
step_read st (Enters l) = Ok (record st { scope = scope_of st.entries st.scope l })
step_read st (Defines l) = defined_here st l
step_read st Leaves = Ok (record st { scope = around st.entries st.scope })
step_read st (Says l) = said_read st l (said_by l)
step_read st test = passed st (test_of st test)

abbrev pub steps_read : State → List Step → StateOrFault
steps_read st [] = Ok st
steps_read st (s ∷ ss) = step_read st s >> λ next. steps_read next ss

-- ---- a whole specification

abbrev pub has_body : EntryKind → Bool
has_body Entries.Struct = true
has_body Entries.Union = true
has_body _ = false

-- a structure or union that was declared ahead and isn't defined
abbrev pub is_left_open : State → ℕ → Entry → Bool
is_left_open st place e = has_body e.kind && not (is_defined st (suc place))

abbrev pub never_defined : Option At → Test
never_defined None = Ok tt
never_defined (Some here) = Err (Unknown here)

-- the first among the entries that begin at a place
abbrev pub left_open : State → ℕ → List Entry → Option At
left_open st place [] = None
left_open st place (e ∷ es) =
    (if is_left_open st place e then at_entry (Some e) else left_open st (suc place) es)

abbrev pub nothing_yet : State
nothing_yet = record {
  entries = [];
  members = [];
  defined = [];
  prefix = [];
  given = [];
  scope = 0;
  enumeration = 0;
}

-- what was declared ahead and never defined comes last
abbrev pub specification_read : List Definition → StateOrFault
specification_read definitions = steps_read nothing_yet (steps_of definitions) >> λ st.
    passed st (never_defined (left_open st 0 st.entries))
