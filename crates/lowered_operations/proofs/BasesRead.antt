-- The bases of interfaces are entries: reading names adds no others.
use Rattle.std.proofs.Common.{◌≡◌, ◌∙◌, ◌⊎◌, inl, inr, ℕ, zero, suc, ◌<◌, ◌≤◌, Bool, true, false, not, ◌&&◌, nat_eq, List, [], ◌∷◌, ◌++◌, length, length-append, All, Option, Some, None, Result, Ok, Err, refl, sym, ap, subst, arith}
use Rattle.std.specs.Prelude.{if◌then◌else◌, slice_get, slice_set}
use Rattle.std.specs.List.{list_any}
use Rattle.std.specs.Str.{bytes_eq}
use Rattle.std.proofs.lemmas.Bool.{and_parts}
use Rattle.std.proofs.lemmas.List.{length-set}
use Rattle.std.proofs.lemmas.List.Elements.{All-nil, All-push, All-weaker}
use Rattle.std.proofs.lemmas.Option.{slice_get_within}
use Rattle.idl_lexer.specs.Identifiers.{words}
use Rattle.idl_tree.specs.declared.names.Leaf.{Leaf}
use Rattle.idl_tree.specs.declared.names.ScopedName.{ScopedName}
use Rattle.idl_tree.specs.declared.definitions.Definition.{Definition}
use Rattle.idl_tree.specs.Starts.{name_start, leaf_at as at}
use Rattle.name_table.specs.declared.entry.Base.{Base}
use Rattle.name_table.specs.declared.entry.Meaning.{Meaning}
use Rattle.name_table.specs.Entry.{Entry, around, bases_in, bases_of, named}
use Rattle.name_table.specs.Entries.{entry_with_base, plain as plain_meant, scope_of, with_base}
use Rattle.name_table.specs.Features.{differ, features_of}
use Rattle.name_table.specs.Search.{begins_at_root, identifiers_see, inherited, word}
use Rattle.idl_tree.specs.declared.names.At.{At}
use Rattle.scoped_names.specs.declared.fault.Unfit.TheVariants.{FeatureTwice, NamedTwice, NotDefined}
use Rattle.scoped_names.specs.declared.fault.NameFault.{NameFault}
use Rattle.scoped_names.specs.declared.fault.NameFault.TheVariants.{BadBase, Collides, PrefixDiffers}
use Rattle.scoped_names.specs.Faults.{base_added, base_test, based, declared as declared_plain, declared_as, declares_over, entry_in, free_of, free_test, given_once, is_defined, is_defined_interface, is_interface, keeps_prefix, left_open, may_reappear, never_defined, new_test, nothing_yet, prefix_set, said_read, specification_read, step_read, steps_read, taken_by, test_of, type_kind, undefined_test, with_base_at, with_declared}
use Rattle.scoped_names.specs.IdPragmas.{Said, SetsPrefix, Gives, said_by}
use Rattle.scoped_names.specs.Meanings.{const_meant, enum_meant, enumerator_meant, typedef_meant}
use Rattle.scoped_names.specs.Reading.{State, StateOrFault, Test, ◌>>◌, passed}
use Rattle.scoped_names.specs.RepositoryIds.{pragma_for}
use Rattle.name_steps.specs.Steps.{Step, Declares, DeclaresEnum, DeclaresEnumerator, DeclaresTypedef, DeclaresConst, DeclaresFeature, HasMember, HasBase, Enters, Defines, Leaves, Says, steps_of}
use Rattle.scoped_names.specs.Tests.{at_entry, found_at, is_of, resolved, value_of_type}
use Rattle.scoped_names.specs.TypeKinds.{const_type_kind}
use Rattle.scoped_names.specs.FileNames.{AreNames, FileNames, file_names}
use Rattle.scoped_names.proofs.Introducing.{passed_same, then_ok}
use Rattle.lowered_types.proofs.Naming.{of_kind}
use Rattle.lowered_types.proofs.Spots.{push_cases, set_cases}
use Rattle.lowered_operations.proofs.InterfacesKeep.{AreBased}

-- the bases of each entry are among so many
abbrev AreIn : ℕ → List Entry → Type 0
AreIn count es = (k : ℕ) (x : Entry) → slice_get es k ≡ Some x → All (λ b. b.entry < count) x.bases

abbrev IsBased : State → Type 0
IsBased st = AreIn (length st.entries) st.entries

wider : (m n : ℕ) (bs : List Base) → m ≤ n → All (λ b. b.entry < m) bs → All (λ b. b.entry < n) bs
wider m n bs le h = All-weaker (λ (b : Base). b.entry < m) (λ (b : Base). b.entry < n) (λ b lt. omega (arith, lt, le))
    bs h

push_based : (es : List Entry) (e : Entry) → e.bases ≡ [] → AreIn (length es) es
    → AreIn (length (es ++ e ∷ [])) (es ++ e ∷ [])
push_based es e none h k x is = by (push_cases es e k x is)
  where
    by : (slice_get es k ≡ Some x) ⊎ ((k ≡ length es) × (e ≡ x)) → All (λ b. b.entry < length (es ++ e ∷ [])) x.bases
    by (inl old) = let long = length-append es (e ∷ []) in
        wider (length es) (length (es ++ e ∷ [])) x.bases (omega (arith, long)) (h k x old)
    by (inr (at_end, same)) =
        let bare : x.bases ≡ [] = sym (ap (λ y. y.bases) same) ∙ none in
        subst (All (λ b. b.entry < length (es ++ e ∷ []))) (sym bare) (All-nil (λ b. b.entry < length (es ++ e ∷ [])))

base_based : (es : List Entry) (inner : ℕ) (base : Base) → base.entry < length es → AreIn (length es) es
    → AreIn (length (with_base es inner base)) (with_base es inner base)
base_based es zero base lt h = h
base_based es (suc e) base lt h = by (slice_get es e) refl
  where
    by : (o : Option Entry) → slice_get es e ≡ o
        → AreIn (length (entry_with_base es e base o)) (entry_with_base es e base o)
    by None is = h
    by (Some y) is = λ k x there.
        let more : Entry = record y { bases = y.bases ++ base ∷ [] } in
        let long = length-set es e more in
        wider (length es) (length (slice_set es e more)) x.bases (omega (arith, long))
        (each k x (set_cases es e y more k x is there))
      where
        each : (k : ℕ) (x : Entry) → ((k ≡ e) × ((record y { bases = y.bases ++ base ∷ [] }) ≡ x))
            ⊎ ((k ≡ e → ⊥) × (slice_get es k ≡ Some x)) → All (λ b. b.entry < length es) x.bases
        each k x (inl (here, same)) =
            subst (λ z. All (λ b. b.entry < length es) z.bases) same
            (All-push (λ b. b.entry < length es) y.bases base (h e y is) lt)
        each k x (inr (differs, there)) = h k x there

-- ---- steps

-- a declaration changes nothing, or adds an entry
pub declared_either : (m : Meaning) (st next : State) (l : Leaf) → declared_as m st l ≡ Ok next → (st ≡ next)
    ⊎ (with_declared m st l ≡ next)
declared_either m st next l h =
    let (u, test, rest) = then_ok (free_test l (taken_by st (word l)))
    (λ u. declares_over m st l (entry_in st.entries (named st.entries st.scope (word l)))) next h in
    by (entry_in st.entries (named st.entries st.scope (word l))) rest
  where
    again : (e : Entry) (a b : Bool)
        → (let r : StateOrFault = if not a then Err (Collides (at l) (at_entry (Some e))) else if b then
        Err (PrefixDiffers (at l) (at_entry (Some e))) else Ok st in r) ≡ Ok next → st ≡ next
    again e true true is = absurd cc
    again e true false is = cc
    again e false b is = absurd cc

    by : (o : Option Entry) → declares_over m st l o ≡ Ok next → (st ≡ next) ⊎ (with_declared m st l ≡ next)
    by None is = inr cc
    by (Some e) is = inl (again e (may_reappear m.kind e.kind && bytes_eq (word l) e.name)
        (keeps_prefix m.kind && not (bytes_eq st.prefix e.prefix)) is)

declared_based : (m : Meaning) (st next : State) (l : Leaf) → declared_as m st l ≡ Ok next → IsBased st → IsBased next
declared_based m st next l h i = by (declared_either m st next l h)
  where
    by : (st ≡ next) ⊎ (with_declared m st l ≡ next) → IsBased next
    by (inl same) = subst IsBased same i
    by (inr added) = subst IsBased added (push_based st.entries _ refl i)

added_based : (st next : State) (inner : ℕ) (name : ScopedName) → base_added st inner name ≡ Ok next → IsBased st
    → IsBased next
added_based st next inner name h i =
    let (e, finds, rest) = then_ok (resolved st.entries st.scope name)
    (λ e. with_base_at st inner (record { token = (name_start name).number; entry = e }) (at (name_start name)))
    next h in
    let base : Base = record { token = (name_start name).number; entry = e } in
    let here = at (name_start name) in
    let (u, test, last) = then_ok (base_test st inner base here)
    (λ u. let r : StateOrFault = Ok (based st inner base) in r) next rest in
    let defined = passes (is_defined_interface st e) (list_any (λ b. nat_eq b.entry e) (bases_of st.entries inner))
    (differ (features_of st.entries) inner base) here u test in
    let (x, there, kind) = of_kind is_interface (slice_get st.entries e)
    (and_parts (is_of is_interface (slice_get st.entries e)) (is_defined st (suc e)) defined).0 in
    let same : based st inner base ≡ next = cc in
    subst IsBased same (base_based st.entries inner base (slice_get_within st.entries e x there) i)
  where
    passes : (a b c : Bool) (here : At) (u : Unit {0})
        → (let t : Test = if not a then Err (BadBase here NotDefined) else if b then Err (BadBase here NamedTwice)
        else if c then Err (BadBase here FeatureTwice) else Ok tt in t) ≡ Ok u → a ≡ true
    passes true b c here u is = refl
    passes false b c here u is = absurd cc

said_based : (st next : State) (l : Leaf) (o : Option Said) → said_read st l o ≡ Ok next → IsBased st → IsBased next
said_based st next l None h i = let same : st ≡ next = cc in subst IsBased same i
said_based st next l (Some (SetsPrefix text)) h i = by st.scope h
  where
    by : (scope : ℕ) → prefix_set st scope text (at l) ≡ Ok next → IsBased next
    by zero is = let set : State = record st { prefix = text } in let same : set ≡ next = cc in subst IsBased same i
    by (suc e) is = absurd cc
said_based st next l (Some (Gives name given)) h i =
    let (e, finds, h1) = then_ok
    (found_at st.entries (at l) (identifiers_see st.entries l.number st.scope (begins_at_root name) (words name)))
    (λ e. given_once st.given e given (at l) (pragma_for st.given e) >> λ ps. let r : StateOrFault =
    Ok (record st { given = ps }) in r) next h in
    let (ps, gives, h2) = then_ok (given_once st.given e given (at l) (pragma_for st.given e))
    (λ ps. let r : StateOrFault = Ok (record st { given = ps }) in r) next h1 in
    let more : State = record st { given = ps } in
    let same : more ≡ next = cc in
    subst IsBased same i

step_based : (st next : State) (s : Step) → step_read st s ≡ Ok next → IsBased st → IsBased next
step_based st next (Declares kind l) h i = declared_based (plain_meant l.number kind) st next l h i
step_based st next (DeclaresEnum l) h i =
    let m = enum_meant (length st.entries) l in
    let (mid, declares, rest) =
    then_ok (declared_as m st l) (λ next. let r : StateOrFault =
    Ok (record next { enumeration = length st.entries }) in r) next h in
    let last : State = record mid { enumeration = length st.entries } in
    let same : last ≡ next = cc in
    subst IsBased same (declared_based m st mid l declares i)
step_based st next (DeclaresEnumerator l) h i =
    declared_based (enumerator_meant st.enumeration (length st.entries) l) st next l h i
step_based st next (DeclaresTypedef t d) h i =
    declared_based (typedef_meant (type_kind st t) d) st next d.identifier h i
step_based st next (DeclaresConst c) h i =
    let (worth, is, rest) = then_ok
    (value_of_type (const_type_kind st.entries st.scope c.const_type) st.entries st.scope c.value.expr)
    (λ worth. declared_as (const_meant c worth) st c.identifier) next h in
    declared_based (const_meant c worth) st next c.identifier rest i
step_based st next (DeclaresFeature kind l) h i =
    let (u, free, rest) = then_ok (free_of st.entries l (inherited (features_of st.entries) l.number st.scope (word l)))
    (λ u. declared_plain kind st l) next h in
    declared_based (plain_meant l.number kind) st next l rest i
step_based st next (HasMember l) h i =
    let more : State = record st { members = st.members ++ record { scope = st.scope; name = word l; at = at l } ∷ [] }
    in
    let (u, test, rest) = then_ok (new_test st l) (λ u. let r : StateOrFault = Ok more in r) next h in
    let same : more ≡ next = cc in
    subst IsBased same i
step_based st next (HasBase l name) h i = added_based st next (scope_of st.entries st.scope l) name h i
step_based st next (Enters l) h i = let inside : State = record st { scope = scope_of st.entries st.scope l } in
    let same : inside ≡ next = cc in subst IsBased same i
step_based st next (Defines l) h i =
    let more : State = record st { defined = st.defined ++ st.scope ∷ [] } in
    let (u, test, rest) = then_ok (undefined_test st st.scope l) (λ u. let r : StateOrFault = Ok more in r) next h in
    let same : more ≡ next = cc in
    subst IsBased same i
step_based st next Leaves h i = let outside : State = record st { scope = around st.entries st.scope } in
    let same : outside ≡ next = cc in subst IsBased same i
step_based st next (Says l) h i = said_based st next l (said_by l) h i
step_based st next s h i = let same = passed_same st (test_of st s) next h in subst IsBased same i

steps_based : (st next : State) (steps : List Step) → steps_read st steps ≡ Ok next → IsBased st → IsBased next
steps_based st next [] h i = let same : st ≡ next = cc in subst IsBased same i
steps_based st next (s ∷ steps) h i =
    let (mid, first, rest) = then_ok (step_read st s) (λ x. steps_read x steps) next h in
    steps_based mid next steps rest (step_based st mid s first i)

-- ---- a whole specification

-- what reading gives at its end
pub names_read : (definitions : List Definition) (names : FileNames) → AreNames definitions names
    → (st : State) × (steps_read nothing_yet (steps_of definitions) ≡ Ok st)
    × (never_defined (left_open st 0 st.entries) ≡ Ok tt) × (st.entries ≡ names.entries)
names_read definitions names h =
    let (read, reads, is) = then_ok (specification_read definitions)
    (λ st. let r : Result FileNames NameFault = Ok (file_names st) in r) names h in
    let (st, steps, rest) = then_ok (steps_read nothing_yet (steps_of definitions))
    (λ st. passed st (never_defined (left_open st 0 st.entries))) read reads in
    let (u, test, last) = then_ok (never_defined (left_open st 0 st.entries)) (λ u. let r : StateOrFault = Ok st in r)
    read rest in
    let same = passed_same st (never_defined (left_open st 0 st.entries)) read rest in
    let whole_is : file_names st ≡ names = ap file_names same ∙ cc in
    (st, steps, test, ap (λ w. w.entries) whole_is)

pub bases_are_entries : (definitions : List Definition) (names : FileNames) → AreNames definitions names
    → AreBased names.entries
bases_are_entries definitions names h =
    let (st, steps, test, is) = names_read definitions names h in
    let all = steps_based nothing_yet st (steps_of definitions) steps (λ k x none. absurd cc) in
    subst AreBased is (λ e. by st.entries (slice_get st.entries e) (λ x there. all e x there))
  where
    by : (es : List Entry) (o : Option Entry) → ((x : Entry) → o ≡ Some x → All (λ b. b.entry < length es) x.bases)
        → All (λ b. b.entry < length es) (bases_in o)
    by es None h = All-nil (λ b. b.entry < length es)
    by es (Some x) h = h x refl
