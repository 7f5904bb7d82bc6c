-- The token of the last base doesn't pass the steps that are read.
use Rattle.std.proofs.Common.{◌≡◌, ℕ, zero, suc, ◌<◌, ◌≤◌, List, [], ◌∷◌, ◌++◌, Option, Some, None, Ok, length, refl, subst, arith}
use Rattle.idl_lexer.specs.Identifiers.{words}
use Rattle.idl_tree.specs.declared.names.Leaf.{Leaf}
use Rattle.idl_tree.specs.declared.names.ScopedName.{ScopedName}
use Rattle.idl_tree.specs.Starts.{name_start, leaf_at as at}
use Rattle.name_table.specs.declared.entry.Base.{Base}
use Rattle.name_table.specs.declared.entry.Meaning.{Meaning}
use Rattle.name_table.specs.Entry.{Entry, around, named}
use Rattle.name_table.specs.Entries.{entry_declared, latest, plain, scope_of}
use Rattle.name_table.specs.Features.{features_of}
use Rattle.name_table.specs.Search.{begins_at_root, identifiers_see, inherited, word}
use Rattle.name_table.proofs.Latest.{latest_push, latest_with}
use Rattle.idl_tree.specs.declared.names.At.{At}
use Rattle.scoped_names.specs.Faults.{base_added, base_test, based, declared, declared_as, declares_over, entry_in, free_of, free_test, given_once, new_test, prefix_set, said_read, step_read, taken_by, test_of, type_kind, undefined_test, with_base_at, with_declared}
use Rattle.scoped_names.specs.IdPragmas.{Said, SetsPrefix, Gives, said_by}
use Rattle.scoped_names.specs.Meanings.{const_meant, enum_meant, enumerator_meant, typedef_meant}
use Rattle.scoped_names.specs.Reading.{State, StateOrFault, Test, passed, ◌>>◌}
use Rattle.scoped_names.specs.RepositoryIds.{pragma_for}
use Rattle.scoped_names.specs.inner.Rising.{Follows, reached}
use Rattle.name_steps.specs.Steps.{Step, Declares, DeclaresEnum, DeclaresEnumerator, DeclaresTypedef, IsNew, DeclaresConst, DeclaresFeature, HasMember, IsUndefined, HasBase, Enters, Defines, Leaves, NamesType, NamesException, HasWorth, IsSize, Says}
use Rattle.scoped_names.specs.Tests.{found_at, resolved, value_of_type}
use Rattle.scoped_names.specs.TypeKinds.{const_type_kind}
use Rattle.scoped_names.proofs.Introducing.{appears, passed_same, then_ok}

abbrev IsLow : State → State → Type 0
IsLow st next = latest next.entries ≤ latest st.entries

same_low : (st next : State) → st.entries ≡ next.entries → IsLow st next
same_low st next is = subst (λ es. latest es ≤ latest st.entries) is (omega arith)

passed_low : (st : State) (test : Test) (next : State) → passed st test ≡ Ok next → IsLow st next
passed_low st test next h = let is : st ≡ next = passed_same st test next h in subst (IsLow st) is (omega arith)

declares_low : (m : Meaning) (st : State) (l : Leaf) (o : Option Entry) (next : State)
    → declares_over m st l o ≡ Ok next → IsLow st next
declares_low m st l None next h =
    let is : with_declared m st l ≡ next = cc in
    let one = latest_push st.entries (entry_declared m st.prefix st.scope l) refl in
    subst (IsLow st) is (omega (arith, one))
declares_low m st l (Some e) next h = subst (IsLow st) (appears m.kind st next l e h).1 (omega arith)

declared_low : (m : Meaning) (st : State) (l : Leaf) (next : State) → declared_as m st l ≡ Ok next → IsLow st next
declared_low m st l next h =
    let o = entry_in st.entries (named st.entries st.scope (word l)) in
    let (u, test, rest) = then_ok (free_test l (taken_by st (word l))) (λ u. declares_over m st l o) next h in
    declares_low m st l o next rest

prefix_low : (st : State) (scope : ℕ) (text : List ℕ) (here : At) (next : State)
    → prefix_set st scope text here ≡ Ok next → IsLow st next
prefix_low st zero text here next h =
    let set : State = record st { prefix = text } in
    let is : set ≡ next = cc in
    subst (IsLow st) is (omega arith)
prefix_low st (suc e) text here next h = absurd cc

said_low : (st : State) (l : Leaf) (o : Option Said) (next : State) → said_read st l o ≡ Ok next → IsLow st next
said_low st l None next h = let is : st ≡ next = cc in subst (IsLow st) is (omega arith)
said_low st l (Some (SetsPrefix text)) next h = prefix_low st st.scope text (at l) next h
said_low st l (Some (Gives name given)) next h =
    let (e, finds, h1) = then_ok
    (found_at st.entries (at l) (identifiers_see st.entries l.number st.scope (begins_at_root name) (words name)))
    (λ e. given_once st.given e given (at l) (pragma_for st.given e) >> λ ps. let r : StateOrFault =
    Ok (record st { given = ps }) in r) next h in
    let (ps, gives, h2) = then_ok (given_once st.given e given (at l) (pragma_for st.given e))
    (λ ps. let r : StateOrFault = Ok (record st { given = ps }) in r) next h1 in
    let more : State = record st { given = ps } in
    let is : more ≡ next = cc in
    subst (IsLow st) is (omega arith)

enum_low : (st next : State) (l : Leaf) → step_read st (DeclaresEnum l) ≡ Ok next → IsLow st next
enum_low st next l h =
    let m = enum_meant (length st.entries) l in
    let (mid, declares, rest) =
    then_ok (declared_as m st l) (λ next. let r : StateOrFault =
    Ok (record next { enumeration = length st.entries }) in r) next h in
    let last : State = record mid { enumeration = length st.entries } in
    let is : last ≡ next = cc in
    subst (IsLow st) is (declared_low m st l mid declares)

base_low : (st next : State) (inner : ℕ) (name : ScopedName) → base_added st inner name ≡ Ok next
    → latest st.entries < (name_start name).number → latest next.entries ≤ (name_start name).number
base_low st next inner name h late =
    let (e, finds, rest) = then_ok (resolved st.entries st.scope name)
    (λ e. with_base_at st inner (record { token = (name_start name).number; entry = e }) (at (name_start name)))
    next h in
    let base : Base = record { token = (name_start name).number; entry = e } in
    let (u, test, based_is) =
    then_ok (base_test st inner base (at (name_start name)))
    (λ u. let r : StateOrFault = Ok (based st inner base) in r) next rest in
    let is : based st inner base ≡ next = cc in
    subst (λ s. latest s.entries ≤ (name_start name).number) is (latest_with st.entries inner base (omega arith))

step_of_test : (st next : State) (s : Step) → passed st (test_of st s) ≡ Ok next → IsLow st next
step_of_test st next s h = passed_low st (test_of st s) next h

pub step_low : (st next : State) (s : Step) → step_read st s ≡ Ok next → Follows (latest st.entries) s
    → latest next.entries ≤ reached (latest st.entries) s
step_low st next (Declares kind l) h f = let low = declared_low (plain l.number kind) st l next h in let late = f.0 in
    omega arith
step_low st next (DeclaresEnum l) h f = let low = enum_low st next l h in let late = f.0 in omega arith
step_low st next (DeclaresEnumerator l) h f =
    let low = declared_low (enumerator_meant st.enumeration (length st.entries) l) st l next h in
    let late = f.0 in omega arith
step_low st next (DeclaresTypedef t d) h f =
    let low = declared_low (typedef_meant (type_kind st t) d) st d.identifier next h in
    let late = f.0 in omega arith
step_low st next (IsNew l) h f = let low = passed_low st (new_test st l) next h in let late = f.0 in omega arith
step_low st next (DeclaresConst c) h f =
    let (worth, is, rest) = then_ok
    (value_of_type (const_type_kind st.entries st.scope c.const_type) st.entries st.scope c.value.expr)
    (λ worth. declared_as (const_meant c worth) st c.identifier) next h in
    let low = declared_low (const_meant c worth) st c.identifier next rest in
    let late = f.0 in omega arith
step_low st next (DeclaresFeature kind l) h f =
    let (u, free, rest) = then_ok (free_of st.entries l (inherited (features_of st.entries) l.number st.scope (word l)))
    (λ u. declared kind st l) next h in
    let low = declared_low (plain l.number kind) st l next rest in
    let late = f.0 in omega arith
step_low st next (HasMember l) h f =
    let more : State = record st { members = st.members ++ record { scope = st.scope; name = word l; at = at l } ∷ [] }
    in
    let (u, test, rest) = then_ok (new_test st l) (λ u. let r : StateOrFault = Ok more in r) next h in
    let is : more ≡ next = cc in
    let low : IsLow st next = subst (IsLow st) is (omega arith) in
    let late = f.0 in omega arith
step_low st next (IsUndefined l) h f =
    let low = passed_low st (undefined_test st (scope_of st.entries st.scope l) l) next h in
    let late = f.0 in omega arith
step_low st next (HasBase l name) h f = base_low st next (scope_of st.entries st.scope l) name h f.0
step_low st next (Enters l) h f =
    let more : State = record st { scope = scope_of st.entries st.scope l } in
    let is : more ≡ next = cc in
    subst (IsLow st) is (omega arith)
step_low st next (Defines l) h f =
    let more : State = record st { defined = st.defined ++ st.scope ∷ [] } in
    let (u, test, rest) = then_ok (undefined_test st st.scope l) (λ u. let r : StateOrFault = Ok more in r) next h in
    let is : more ≡ next = cc in
    subst (IsLow st) is (omega arith)
step_low st next Leaves h f =
    let more : State = record st { scope = around st.entries st.scope } in
    let is : more ≡ next = cc in
    subst (IsLow st) is (omega arith)
step_low st next (NamesType name) h f = let low = step_of_test st next (NamesType name) h in let late = f.0 in
    omega arith
step_low st next (NamesException name) h f = let low = step_of_test st next (NamesException name) h in let late = f.0 in
    omega arith
step_low st next (HasWorth e) h f = let low = step_of_test st next (HasWorth e) h in let late = f.0 in omega arith
step_low st next (IsSize e) h f = let low = step_of_test st next (IsSize e) h in let late = f.0 in omega arith
step_low st next (Says l) h f = let low = said_low st l (said_by l) next h in let late = f.0 in omega arith
