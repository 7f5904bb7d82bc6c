-- The scope of each entry of a file is the file's, or that of an earlier entry.
use Rattle.std.proofs.Common.{◌≡◌, ◌∙◌, ◌≤◌, ℕ, zero, suc, List, [], ◌∷◌, length, slice_get, Option, Some, None, Result, Ok, refl, ap, subst, arith}
use Rattle.std.proofs.lemmas.Option.{slice_get_within}
use Rattle.idl_tree.specs.declared.definitions.Definition.{Definition}
use Rattle.name_table.specs.Entry.{AreNested, Entry, around, named, scope_in}
use Rattle.name_table.specs.Entries.{plain, scope_number, scope_of}
use Rattle.name_table.specs.Search.{word}
use Rattle.scoped_names.specs.declared.fault.NameFault.{NameFault}
use Rattle.scoped_names.specs.Faults.{left_open, never_defined, nothing_yet, specification_read, step_read, steps_read, test_of, type_kind}
use Rattle.scoped_names.specs.Meanings.{const_end, enumerator_meant, typedef_meant}
use Rattle.scoped_names.specs.Reading.{State, passed}
use Rattle.name_steps.specs.Steps.{Step, Declares, DeclaresConst, DeclaresFeature, DeclaresEnum, DeclaresEnumerator, DeclaresTypedef, HasBase, HasMember, Enters, Leaves, Defines, Says, steps_of}
use Rattle.scoped_names.specs.FileNames.{AreNames, FileNames, file_names}
use Rattle.scoped_names.proofs.Going.{Goes, base_goes, const_goes, declared_goes, defined_goes, enum_goes, feature_goes, goes_same, member_goes, said_goes}
use Rattle.scoped_names.proofs.Introduced.{IsFlat}
use Rattle.scoped_names.proofs.Introducing.{named_entry, passed_same, then_ok}
use Rattle.scoped_names.proofs.Searches.{IsScope}

abbrev GoesOn : State → State → Type 0
GoesOn st next = (n : ℕ) × Goes n st next

flat_goes : (st next : State) (s : Step) → IsFlat s → step_read st s ≡ Ok next → GoesOn st next
flat_goes st next (Declares kind l) flat h = (0, declared_goes 0 (plain l.number kind) st next l h (omega arith))
flat_goes st next (DeclaresEnum l) flat h = (0, enum_goes 0 st next l h (omega arith))
flat_goes st next (DeclaresEnumerator l) flat h =
    (0, declared_goes 0 (enumerator_meant st.enumeration (length st.entries) l) st next l h (omega arith))
flat_goes st next (DeclaresTypedef t d) flat h =
    (0, declared_goes 0 (typedef_meant (type_kind st t) d) st next d.identifier h (omega arith))
flat_goes st next (DeclaresConst c) flat h = (const_end c, const_goes st next c h)
flat_goes st next (DeclaresFeature kind l) flat h = (0, feature_goes 0 kind st next l h (omega arith))
flat_goes st next (HasMember l) flat h = (0, member_goes 0 st next l h)
flat_goes st next (HasBase l name) flat h = (_, base_goes st next (scope_of st.entries st.scope l) name h)
flat_goes st next (Enters l) flat h = absurd flat
flat_goes st next (Defines l) flat h = (0, defined_goes 0 st next l h)
flat_goes st next Leaves flat h = absurd flat
flat_goes st next (Says l) flat h = (0, said_goes 0 st next l h)
flat_goes st next s flat h = (0, goes_same 0 st next (passed_same st (test_of st s) next h))

entered_low : (es : List Entry) (o : Option ℕ) (scope : ℕ) (name : List ℕ) → named es scope name ≡ o
    → scope_number o ≤ length es
entered_low es None scope name h = omega arith
entered_low es (Some n) scope name h =
    let (e, here, in_scope) = named_entry es scope name n h in
    let lt = slice_get_within es n e here in
    omega arith

left_low : (es : List Entry) (scope : ℕ) → IsScope es scope → around es scope ≤ length es
left_low es zero is = omega arith
left_low es (suc e) is = by (slice_get es e) refl
  where
    by : (o : Option Entry) → slice_get es e ≡ o → scope_in o ≤ length es
    by None h = omega arith
    by (Some x) h = let low = is.nested e x h in let lt = is.low in omega arith

step_nested : (st next : State) (s : Step) → step_read st s ≡ Ok next → IsScope st.entries st.scope
    → IsScope next.entries next.scope
step_nested st next (Enters l) h is =
    let entered : State = record st { scope = scope_of st.entries st.scope l } in
    let same : entered ≡ next = cc in
    subst (λ s. IsScope s.entries s.scope) same (record {
      nested = is.nested;
      low = entered_low st.entries (named st.entries st.scope (word l)) st.scope (word l) refl;
    })
step_nested st next Leaves h is =
    let outside : State = record st { scope = around st.entries st.scope } in
    let same : outside ≡ next = cc in
    subst (λ s. IsScope s.entries s.scope) same (record { nested = is.nested; low = left_low st.entries st.scope is })
step_nested st next s h is =
    let (n, goes) = flat_goes st next s tt h in
    let longer = goes.later.longer in
    let low = is.low in
    let scope = goes.scope in
    record { nested = goes.nested is; low = omega arith }

steps_nested : (st next : State) (steps : List Step) → steps_read st steps ≡ Ok next → IsScope st.entries st.scope
    → AreNested next.entries
steps_nested st next [] h is = let same : st ≡ next = cc in subst (λ s. AreNested s.entries) same is.nested
steps_nested st next (s ∷ steps) h is =
    let (mid, first, rest) = then_ok (step_read st s) (λ x. steps_read x steps) next h in
    steps_nested mid next steps rest (step_nested st mid s first is)

pub entries_nested : (definitions : List Definition) (names : FileNames) → AreNames definitions names
    → AreNested names.entries
entries_nested definitions names h =
    let (read, reads, is) = then_ok (specification_read definitions)
    (λ st. let r : Result FileNames NameFault = Ok (file_names st) in r) names h in
    let (st, steps, rest) = then_ok (steps_read nothing_yet (steps_of definitions))
    (λ st. passed st (never_defined (left_open st 0 st.entries))) read reads in
    let same = passed_same st (never_defined (left_open st 0 st.entries)) read rest in
    let whole_is : file_names st ≡ names = ap file_names same ∙ cc in
    subst (λ w. AreNested w.entries) whole_is
    (steps_nested nothing_yet st (steps_of definitions) steps (record { nested = λ k e none. cc; low = omega arith }))
