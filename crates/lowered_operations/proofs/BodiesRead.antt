-- What reading a specification's names takes for defined has its body among what the specification introduces.
use Rattle.std.proofs.Common.{◌≡◌, ◌∙◌, ◌⊎◌, inl, inr, ℕ, zero, suc, ◌+◌, Bool, true, false, not, ◌&&◌, nat_eq, List, [], ◌∷◌, ◌++◌, length, Option, Some, None, Ok, refl, sym, ap, subst, arith}
use Rattle.std.specs.Prelude.{◌||◌, if◌then◌else◌, slice_get}
use Rattle.std.specs.List.{AllByRecursion, list_any}
use Rattle.std.proofs.lemmas.Bool.{eqb-true}
use Rattle.std.proofs.lemmas.List.Folds.{list_any-append}
use Rattle.idl_lexer.specs.Identifiers.{words}
use Rattle.idl_tree.specs.declared.names.Leaf.{Leaf}
use Rattle.idl_tree.specs.declared.names.ScopedName.{ScopedName}
use Rattle.idl_tree.specs.Starts.{name_start, leaf_at as at}
use Rattle.idl_tree.specs.declared.definitions.Definition.{Definition}
use Rattle.idl_tree.specs.Pieces.{Piece}
use Rattle.name_table.specs.declared.entry.Base.{Base}
use Rattle.idl_tree.specs.declared.kinds.EntryKind.{EntryKind}
use Rattle.name_table.specs.declared.entry.Meaning.{Meaning}
use Rattle.name_table.specs.Entry.{Entry, around, named}
use Rattle.name_table.specs.Entries.{plain as plain_meant, scope_number, scope_of}
use Rattle.name_table.specs.Features.{features_of}
use Rattle.name_table.specs.Search.{begins_at_root, identifiers_see, inherited, word}
use Rattle.scoped_names.specs.Faults.{base_added, base_test, based, with_base_at, declared as declared_plain, declared_as, free_of, given_once, has_body, is_defined, is_left_open, left_open, never_defined, new_test, nothing_yet, prefix_set, said_read, step_read, steps_read, test_of, type_kind, undefined_test, with_declared}
use Rattle.scoped_names.specs.IdPragmas.{Said, SetsPrefix, Gives, said_by}
use Rattle.scoped_names.specs.Introductions.{Introduction, introduced_by, scope_behind}
use Rattle.scoped_names.specs.Meanings.{const_meant, enum_meant, enumerator_meant, typedef_meant}
use Rattle.scoped_names.specs.Reading.{State, StateOrFault, Test, ◌>>◌}
use Rattle.scoped_names.specs.RepositoryIds.{pragma_for}
use Rattle.name_steps.specs.Steps.{Step, Declares, DeclaresEnum, DeclaresEnumerator, DeclaresTypedef, IsNew, DeclaresConst, DeclaresFeature, HasMember, IsUndefined, HasBase, Enters, Defines, Leaves, Says, steps_of}
use Rattle.scoped_names.specs.Tests.{at_entry, found_at, resolved, value_of_type}
use Rattle.scoped_names.specs.TypeKinds.{const_type_kind}
use Rattle.scoped_names.specs.FileNames.{AreNames, FileNames}
use Rattle.name_steps.proofs.Asks.{Asks, all_ask, none as unasked, silent, joined as both_asked, plain, base, valued, declared, featured, undefined, inside, defines}
use Rattle.scoped_names.proofs.Introduced.{HasLeaf, IsFlat, around_named, flat_behind, plain_flat, read_append}
use Rattle.scoped_names.proofs.Introducing.{Keeps, all_map, base_does, declared_does, defined_does, keeps_on, member_does, passed_same, then_ok}
use Rattle.scoped_names.proofs.Parts.{scope_past}
use Rattle.lowered_types.proofs.Settled.{IsDone, behind, behind_split, done_stays, onto}
use Rattle.lowered_types.proofs.Naming.{of_kind}
use Rattle.lowered_operations.proofs.BasesRead.{declared_either, names_read}
use Rattle.lowered_operations.proofs.SoundFile.{AllDone}

-- ---- one step that enters and leaves no scope

-- it keeps the names of scopes, and what is defined behind it was before or is introduced by it
record Moves (st : State) (s : Step) (next : State) : Type 0 where
  scope : next.scope ≡ st.scope
  names : Keeps st.entries next.entries
  bodies : (k : ℕ) → is_defined next k ≡ true → (is_defined st k ≡ true) ⊎ IsDone (introduced_by st.scope s) k

still : (st : State) (s : Step) → Moves st s st
still st s = record { scope = refl; names = λ scope name n is. is; bodies = λ k d. inl d }

declares_moves : (m : Meaning) (st next : State) (l : Leaf) (s : Step) → declared_as m st l ≡ Ok next → Moves st s next
declares_moves m st next l s h =
    let does = declared_does m st next l h in
    record {
      scope = does.scope;
      names = does.adds.grows.names;
      bodies =
          λ k d. inl (by (declared_either m st next l h) k d);
    }
  where
    by : (st ≡ next) ⊎ (with_declared m st l ≡ next) → (k : ℕ) → is_defined next k ≡ true → is_defined st k ≡ true
    by (inl same) k d = subst (λ x. is_defined x k ≡ true) (sym same) d
    by (inr added) k d = let there : is_defined (with_declared m st l) k ≡ true =
        subst (λ x. is_defined x k ≡ true) (sym added) d in there

-- only what isn't looked at changes
moves_to : (st mid next : State) (s : Step) → mid ≡ next → Moves st s mid → Moves st s next
moves_to st mid next s same h = subst (Moves st s) same h

said_moves : (st next : State) (l : Leaf) (o : Option Said) → said_read st l o ≡ Ok next → Moves st (Says l) next
said_moves st next l None h = let same : st ≡ next = cc in moves_to st st next (Says l) same (still st (Says l))
said_moves st next l (Some (SetsPrefix text)) h = by st.scope h
  where
    by : (scope : ℕ) → prefix_set st scope text (at l) ≡ Ok next → Moves st (Says l) next
    by zero is =
        let set : State = record st { prefix = text } in
        let same : set ≡ next = cc in
        moves_to st set next (Says l) same
        (record { scope = refl; names = λ scope name n is. is; bodies = λ k d. inl d })
    by (suc e) is = absurd cc
said_moves st next l (Some (Gives name given)) h =
    let (e, finds, h1) = then_ok
    (found_at st.entries (at l) (identifiers_see st.entries l.number st.scope (begins_at_root name) (words name)))
    (λ e. given_once st.given e given (at l) (pragma_for st.given e) >> λ ps. let r : StateOrFault =
    Ok (record st { given = ps }) in r) next h in
    let (ps, gives, h2) = then_ok (given_once st.given e given (at l) (pragma_for st.given e))
    (λ ps. let r : StateOrFault = Ok (record st { given = ps }) in r) next h1 in
    let more : State = record st { given = ps } in
    let same : more ≡ next = cc in
    moves_to st more next (Says l) same (record { scope = refl; names = λ scope name n is. is; bodies = λ k d. inl d })

defines_moves : (st next : State) (l : Leaf) → step_read st (Defines l) ≡ Ok next → Moves st (Defines l) next
defines_moves st next l h =
    let does = defined_does st next l h in
    let more : State = record st { defined = st.defined ++ st.scope ∷ [] } in
    let (u, test, rest) = then_ok (undefined_test st st.scope l) (λ u. let r : StateOrFault = Ok more in r) next h in
    let same : more ≡ next = cc in
    record {
      scope = does.scope;
      names = does.adds.grows.names;
      bodies =
          λ k d. by k (subst (λ x. is_defined x k ≡ true) (sym same) d);
    }
  where
    by : (k : ℕ) → list_any (λ s. nat_eq k s) (st.defined ++ st.scope ∷ []) ≡ true → (is_defined st k ≡ true)
        ⊎ IsDone (introduced_by st.scope (Defines l)) k
    by k d = one (is_defined st k) (nat_eq k st.scope) refl refl
        (sym (list_any-append (λ s. nat_eq k s) st.defined (st.scope ∷ [])) ∙ d)
      where
        one : (a b : Bool) → is_defined st k ≡ a → nat_eq k st.scope ≡ b → (a || (b || false)) ≡ true
            → (is_defined st k ≡ true) ⊎ IsDone (introduced_by st.scope (Defines l)) k
        one true b before is h = inl before
        one false true before is h = inr (inl (eqb-true k st.scope is))
        one false false before is h = absurd cc

-- a base more defines nothing
based_defined : (st next : State) (inner : ℕ) (name : ScopedName) → base_added st inner name ≡ Ok next → (k : ℕ)
    → is_defined next k ≡ true → is_defined st k ≡ true
based_defined st next inner name h k d =
    let (e, finds, rest) = then_ok (resolved st.entries st.scope name)
    (λ e. with_base_at st inner (record { token = (name_start name).number; entry = e }) (at (name_start name)))
    next h in
    let base : Base = record { token = (name_start name).number; entry = e } in
    let (u, test, last) = then_ok (base_test st inner base (at (name_start name)))
    (λ u. let r : StateOrFault = Ok (based st inner base) in r) next rest in
    let same : based st inner base ≡ next = cc in
    let there : is_defined (based st inner base) k ≡ true = subst (λ x. is_defined x k ≡ true) (sym same) d in
    there

flat_moves : (st next : State) (s : Step) → IsFlat s → step_read st s ≡ Ok next → Moves st s next
flat_moves st next (Declares kind l) flat h = declares_moves (plain_meant l.number kind) st next l (Declares kind l) h
flat_moves st next (DeclaresEnum l) flat h =
    let m = enum_meant (length st.entries) l in
    let (mid, declares, rest) =
    then_ok (declared_as m st l) (λ next. let r : StateOrFault =
    Ok (record next { enumeration = length st.entries }) in r) next h in
    let last : State = record mid { enumeration = length st.entries } in
    let one = declares_moves m st mid l (DeclaresEnum l) declares in
    let same : last ≡ next = cc in
    moves_to st last next (DeclaresEnum l) same (record { scope = one.scope; names = one.names; bodies = one.bodies })
flat_moves st next (DeclaresEnumerator l) flat h =
    declares_moves (enumerator_meant st.enumeration (length st.entries) l) st next l (DeclaresEnumerator l) h
flat_moves st next (DeclaresTypedef t d) flat h =
    declares_moves (typedef_meant (type_kind st t) d) st next d.identifier (DeclaresTypedef t d) h
flat_moves st next (DeclaresConst c) flat h =
    let (worth, is, rest) = then_ok
    (value_of_type (const_type_kind st.entries st.scope c.const_type) st.entries st.scope c.value.expr)
    (λ worth. declared_as (const_meant c worth) st c.identifier) next h in
    declares_moves (const_meant c worth) st next c.identifier (DeclaresConst c) rest
flat_moves st next (DeclaresFeature kind l) flat h =
    let (u, free, rest) = then_ok (free_of st.entries l (inherited (features_of st.entries) l.number st.scope (word l)))
    (λ u. declared_plain kind st l) next h in
    declares_moves (plain_meant l.number kind) st next l (DeclaresFeature kind l) rest
flat_moves st next (HasMember l) flat h =
    let does = member_does st next l h in
    let more : State = record st { members = st.members ++ record { scope = st.scope; name = word l; at = at l } ∷ [] }
    in
    let (u, test, rest) = then_ok (new_test st l) (λ u. let r : StateOrFault = Ok more in r) next h in
    let same : more ≡ next = cc in
    moves_to st more next (HasMember l) same
    (record { scope = refl; names = λ scope name n is. is; bodies = λ k d. inl d })
flat_moves st next (HasBase l name) flat h =
    let does = base_does st next (scope_of st.entries st.scope l) name h in
    record {
      scope = does.scope;
      names = does.adds.grows.names;
      bodies =
          λ k d. inl (based_defined st next (scope_of st.entries st.scope l) name h k d);
    }
flat_moves st next (Enters l) flat h = absurd flat
flat_moves st next (Defines l) flat h = defines_moves st next l h
flat_moves st next Leaves flat h = absurd flat
flat_moves st next (Says l) flat h = said_moves st next l (said_by l) h
flat_moves st next s flat h = moves_to st st next s (passed_same st (test_of st s) next h) (still st s)

-- ---- steps that leave what they enter

-- what is defined behind them was before, or its body is introduced
record Walked (es : List Entry) (st : State) (xs : List Step) (next : State) : Type 0 where
  scope : next.scope ≡ st.scope
  names : Keeps st.entries next.entries
  past : scope_past es st.scope xs ≡ st.scope
  bodies : (k : ℕ) → is_defined next k ≡ true → (is_defined st k ≡ true)
      ⊎ ((g : List Introduction) → IsDone (behind es g st.scope xs) k)

record Bodied (ls : List Leaf) (xs : List Step) : Type 0 where
  go : (es : List Entry) (st next : State) → steps_read st xs ≡ Ok next → Keeps next.entries es
      → AllByRecursion (HasLeaf st) ls → Walked es st xs next

past_split : (es : List Entry) (scope : ℕ) (xs ys : List Step)
    → scope_past es scope (xs ++ ys) ≡ scope_past es (scope_past es scope xs) ys
past_split es scope [] ys = refl
past_split es scope (x ∷ xs) ys = past_split es (scope_behind es scope x) xs ys

both_walked : (es : List Entry) (st mid next : State) (xs ys : List Step) → Walked es st xs mid → Walked es mid ys next
    → Walked es st (xs ++ ys) next
both_walked es st mid next xs ys a b = record {
  scope = b.scope ∙ a.scope;
  names = keeps_on st.entries mid.entries next.entries a.names b.names;
  past = past_split es st.scope xs ys ∙ ap (λ k. scope_past es k ys) (a.past ∙ sym a.scope) ∙ b.past ∙ a.scope;
  bodies = λ k d. by k (b.bodies k d);
}
  where
    whole : (g : List Introduction) → behind es g st.scope (xs ++ ys) ≡ behind es (behind es g st.scope xs) mid.scope ys
    whole g = behind_split es g st.scope xs ys
        ∙ ap (λ k. behind es (behind es g st.scope xs) k ys) (a.past ∙ sym a.scope)

    first : (k : ℕ) → (is_defined st k ≡ true) ⊎ ((g : List Introduction) → IsDone (behind es g st.scope xs) k)
        → (is_defined st k ≡ true) ⊎ ((g : List Introduction) → IsDone (behind es g st.scope (xs ++ ys)) k)
    first k (inl before) = inl before
    first k (inr done) = inr
        (λ g. subst (λ h. IsDone h k) (sym (whole g)) (done_stays es (behind es g st.scope xs) mid.scope ys k (done g)))

    by : (k : ℕ) → (is_defined mid k ≡ true) ⊎ ((g : List Introduction) → IsDone (behind es g mid.scope ys) k)
        → (is_defined st k ≡ true) ⊎ ((g : List Introduction) → IsDone (behind es g st.scope (xs ++ ys)) k)
    by k (inl before) = first k (a.bodies k before)
    by k (inr done) = inr (λ g. subst (λ h. IsDone h k) (sym (whole g)) (done (behind es g st.scope xs)))

done_onto : (xs g : List Introduction) (k : ℕ) → IsDone xs k ⊎ IsDone g k → IsDone (onto xs g) k
done_onto [] g k (inl none) = absurd none
done_onto [] g k (inr done) = done
done_onto (x ∷ xs) g k (inl (inl here)) = done_onto xs (x ∷ g) k (inr (inl here))
done_onto (x ∷ xs) g k (inl (inr rest)) = done_onto xs (x ∷ g) k (inl rest)
done_onto (x ∷ xs) g k (inr done) = done_onto xs (x ∷ g) k (inr (inr done))

one_walked : (es : List Entry) (st next : State) (s : Step) → IsFlat s → step_read st s ≡ Ok next
    → Walked es st (s ∷ []) next
one_walked es st next s flat h =
    let moves = flat_moves st next s flat h in
    record {
      scope = moves.scope;
      names = moves.names;
      past = flat_behind es st.scope s flat;
      bodies =
          λ k d. by k (moves.bodies k d);
    }
  where
    by : (k : ℕ) → (is_defined st k ≡ true) ⊎ IsDone (introduced_by st.scope s) k → (is_defined st k ≡ true)
        ⊎ ((g : List Introduction) → IsDone (onto (introduced_by st.scope s) g) k)
    by k (inl before) = inl before
    by k (inr done) = inr (λ g. done_onto (introduced_by st.scope s) g k (inl done))

still_there : (st mid : State) → Keeps st.entries mid.entries → mid.scope ≡ st.scope → (l : Leaf) → HasLeaf st l
    → HasLeaf mid l
still_there st mid names scope l (n, is) =
    (n, ap (λ k. named mid.entries k (word l)) scope ∙ names st.scope (word l) n is)

none : {ls : List Leaf} → Bodied ls []
none = record {
  go = λ es st next h later there.
      let same : st ≡ next = cc in
      subst (Walked es st []) same
      (record { scope = refl; names = λ scope name n is. is; past = refl; bodies = λ k d. inl d });
}

step_names : (st next : State) (s : Step) → step_read st s ≡ Ok next → Keeps st.entries next.entries
step_names st next (Enters l) h =
    let inside : State = record st { scope = scope_of st.entries st.scope l } in
    let same : inside ≡ next = cc in
    subst (λ x. Keeps st.entries x.entries) same (λ scope name n is. is)
step_names st next Leaves h =
    let outside : State = record st { scope = around st.entries st.scope } in
    let same : outside ≡ next = cc in
    subst (λ x. Keeps st.entries x.entries) same (λ scope name n is. is)
step_names st next s h = let moves = flat_moves st next s tt h in moves.names

-- names are kept by all that is read
names_kept : (st next : State) (xs : List Step) → steps_read st xs ≡ Ok next → Keeps st.entries next.entries
names_kept st next [] h = let same : st ≡ next = cc in
    subst (λ x. Keeps st.entries x.entries) same (λ scope name n is. is)
names_kept st next (s ∷ xs) h =
    let (mid, first, rest) = then_ok (step_read st s) (λ x. steps_read x xs) next h in
    keeps_on st.entries mid.entries next.entries (step_names st mid s first) (names_kept mid next xs rest)

joined : {ls : List Leaf} {xs ys : List Step} → Bodied ls xs → Bodied ls ys → Bodied ls (xs ++ ys)
joined {ls} {xs} {ys} a b = record {
  go = λ es st next h later there.
      let (mid, before, behind_it) = read_append st next xs ys h in
      let from_mid = keeps_on mid.entries next.entries es (names_kept mid next ys behind_it) later in
      let first = a.go es st mid before from_mid there in
      let still = all_map (HasLeaf st) (HasLeaf mid) (still_there st mid first.names first.scope) ls there in
      both_walked es st mid next xs ys first (b.go es mid next behind_it later still);
}

one : {ls : List Leaf} (s : Step) → IsFlat s → Bodied ls (s ∷ [])
one s flat = record {
  go = λ es st next h later there.
      let (mid, first, rest) = then_ok (step_read st s) (λ x. steps_read x []) next h in
      let same : mid ≡ next = cc in
      subst (Walked es st (s ∷ [])) same (one_walked es st mid s flat first);
}

-- steps behind a declaration
declaring : {ls : List Leaf} {ys : List Step} (s : Step) (l : Leaf) → IsFlat s
    → ((st next : State) → step_read st s ≡ Ok next → HasLeaf next l) → Bodied (l ∷ ls) ys → Bodied ls (s ∷ ys)
declaring {ls} {ys} s l flat has b = record {
  go = λ es st next h later there.
      let (mid, first, rest) = then_ok (step_read st s) (λ x. steps_read x ys) next h in
      let walked = one_walked es st mid s flat first in
      let still = all_map (HasLeaf st) (HasLeaf mid) (still_there st mid walked.names walked.scope) ls there in
      both_walked es st mid next (s ∷ []) ys walked (b.go es mid next rest later (has st mid first, still));
}

within : {ls : List Leaf} {ys : List Step} (l : Leaf) → Bodied [] ys → Bodied (l ∷ ls) (Enters l ∷ (ys ++ Leaves ∷ []))
within {ls} {ys} l b = record {
  go = λ es st next h later there.
      let inner = scope_of st.entries st.scope l in
      let entered : State = record st { scope = inner } in
      let (last, before, behind_it) = read_append entered next ys (Leaves ∷ []) h in
      let left : State = record last { scope = around last.entries last.scope } in
      let is : left ≡ next = cc in
      let from_last = subst (λ s. Keeps s.entries es) (sym is) later in
      let body = b.go es entered last before from_last tt in
      let (n, first) = there.0 in
      let in_last = body.names st.scope (word l) n first in
      let in_whole = from_last st.scope (word l) n in_last in
      let inner_is : inner ≡ suc n = ap scope_number first in
      let inner_of : scope_of es st.scope l ≡ inner = ap scope_number in_whole ∙ sym inner_is in
      let outer : around es inner ≡ st.scope = ap (around es) inner_is ∙ around_named es st.scope (word l) n in_whole in
      let past : scope_past es (scope_of es st.scope l) (ys ++ Leaves ∷ []) ≡ st.scope =
      ap (λ k. scope_past es k (ys ++ Leaves ∷ [])) inner_of ∙ past_split es inner ys (Leaves ∷ [])
      ∙ ap (around es) body.past ∙ outer in
      let same_behind : (g : List Introduction) → behind es g st.scope (Enters l ∷ (ys ++ Leaves ∷ []))
      ≡ behind es g inner ys =
      λ g. ap (λ k. behind es g k (ys ++ Leaves ∷ [])) inner_of ∙ behind_split es g inner ys (Leaves ∷ []) in
      subst (Walked es st (Enters l ∷ (ys ++ Leaves ∷ []))) is (record {
        scope = ap (around last.entries) (body.scope ∙ inner_is)
            ∙ around_named last.entries st.scope (word l) n in_last;
        names = body.names;
        past = past;
        bodies = λ k d. by es st inner ys (Enters l ∷ (ys ++ Leaves ∷ [])) k same_behind (body.bodies k d);
      });
}
  where
    by : (es : List Entry) (st : State) (inner : ℕ) (ys zs : List Step) (k : ℕ)
        → ((g : List Introduction) → behind es g st.scope zs ≡ behind es g inner ys)
        → (is_defined st k ≡ true) ⊎ ((g : List Introduction) → IsDone (behind es g inner ys) k)
        → (is_defined st k ≡ true) ⊎ ((g : List Introduction) → IsDone (behind es g st.scope zs) k)
    by es st inner ys zs k same (inl before) = inl before
    by es st inner ys zs k same (inr done) = inr (λ g. subst (λ h. IsDone h k) (sym (same g)) (done g))

declared_there : (kind : EntryKind) (l : Leaf) (st next : State) → declared_plain kind st l ≡ Ok next → HasLeaf next l
declared_there kind l st next h =
    let does = declared_does (plain_meant l.number kind) st next l h in
    let (j, e, is, here, kind_is, name_is) = does.adds.holds.0 in
    (j, ap (λ k. named next.entries k (word l)) does.scope ∙ is)

featured_there : (kind : EntryKind) (l : Leaf) (st next : State) → step_read st (DeclaresFeature kind l) ≡ Ok next
    → HasLeaf next l
featured_there kind l st next h =
    let (u, free, rest) = then_ok (free_of st.entries l (inherited (features_of st.entries) l.number st.scope (word l)))
    (λ u. declared_plain kind st l) next h in
    declared_there kind l st next rest

bodied : {ls : List Leaf} {ps : List Piece} {xs : List Step} → Asks ls ps xs → Bodied ls xs
bodied unasked = none
bodied (silent p is) = none
bodied (both_asked a b) = joined (bodied a) (bodied b)
bodied (plain s is) = one s (plain_flat s is)
bodied (base text id name) = one (HasBase id name) tt
bodied (valued c a) = joined (bodied a) (joined (one (IsNew c.identifier) tt) (one (DeclaresConst c) tt))
bodied (declared kind id a) = declaring (Declares kind id) id tt (declared_there kind id) (bodied a)
bodied (featured kind id a) = declaring (DeclaresFeature kind id) id tt (featured_there kind id) (bodied a)
bodied (undefined kind id a) =
    declaring (Declares kind id) id tt (declared_there kind id) (joined (one (IsUndefined id) tt) (bodied a))
bodied (inside id a) = within id (bodied a)
bodied (defines id a) = joined (one (Defines id) tt) (bodied a)

-- ---- a whole specification

-- none of the entries is left open
none_left : (st : State) (place : ℕ) (es : List Entry) → never_defined (left_open st place es) ≡ Ok tt
    → (k : ℕ) (e : Entry) → slice_get es k ≡ Some e → has_body e.kind ≡ true
    → is_defined st (suc (place + k)) ≡ true
none_left st place [] h k e is body = absurd cc
none_left st place (x ∷ es) h k e is body =
    by k (is_left_open st place x) refl h is (λ j there rest. none_left st (suc place) es rest j e there body)
  where
    here : (a b : Bool) → (a && not b) ≡ false → a ≡ true → b ≡ true
    here true true h is = refl
    here true false h is = absurd cc
    here false b h is = absurd cc

    by : (k : ℕ) (b : Bool) → is_left_open st place x ≡ b
        → (let t : Test = never_defined (if b then at_entry (Some x) else left_open st (suc place) es) in t) ≡ Ok tt
        → slice_get (x ∷ es) k ≡ Some e
        → ((j : ℕ) → slice_get es j ≡ Some e → never_defined (left_open st (suc place) es) ≡ Ok tt
        → is_defined st (suc (suc place + j)) ≡ true)
        → is_defined st (suc (place + k)) ≡ true
    by k true is_open h there rest = absurd cc
    by zero false is_open h there rest =
        let same : x ≡ e = cc in
        let first : place + 0 ≡ place = omega arith in
        ap (λ n. is_defined st (suc n)) first
        ∙ here (has_body x.kind) (is_defined st (suc place)) is_open (ap (λ y. has_body y.kind) same ∙ body)
    by (suc k) false is_open h there rest =
        let next : place + suc k ≡ suc place + k = omega arith in
        ap (λ n. is_defined st (suc n)) next ∙ rest k there h

pub all_done : (definitions : List Definition) (names : FileNames) → AreNames definitions names
    → AllDone names.entries (behind names.entries [] 0 (steps_of definitions))
all_done definitions names h =
    let (st, steps, test, is) = names_read definitions names h in
    let walk = bodied (all_ask definitions) in
    let walked = walk.go names.entries nothing_yet st steps
    (λ scope name n there. ap (λ es. named es scope name) (sym is) ∙ there) tt in
    λ e body.
    let (x, there, kind) = of_kind has_body (slice_get names.entries e) body in
    let at_e : slice_get st.entries e ≡ Some x = ap (λ es. slice_get es e) is ∙ there in
    let same : suc (0 + e) ≡ suc e = omega arith in
    by e walked (ap (is_defined st) (sym same) ∙ none_left st 0 st.entries test e x at_e kind)
  where
    by : {st : State} (e : ℕ) → Walked names.entries nothing_yet (steps_of definitions) st
        → is_defined st (suc e) ≡ true → IsDone (behind names.entries [] 0 (steps_of definitions)) (suc e)
    by e walked d = of (walked.bodies (suc e) d)
      where
        of : (is_defined nothing_yet (suc e) ≡ true)
            ⊎ ((g : List Introduction) → IsDone (behind names.entries g 0 (steps_of definitions)) (suc e))
            → IsDone (behind names.entries [] 0 (steps_of definitions)) (suc e)
        of (inl before) = absurd cc
        of (inr done) = done []
