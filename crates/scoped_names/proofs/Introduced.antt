-- What reading the steps of a specification introduces is what the specification says.
use Rattle.std.proofs.Common.{◌<◌, inl, inr, arith, ◌≡◌, ◌∙◌, ℕ, zero, suc, List, [], ◌∷◌, ◌++◌, length, Option, Some, None, Result, Ok, append-nil, append_assoc, refl, sym, ap, subst}
use Rattle.std.specs.List.{AllByRecursion, Any, IsDistinct}
use Rattle.idl_lexer.specs.Identifiers.{words}
use Rattle.idl_tree.specs.declared.names.Leaf.{Leaf}
use Rattle.idl_tree.specs.declared.definitions.Definition.{Definition}
use Rattle.idl_tree.specs.Pieces.{Piece}
use Rattle.idl_tree.specs.declared.kinds.EntryKind.{EntryKind}
use Rattle.idl_tree.specs.declared.kinds.EntryKind.TheVariants as Kinds
use Rattle.idl_tree.specs.declared.names.At.{At}
use Rattle.scoped_names.specs.declared.fault.NameFault.{NameFault}
use Rattle.name_table.specs.Entry.{Entry, around, named, scope_in}
use Rattle.name_table.specs.Entries.{plain as plain_meant, scope_number, scope_of}
use Rattle.name_table.specs.Search.{begins_at_root, identifiers_see, inherited, word}
use Rattle.name_table.specs.Features.{features_of}
use Rattle.scoped_names.specs.Faults.{declared as declared_plain, declared_as, free_of, given_once, left_open, never_defined, nothing_yet, prefix_set, said_read, specification_read, step_read, steps_read, test_of, type_kind}
use Rattle.scoped_names.specs.IdPragmas.{Said, SetsPrefix, Gives, said_by}
use Rattle.scoped_names.specs.Introductions.{Introduction, Stands, Has, Body, IsEntry, StandsFor, clashes, introduced, introduced_by, scope_behind}
use Rattle.scoped_names.specs.Meanings.{const_meant, enum_meant, enumerator_meant, typedef_meant}
use Rattle.scoped_names.specs.Reading.{State, StateOrFault, ◌>>◌, passed}
use Rattle.scoped_names.specs.RepositoryIds.{pragma_for}
use Rattle.name_steps.specs.Steps.{Step, Declares, DeclaresEnum, DeclaresEnumerator, DeclaresTypedef, IsNew, DeclaresConst, DeclaresFeature, HasMember, IsUndefined, HasBase, Enters, Defines, Leaves, Says, steps_of}
use Rattle.idl_tree.specs.Starts.{leaf_at as at}
use Rattle.scoped_names.specs.Tests.{found_at, value_of_type}
use Rattle.scoped_names.specs.TypeKinds.{const_type_kind}
use Rattle.scoped_names.specs.FileNames.{AreNames, FileNames, file_names}
use Rattle.name_steps.proofs.Asks.{Asks, IsPlain, all_ask, none as unasked, silent, joined as both_asked, plain, base, valued, declared, featured, undefined, inside, defines}
use Rattle.scoped_names.proofs.Introducing.{Adds, Does, Grows, Holds, IsKnown, Keeps, Known, adds_both, adds_none, all_map, base_does, declared_does, defined_does, does_none, grows_none, grows_on, keeps_on, known, member_does, named_entry, passed_same, then_ok}

-- ---- pragmas

prefix_does : (st next : State) (scope : ℕ) (text : List ℕ) (here : At) → prefix_set st scope text here ≡ Ok next
    → Does st [] next
prefix_does st next zero text here h =
    let set : State = record st { prefix = text } in
    let is : set ≡ next = cc in
    subst (Does st []) is (record { adds = adds_none (known st); scope = refl })
prefix_does st next (suc e) text here h = absurd cc

said_does : (st next : State) (l : Leaf) (o : Option Said) → said_read st l o ≡ Ok next → Does st [] next
said_does st next l None h = does_none st next cc
said_does st next l (Some (SetsPrefix text)) h = prefix_does st next st.scope text (at l) h
said_does st next l (Some (Gives name given)) h =
    let (e, finds, h1) = then_ok
    (found_at st.entries (at l) (identifiers_see st.entries l.number st.scope (begins_at_root name) (words name)))
    (λ e. given_once st.given e given (at l) (pragma_for st.given e) >> λ ps. let r : StateOrFault =
    Ok (record st { given = ps }) in r) next h in
    let (ps, gives, h2) = then_ok (given_once st.given e given (at l) (pragma_for st.given e))
    (λ ps. let r : StateOrFault = Ok (record st { given = ps }) in r) next h1 in
    let more : State = record st { given = ps } in
    let is : more ≡ next = cc in
    subst (Does st []) is (record { adds = adds_none (known st); scope = refl })

-- ---- steps

-- all but those that enter and leave scopes
abbrev pub IsFlat : Step → Type 0
IsFlat (Enters l) = ⊥
IsFlat Leaves = ⊥
IsFlat _ = Unit {0}

enum_does : (st next : State) (l : Leaf) → step_read st (DeclaresEnum l) ≡ Ok next
    → Does st (Stands st.scope l Kinds.Enum ∷ []) next
enum_does st next l h =
    let m = enum_meant (length st.entries) l in
    let (mid, declares, rest) =
    then_ok (declared_as m st l) (λ next. let r : StateOrFault =
    Ok (record next { enumeration = length st.entries }) in r) next h in
    let does = declared_does m st mid l declares in
    let last : State = record mid { enumeration = length st.entries } in
    let is : last ≡ next = cc in
    subst (Does st (Stands st.scope l Kinds.Enum ∷ [])) is (record { adds = does.adds; scope = does.scope })

flat_does : (st next : State) (s : Step) → IsFlat s → step_read st s ≡ Ok next → Does st (introduced_by st.scope s) next
flat_does st next (Declares kind l) flat h = declared_does (plain_meant l.number kind) st next l h
flat_does st next (DeclaresEnum l) flat h = enum_does st next l h
flat_does st next (DeclaresEnumerator l) flat h =
    declared_does (enumerator_meant st.enumeration (length st.entries) l) st next l h
flat_does st next (DeclaresTypedef t d) flat h = declared_does (typedef_meant (type_kind st t) d) st next d.identifier h
flat_does st next (DeclaresConst c) flat h =
    let (worth, is, rest) = then_ok
    (value_of_type (const_type_kind st.entries st.scope c.const_type) st.entries st.scope c.value.expr)
    (λ worth. declared_as (const_meant c worth) st c.identifier) next h in
    declared_does (const_meant c worth) st next c.identifier rest
flat_does st next (DeclaresFeature kind l) flat h =
    let (u, free, rest) = then_ok (free_of st.entries l (inherited (features_of st.entries) l.number st.scope (word l)))
    (λ u. declared_plain kind st l) next h in
    declared_does (plain_meant l.number kind) st next l rest
flat_does st next (HasMember l) flat h = member_does st next l h
flat_does st next (HasBase l name) flat h = base_does st next (scope_of st.entries st.scope l) name h
flat_does st next (Enters l) flat h = absurd flat
flat_does st next (Defines l) flat h = defined_does st next l h
flat_does st next Leaves flat h = absurd flat
flat_does st next (Says l) flat h = said_does st next l (said_by l) h
flat_does st next s flat h = does_none st next (passed_same st (test_of st s) next h)

pub flat_behind : (es : List Entry) (scope : ℕ) (s : Step) → IsFlat s → scope_behind es scope s ≡ scope
flat_behind es scope (Enters l) flat = absurd flat
flat_behind es scope Leaves flat = absurd flat
flat_behind es scope s flat = refl

step_grows : (st next : State) (s : Step) → step_read st s ≡ Ok next → Grows (known st) (known next)
step_grows st next (Enters l) h =
    let inside : State = record st { scope = scope_of st.entries st.scope l } in
    let is : inside ≡ next = cc in
    subst (λ x. Grows (known st) (known x)) is (grows_none (known st))
step_grows st next Leaves h =
    let outside : State = record st { scope = around st.entries st.scope } in
    let is : outside ≡ next = cc in
    subst (λ x. Grows (known st) (known x)) is (grows_none (known st))
step_grows st next s h = let does = flat_does st next s tt h in does.adds.grows

-- ---- steps one behind another

steps_grow : (st next : State) (steps : List Step) → steps_read st steps ≡ Ok next → Grows (known st) (known next)
steps_grow st next [] h = let is : st ≡ next = cc in subst (λ x. Grows (known st) (known x)) is (grows_none (known st))
steps_grow st next (s ∷ steps) h =
    let (mid, first, rest) = then_ok (step_read st s) (λ x. steps_read x steps) next h in
    grows_on (known st) (known mid) (known next) (step_grows st mid s first) (steps_grow mid next steps rest)

pub read_append : (st next : State) (xs ys : List Step) → steps_read st (xs ++ ys) ≡ Ok next
    → (mid : State) × (steps_read st xs ≡ Ok mid) × (steps_read mid ys ≡ Ok next)
read_append st next [] ys h = (st, refl, h)
read_append st next (x ∷ xs) ys h =
    let (one, first, rest) = then_ok (step_read st x) (λ s. steps_read s (xs ++ ys)) next h in
    let (mid, before, behind) = read_append one next xs ys rest in
    (mid, ap (λ r. r >> λ s. steps_read s xs) first ∙ before, behind)

-- reading steps that leave what they enter adds what they introduce; `es` are the entries of the whole
record Reads (es : List Entry) (st : State) (xs : List Step) (next : State) : Type 0 where
  adds : Adds (known st) (introduced es st.scope xs) (known next)
  scope : next.scope ≡ st.scope
  walks : (rest : List Step) → introduced es st.scope (xs ++ rest)
      ≡ introduced es st.scope xs ++ introduced es st.scope rest

one_reads : (es : List Entry) (st next : State) (s : Step) → IsFlat s → step_read st s ≡ Ok next
    → Reads es st (s ∷ []) next
one_reads es st next s flat h =
    let does = flat_does st next s flat h in
    let none = append-nil (introduced_by st.scope s) in
    record {
      adds = subst (λ zs. Adds (known st) zs (known next)) (sym none) does.adds;
      scope = does.scope;
      walks = λ rest.
          ap (λ k. introduced_by st.scope s ++ introduced es k rest) (flat_behind es st.scope s flat)
          ∙ ap (λ zs. zs ++ introduced es st.scope rest) (sym none);
    }

both_read : (es : List Entry) (st mid next : State) (xs ys : List Step) → Reads es st xs mid → Reads es mid ys next
    → Reads es st (xs ++ ys) next
both_read es st mid next xs ys a b =
    let of_first = introduced es st.scope xs in
    let behind = subst (λ k. Adds (known mid) (introduced es k ys) (known next)) a.scope b.adds in
    let walks = subst (λ k. (rest : List Step) → introduced es k (ys ++ rest)
    ≡ introduced es k ys ++ introduced es k rest) a.scope b.walks in
    record {
      adds = subst (λ zs. Adds (known st) zs (known next)) (sym (a.walks ys))
          (adds_both (known st) (known mid) (known next) of_first (introduced es st.scope ys) a.adds behind);
      scope = b.scope ∙ a.scope;
      walks = λ rest.
          ap (introduced es st.scope) (append_assoc xs ys rest) ∙ a.walks (ys ++ rest)
          ∙ ap (λ zs. of_first ++ zs) (walks rest)
          ∙ sym (append_assoc of_first (introduced es st.scope ys) (introduced es st.scope rest))
          ∙ ap (λ zs. zs ++ introduced es st.scope rest) (sym (a.walks ys));
    }

-- ---- steps that leave what they enter

-- the scope has an entry of the name
abbrev pub HasLeaf : State → Leaf → Type 0
HasLeaf st l = (n : ℕ) × (named st.entries st.scope (word l) ≡ Some n)

-- where the identifiers are there, the steps enter only what is there, and leave it
record Closed (ls : List Leaf) (xs : List Step) : Type 0 where
  go : (es : List Entry) (st next : State) → steps_read st xs ≡ Ok next → Keeps next.entries es
      → AllByRecursion (HasLeaf st) ls → Reads es st xs next

still_there : (st mid : State) → Grows (known st) (known mid) → mid.scope ≡ st.scope → (l : Leaf) → HasLeaf st l
    → HasLeaf mid l
still_there st mid grows scope l (n, is) =
    (n, ap (λ k. named mid.entries k (word l)) scope ∙ grows.names st.scope (word l) n is)

none : {ls : List Leaf} → Closed ls []
none = record {
  go = λ es st next h later there.
      let is : st ≡ next = cc in
      subst (Reads es st []) is (record { adds = adds_none (known st); scope = refl; walks = λ rest. refl });
}

joined : {ls : List Leaf} {xs ys : List Step} → Closed ls xs → Closed ls ys → Closed ls (xs ++ ys)
joined {ls} {xs} {ys} a b = record {
  go = λ es st next h later there.
      let (mid, before, behind) = read_append st next xs ys h in
      let from_mid = keeps_on mid.entries next.entries es (steps_grow mid next ys behind).names later in
      let first = a.go es st mid before from_mid there in
      let still = all_map (HasLeaf st) (HasLeaf mid) (still_there st mid first.adds.grows first.scope) ls there in
      both_read es st mid next xs ys first (b.go es mid next behind later still);
}

one : {ls : List Leaf} (s : Step) → IsFlat s → Closed ls (s ∷ [])
one s flat = record {
  go = λ es st next h later there.
      let (mid, first, rest) = then_ok (step_read st s) (λ x. steps_read x []) next h in
      let is : mid ≡ next = cc in
      subst (Reads es st (s ∷ [])) is (one_reads es st mid s flat first);
}

-- steps behind a declaration
declaring : {ls : List Leaf} {ys : List Step} (s : Step) (l : Leaf) (kind : EntryKind) → IsFlat s
    → ((scope : ℕ) → introduced_by scope s ≡ Stands scope l kind ∷ [])
    → Closed (l ∷ ls) ys → Closed ls (s ∷ ys)
declaring {ls} {ys} s l kind flat stands b = record {
  go = λ es st next h later there.
      let (mid, first, rest) = then_ok (step_read st s) (λ x. steps_read x ys) next h in
      let does = flat_does st mid s flat first in
      let (n, e, is, at_n, kind_is, name_is) =
      (subst (AllByRecursion (Holds (known mid))) (stands st.scope) does.adds.holds).0 in
      let still = all_map (HasLeaf st) (HasLeaf mid) (still_there st mid does.adds.grows does.scope) ls there in
      let behind = b.go es mid next rest later ((n, ap (λ k. named mid.entries k (word l)) does.scope ∙ is), still) in
      both_read es st mid next (s ∷ []) ys (one_reads es st mid s flat first) behind;
}

pub around_named : (es : List Entry) (scope : ℕ) (name : List ℕ) (n : ℕ) → named es scope name ≡ Some n
    → around es (suc n) ≡ scope
around_named es scope name n h = let (e, here, in_scope) = named_entry es scope name n h in
    ap scope_in here ∙ sym in_scope

-- steps inside the scope of what is there
within : {ls : List Leaf} {ys : List Step} (l : Leaf) → Closed [] ys → Closed (l ∷ ls) (Enters l ∷ (ys ++ Leaves ∷ []))
within {ls} {ys} l b = record {
  go = λ es st next h later there.
      let inner = scope_of st.entries st.scope l in
      let entered : State = record st { scope = inner } in
      let (last, before, behind) = read_append entered next ys (Leaves ∷ []) h in
      let left : State = record last { scope = around last.entries last.scope } in
      let is : left ≡ next = cc in
      let from_last = subst (λ s. Keeps s.entries es) (sym is) later in
      let body = b.go es entered last before from_last tt in
      let (n, first) = there.0 in
      let in_last = body.adds.grows.names st.scope (word l) n first in
      let in_whole = from_last st.scope (word l) n in_last in
      let inner_is : inner ≡ suc n = ap scope_number first in
      let inner_of : scope_of es st.scope l ≡ inner = ap scope_number in_whole ∙ sym inner_is in
      let none_behind = append-nil (introduced es inner ys) in
      let inside : introduced es (scope_of es st.scope l) (ys ++ Leaves ∷ []) ≡ introduced es inner ys =
      ap (λ k. introduced es k (ys ++ Leaves ∷ [])) inner_of ∙ body.walks (Leaves ∷ []) ∙ none_behind in
      let outer : around es inner ≡ st.scope = ap (around es) inner_is ∙ around_named es st.scope (word l) n in_whole in
      subst (Reads es st (Enters l ∷ (ys ++ Leaves ∷ []))) is (record {
        adds = subst (λ zs. Adds (known st) zs (known left)) (sym inside) body.adds;
        scope = ap (around last.entries) (body.scope ∙ inner_is)
            ∙ around_named last.entries st.scope (word l) n in_last;
        walks = λ rest.
            ap (λ k. introduced es k ((ys ++ Leaves ∷ []) ++ rest)) inner_of
            ∙ ap (introduced es inner) (append_assoc ys (Leaves ∷ []) rest)
            ∙ body.walks (Leaves ∷ rest) ∙ ap (λ k. introduced es inner ys ++ introduced es k rest) outer
            ∙ ap (λ zs. zs ++ introduced es st.scope rest) (sym inside);
      });
}

pub plain_flat : (s : Step) → IsPlain s → IsFlat s
plain_flat (IsNew l) is = tt
plain_flat (DeclaresConst c) is = tt
plain_flat (IsUndefined l) is = tt
plain_flat (HasBase l name) is = tt
plain_flat (Enters l) is = is
plain_flat (Defines l) is = tt
plain_flat Leaves is = is
plain_flat s is = is

-- so are those that a tree's pieces ask
closed : {ls : List Leaf} {ps : List Piece} {xs : List Step} → Asks ls ps xs → Closed ls xs
closed unasked = none
closed (silent p is) = none
closed (both_asked a b) = joined (closed a) (closed b)
closed (plain s is) = one s (plain_flat s is)
closed (base text id name) = one (HasBase id name) tt
closed (valued c a) = joined (closed a) (joined (one (IsNew c.identifier) tt) (one (DeclaresConst c) tt))
closed (declared kind id a) = declaring (Declares kind id) id kind tt (λ scope. refl) (closed a)
closed (featured kind id a) = declaring (DeclaresFeature kind id) id kind tt (λ scope. refl) (closed a)
closed (undefined kind id a) =
    declaring (Declares kind id) id kind tt (λ scope. refl) (joined (one (IsUndefined id) tt) (closed a))
closed (inside id a) = within id (closed a)
closed (defines id a) = joined (one (Defines id) tt) (closed a)

-- ---- a whole specification

whole_adds : (definitions : List Definition) (names : FileNames) → AreNames definitions names
    → (st : State) × (Adds (known nothing_yet) (introduced names.entries 0 (steps_of definitions)) (known st))
    × (st.entries ≡ names.entries)
whole_adds definitions names h =
    let (read, reads, is) = then_ok (specification_read definitions)
    (λ st. let r : Result FileNames NameFault = Ok (file_names st) in r) names h in
    let (st, steps, rest) = then_ok (steps_read nothing_yet (steps_of definitions))
    (λ st. passed st (never_defined (left_open st 0 st.entries))) read reads in
    let same = passed_same st (never_defined (left_open st 0 st.entries)) read rest in
    let whole_is : file_names st ≡ names = ap file_names same ∙ cc in
    let entries : st.entries ≡ names.entries = ap (λ w. w.entries) whole_is in
    let all = closed (all_ask definitions) in
    let reads = all.go names.entries nothing_yet st steps
    (λ scope name n there. ap (λ es. named es scope name) (sym entries) ∙ there) tt in
    (st, reads.adds, entries)

-- each identifier is its entry
entry_held : (st : Known) (x : Introduction) → Holds st x → IsEntry st.entries x
entry_held st (Stands scope l kind) h = h
entry_held st (Has scope l) h = tt
entry_held st (Body scope) h = tt

pub declared_once : (definitions : List Definition) (names : FileNames) → AreNames definitions names
    → AllByRecursion (IsEntry names.entries) (introduced names.entries 0 (steps_of definitions))
declared_once definitions names h =
    let (st, adds, is) = whole_adds definitions names h in
    let all = introduced names.entries 0 (steps_of definitions) in
    subst (λ es. AllByRecursion (IsEntry es) all) is
    (all_map (Holds (known st)) (IsEntry st.entries) (entry_held (known st)) all adds.holds)

pub nothing_else : (definitions : List Definition) (names : FileNames) → AreNames definitions names → (n : ℕ)
    → n < length names.entries
    → Any (StandsFor names.entries n) (introduced names.entries 0 (steps_of definitions))
nothing_else definitions names h n lt =
    let (st, adds, is) = whole_adds definitions names h in
    let all = introduced names.entries 0 (steps_of definitions) in
    subst (λ es. Any (StandsFor es n) all) is
    (by (known st) all adds (adds.only n (subst (λ es. n < length es) (sym is) lt)))
  where
    by : (st : Known) (xs : List Introduction) → Adds (known nothing_yet) xs st → IsKnown (known nothing_yet) xs st n
        → Any (StandsFor st.entries n) xs
    by st xs adds (inl before) = absurd (omega arith)
    by st xs adds (inr any) = any

pub nothing_clashes : (definitions : List Definition) (names : FileNames) → AreNames definitions names
    → IsDistinct clashes (introduced names.entries 0 (steps_of definitions))
nothing_clashes definitions names h = let (st, adds, is) = whole_adds definitions names h in adds.apart
