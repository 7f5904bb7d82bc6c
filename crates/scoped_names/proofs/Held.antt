-- What the steps of a specification ask is answered over the entries of the whole as it was while they were read.
use Rattle.std.proofs.Common.{◌≡◌, ◌∙◌, ◌⊎◌, inl, inr, ℕ, suc, ◌+◌, ◌<◌, ◌≤◌, List, [], ◌∷◌, ◌++◌, length, length-append, Some, Result, Ok, codes, append-nil, append_assoc, refl, sym, ap, subst, arith}
use Rattle.std.specs.List.{AllByRecursion, Any}
use Rattle.idl_tree.specs.declared.names.Leaf.{Leaf}
use Rattle.idl_tree.specs.declared.names.ScopedName.{ScopedName}
use Rattle.idl_tree.specs.declared.definitions.Const.{Const}
use Rattle.idl_tree.specs.declared.definitions.Definition.{Definition}
use Rattle.idl_tree.specs.declared.spec.Spec.{Spec}
use Rattle.idl_tree.specs.Pieces.{Piece, kept, mark, piece}
use Rattle.idl_tree.specs.Forms.{AreNumbered}
use Rattle.idl_tree.specs.Yields.{const_expr_yield, identifier, name_yield}
use Rattle.idl_tree.specs.TypeYields.{const_type_yield}
use Rattle.idl_tree.specs.DefinitionYields.{definitions_spelled}
use Rattle.idl_tree.specs.Starts.{name_start}
use Rattle.idl_tree.proofs.SpelledForms.{AreNumbered-append, Spec-numbers}
use Rattle.idl_tree.specs.declared.kinds.EntryKind.{EntryKind}
use Rattle.name_table.specs.Entry.{Entry, around, is_named, named, worth_in}
use Rattle.name_table.specs.Entries.{plain as plain_meant, scope_number, scope_of}
use Rattle.name_table.specs.Features.{features_of}
use Rattle.name_table.specs.Search.{inherited, word}
use Rattle.name_table.proofs.Stability.{position_low}
use Rattle.scoped_names.specs.declared.fault.NameFault.{NameFault}
use Rattle.scoped_names.specs.Faults.{entry_in, declared as declared_plain, free_of, left_open, never_defined, nothing_yet, specification_read, step_read, steps_read, test_of, type_kind}
use Rattle.scoped_names.specs.Introductions.{Introduction, Stands, Has, Body, IsEntry, StandsFor, introduced, introduced_by, scope_behind}
use Rattle.scoped_names.specs.Meanings.{const_end, enumerator_meant, typedef_meant}
use Rattle.scoped_names.specs.Reading.{State, passed}
use Rattle.name_steps.specs.Steps.{Step, Declares, DeclaresEnum, DeclaresEnumerator, DeclaresTypedef, IsNew, DeclaresConst, DeclaresFeature, HasMember, IsUndefined, HasBase, Enters, Defines, Leaves, NamesType, NamesException, HasWorth, IsSize, Says, steps_of}
use Rattle.name_steps.specs.Asked.{pieces_of}
use Rattle.scoped_names.specs.FileNames.{AreNames, FileNames, file_names}
use Rattle.scoped_names.proofs.Introduced.{HasLeaf, IsFlat, around_named, declared_once, flat_behind, plain_flat, read_append}
use Rattle.scoped_names.proofs.Introducing.{all_map, declared_does, passed_same, then_ok}
use Rattle.scoped_names.specs.Following.{AllFollow, FindsKnown}
use Rattle.scoped_names.specs.Holding.{AllHold, HasItsWorth, IsThere, asks}
use Rattle.name_steps.proofs.Asks.{Asks, IsPlain, all_ask, none as unasked, silent, joined as both_asked, plain, base, valued, declared, featured, undefined, inside, defines}
use Rattle.scoped_names.proofs.FollowParts.{finds_more}
use Rattle.scoped_names.proofs.Going.{Goes, all_new, answered, base_goes, const_goes, const_worth, declared_goes, defined_goes, enum_goes, feature_goes, goes_same, member_goes, said_goes}
use Rattle.scoped_names.proofs.Later.{Later, later_from, later_none, later_on}
use Rattle.scoped_names.proofs.Places.{leaf_number, name_number, names_before, type_before}
use Rattle.scoped_names.proofs.Searches.{IsScope, stays}
use Rattle.scoped_names.proofs.Staying.{StepUpTo, TypeUpTo, asks_stays, finds_known, typed_stays}

-- what a step asks is answered, what it enters is there, a constant has its worth, and what a name finds is one of the
-- first k entries
abbrev IsAnswered : List Entry → ℕ → ℕ → Step → Type 0
IsAnswered es scope k s = (asks es scope s ≡ Ok tt) × IsThere es scope s × HasItsWorth es scope s
    × FindsKnown (λ e. e < k) es scope s

-- an entry was there before, or is introduced
abbrev AreNewIn : List Entry → ℕ → List Introduction → ℕ → Type 0
AreNewIn es k xs next = (e : ℕ) → e < next → (e < k) ⊎ Any (StandsFor es e) xs

-- so of the steps, of which the first k entries are declared before the first
abbrev AllAnswered : List Entry → ℕ → ℕ → List Step → Type 0
AllAnswered es scope k [] = Unit {0}
AllAnswered es scope k (s ∷ steps) = IsAnswered es scope k s
    × ((next : ℕ) × AreNewIn es k (introduced_by scope s) next × AllAnswered es (scope_behind es scope s) next steps)

-- ---- steps that are read

-- they ask what holds over the entries `es` of the whole, and leave what they enter
record Held (es : List Entry) (st : State) (xs : List Step) (next : State) : Type 0 where
  is : IsScope next.entries next.scope
  scope : next.scope ≡ st.scope
  walks : (rest : List Step) → AllAnswered es st.scope (length next.entries) rest
      → AllAnswered es st.scope (length st.entries) (xs ++ rest)

-- the steps of what stands from the token n to the token m, where the leaves are declared
record Along (n m : ℕ) (ls : List Leaf) (xs : List Step) : Type 0 where
  rises : n ≤ m
  later : (st next : State) → steps_read st xs ≡ Ok next → Later n st.entries next.entries
  holds : (es : List Entry) (st next : State) → steps_read st xs ≡ Ok next → Later m next.entries es
      → IsScope st.entries st.scope → AllByRecursion (HasLeaf st) ls
      → Held es st xs next

none : (n m : ℕ) (ls : List Leaf) → n ≤ m → Along n m ls []
none n m ls le = record {
  rises = le;
  later = λ st next h. let is : st ≡ next = cc in
      subst (λ s. Later n st.entries s.entries) is (later_none n st.entries);
  holds = λ es st next h l in_scope there.
      let is : st ≡ next = cc in
      subst (Held es st []) is (record { is = in_scope; scope = refl; walks = λ rest all. all });
}

still_there : (st mid : State)
    → ((scope : ℕ) (w : List ℕ) (k : ℕ) → named st.entries scope w ≡ Some k → named mid.entries scope w ≡ Some k)
    → mid.scope ≡ st.scope
    → (l : Leaf) → HasLeaf st l → HasLeaf mid l
still_there st mid names scope l (n, is) =
    (n, ap (λ k. named mid.entries k (word l)) scope ∙ names st.scope (word l) n is)

both_held : (es : List Entry) (st mid next : State) (xs ys : List Step) → Held es st xs mid → Held es mid ys next
    → Held es st (xs ++ ys) next
both_held es st mid next xs ys a b = record {
  is = b.is;
  scope = b.scope ∙ a.scope;
  walks = λ rest all.
      let behind = b.walks rest (subst (λ k. AllAnswered es k (length next.entries) rest) (sym a.scope) all) in
      subst (AllAnswered es st.scope (length st.entries)) (sym (append_assoc xs ys rest))
      (a.walks (ys ++ rest) (subst (λ k. AllAnswered es k (length mid.entries) (ys ++ rest)) a.scope behind));
}

joined : {n m k : ℕ} {ls : List Leaf} {xs ys : List Step} → Along n m ls xs → Along m k ls ys → Along n k ls (xs ++ ys)
joined {n} {m} {k} {ls} {xs} {ys} a b =
    let le = a.rises in
    let more = b.rises in
    record {
      rises = omega arith;
      later = λ st next h.
          let (mid, before, behind) = read_append st next xs ys h in
          later_on (a.later st mid before) (later_from n le (b.later mid next behind));
      holds = λ es st next h l in_scope there.
          let (mid, before, behind) = read_append st next xs ys h in
          let from_mid = later_on (b.later mid next behind) (later_from m more l) in
          let first = a.holds es st mid before from_mid in_scope there in
          let grown = a.later st mid before in
          let still = all_map (HasLeaf st) (HasLeaf mid) (still_there st mid grown.names first.scope) ls there in
          both_held es st mid next xs ys first (b.holds es mid next behind l first.is still);
    }

-- ---- one step

flat_there : (es : List Entry) (scope : ℕ) (s : Step) → IsFlat s → IsThere es scope s
flat_there es scope (Enters l) flat = absurd flat
flat_there es scope s flat = tt

-- a step that looks up names at the token r at the latest, and adds nothing before it
record At (n m : ℕ) (s : Step) : Type 0 where
  r : ℕ
  above : n ≤ r
  below : r ≤ m
  names : StepUpTo r s
  goes : (st next : State) → step_read st s ≡ Ok next → Goes r st next

-- what stands for an entry still does
stands_still : (m : ℕ) (es fs : List Entry) → Later m es fs → (e : ℕ) (x : Introduction) → StandsFor es e x
    → StandsFor fs e x
stands_still m es fs l e (Stands scope k kind) h = l.names scope (word k) e h
stands_still m es fs l e (Has scope k) h = h
stands_still m es fs l e (Body scope) h = h

new_in : {m : ℕ} (st next : State) (es : List Entry) (s : Step) → Later m next.entries es → step_read st s ≡ Ok next
    → AreNewIn es (length st.entries) (introduced_by st.scope s) (length next.entries)
new_in {m} st next es s l h e lt = by (all_new st next s h e lt)
  where
    by : (e < length st.entries) ⊎ Any (StandsFor next.entries e) (introduced_by st.scope s) → (e < length st.entries)
        ⊎ Any (StandsFor es e) (introduced_by st.scope s)
    by (inl before) = inl before
    by (inr (k, x, below, is, holds)) = inr (k, x, below, is, stands_still m next.entries es l e x holds)

worth_held : {m : ℕ} (r : ℕ) (st next : State) (es : List Entry) (s : Step) → StepUpTo r s → Later r st.entries es
    → Later m next.entries es → IsScope st.entries st.scope
    → step_read st s ≡ Ok next → HasItsWorth es st.scope s
worth_held r st next es (DeclaresConst c) names to_end l in_scope h =
    let (w, value, (n, is, worth)) = const_worth st next c h in
    let low = position_low (is_named st.scope (word c.identifier)) next.entries n is in (
      w,
      typed_stays r st.entries es to_end st.scope in_scope c.const_type c.value.expr names.0 names.1 ∙ value,
      ap (λ o. worth_in (entry_in es o)) (l.names st.scope (word c.identifier) n is)
          ∙ stays worth_in (λ x. refl) l n low ∙ worth,
    )
worth_held r st next es s names to_end l in_scope h = tt

step_held : {n m : ℕ} (es : List Entry) (st next : State) (s : Step) → IsFlat s → At n m s → step_read st s ≡ Ok next
    → Later m next.entries es → IsScope st.entries st.scope
    → Held es st (s ∷ []) next
step_held es st next s flat at h l in_scope =
    let goes = at.goes st next h in
    let grown = goes.later in
    let to_end = later_on grown (later_from at.r at.below l) in
    let same = asks_stays at.r st.entries es to_end st.scope in_scope s at.names in
    let is_answered = same ∙ answered st next s h in
    let there = flat_there es st.scope s flat in
    let finds = finds_known at.r st.entries es to_end st.scope in_scope s at.names in
    let new = new_in st next es s l h in
    let worth = worth_held at.r st next es s at.names to_end l in_scope h in
    let low = in_scope.low in
    let longer = grown.longer in
    let same_scope = goes.scope in
    record {
      is = record { nested = goes.nested in_scope; low = omega arith };
      scope = same_scope;
      walks = λ rest all. (
        (is_answered, there, worth, finds),
        (
          length next.entries,
          new,
          subst (λ k. AllAnswered es k (length next.entries) rest)
              (sym (flat_behind es st.scope s flat)) all,
        ),
      );
    }

one : {n m : ℕ} {ls : List Leaf} (s : Step) → IsFlat s → At n m s → Along n m ls (s ∷ [])
one {n} {m} {ls} s flat at =
    let above = at.above in
    let below = at.below in
    record {
      rises = omega arith;
      later = λ st next h.
          let (mid, first, rest) = then_ok (step_read st s) (λ x. steps_read x []) next h in
          let is : mid ≡ next = cc in
          let goes = at.goes st mid first in
          subst (λ x. Later n st.entries x.entries) is (later_from n above goes.later);
      holds = λ es st next h l in_scope there.
          let (mid, first, rest) = then_ok (step_read st s) (λ x. steps_read x []) next h in
          let is : mid ≡ next = cc in
          let from_mid = subst (λ x. Later m x.entries es) (sym is) l in
          subst (Held es st (s ∷ [])) is (step_held es st mid s flat at first from_mid in_scope);
    }

-- steps behind a declaration
declaring : {n m k : ℕ} {ls : List Leaf} {ys : List Step} (s : Step) (l : Leaf) → IsFlat s → At n m s
    → ((st next : State) → step_read st s ≡ Ok next → (j : ℕ) × (named next.entries st.scope (word l) ≡ Some j))
    → Along m k (l ∷ ls) ys → Along n k ls (s ∷ ys)
declaring {n} {m} {k} {ls} {ys} s l flat at stands b =
    let first_along : Along n m ls (s ∷ []) = one s flat at in
    let above = at.above in
    let below = at.below in
    let more = b.rises in
    record {
      rises = omega arith;
      later = λ st next h.
          let (mid, first, rest) = then_ok (step_read st s) (λ x. steps_read x ys) next h in
          let goes = at.goes st mid first in
          later_on (later_from n above goes.later) (later_from n (omega arith) (b.later mid next rest));
      holds = λ es st next h to_end in_scope there.
          let (mid, first, rest) = then_ok (step_read st s) (λ x. steps_read x ys) next h in
          let from_mid = later_on (b.later mid next rest) (later_from m more to_end) in
          let held = step_held es st mid s flat at first from_mid in_scope in
          let goes = at.goes st mid first in
          let grown = goes.later in
          let (j, is) = stands st mid first in
          let still = all_map (HasLeaf st) (HasLeaf mid) (still_there st mid grown.names held.scope) ls there in
          let here : HasLeaf mid l = (j, ap (λ i. named mid.entries i (word l)) held.scope ∙ is) in
          both_held es st mid next (s ∷ []) ys held (b.holds es mid next rest to_end held.is (here, still));
    }

-- steps inside the scope of what is there
within : {n m : ℕ} {ls : List Leaf} {ys : List Step} (l : Leaf) → Along n m [] ys
    → Along n m (l ∷ ls) (Enters l ∷ (ys ++ Leaves ∷ []))
within {n} {m} {ls} {ys} l b = record {
  rises = b.rises;
  later = λ st next h.
      let entered : State = record st { scope = scope_of st.entries st.scope l } in
      let (last, before, behind) = read_append entered next ys (Leaves ∷ []) h in
      let left : State = record last { scope = around last.entries last.scope } in
      let is : left ≡ next = cc in
      subst (λ s. Later n st.entries s.entries) is (b.later entered last before);
  holds = λ es st next h later in_scope there.
      let inner = scope_of st.entries st.scope l in
      let entered : State = record st { scope = inner } in
      let (last, before, behind) = read_append entered next ys (Leaves ∷ []) h in
      let left : State = record last { scope = around last.entries last.scope } in
      let is : left ≡ next = cc in
      let from_last = subst (λ s. Later m s.entries es) (sym is) later in
      let (k, first) = there.0 in
      let low = position_low (is_named st.scope (word l)) st.entries k first in
      let inner_is : inner ≡ suc k = ap scope_number first in
      let body = b.holds es entered last before from_last (record { nested = in_scope.nested; low = omega arith }) tt in
      let grown = b.later entered last before in
      let in_last = grown.names st.scope (word l) k first in
      let in_whole = from_last.names st.scope (word l) k in_last in
      let inner_of : inner ≡ scope_of es st.scope l = inner_is ∙ sym (ap scope_number in_whole) in
      let outer : around es inner ≡ st.scope = ap (around es) inner_is ∙ around_named es st.scope (word l) k in_whole in
      let back : left.scope ≡ st.scope = ap (around last.entries) (body.scope ∙ inner_is)
      ∙ around_named last.entries st.scope (word l) k in_last in
      let low_still = in_scope.low in
      let longer = grown.longer in
      let nested = body.is in
      subst (Held es st (Enters l ∷ (ys ++ Leaves ∷ []))) is (record {
        is = record { nested = nested.nested; low = omega arith };
        scope = back;
        walks = λ rest all.
            let count = length last.entries in
            let behind_it : AllAnswered es inner count (Leaves ∷ rest) =
            ((refl, tt, tt, tt), (count, λ e lt. inl lt, subst (λ j. AllAnswered es j count rest) (sym outer) all)) in
            let inside_it = subst (AllAnswered es inner (length st.entries)) (sym (append_assoc ys (Leaves ∷ []) rest))
            (body.walks (Leaves ∷ rest) behind_it) in (
              (refl, (k, in_whole), tt, tt),
              (
                length st.entries,
                λ e lt. inl lt,
                subst (λ j. AllAnswered es j (length st.entries) ((ys ++ Leaves ∷ []) ++ rest)) inner_of inside_it,
              ),
            );
      });
}

-- ---- the steps that a tree's pieces ask

asked_at : {n m : ℕ} (r : ℕ) (s : Step) → n ≤ r → r ≤ m → StepUpTo r s
    → ((st next : State) → step_read st s ≡ Ok next → Goes r st next) → At n m s
asked_at r s above below names goes = record { r = r; above = above; below = below; names = names; goes = goes }

tested_at : (n m : ℕ) (s : Step) → n ≤ m → StepUpTo m s → ((st next : State) → step_read st s ≡ Ok next → st ≡ next)
    → At n m s
tested_at n m s le names same = asked_at m s le (omega arith) names (λ st next h. goes_same m st next (same st next h))

leaf_below : (l : Leaf) (n : ℕ) → AreNumbered n (identifier l) → n ≤ l.number
leaf_below l n num = let is = leaf_number l n num in omega arith

plain_at : (n m : ℕ) (s : Step) → IsPlain s → AreNumbered n (pieces_of s) → n + length (pieces_of s) ≤ m → At n m s
plain_at n m (Declares kind l) is num le =
    let at = leaf_below l n num in
    asked_at n (Declares kind l) (omega arith) (omega arith) tt
    (λ st next h. declared_goes n (plain_meant l.number kind) st next l h at)
plain_at n m (DeclaresEnum l) is num le =
    let at = leaf_below l n num in
    asked_at n (DeclaresEnum l) (omega arith) (omega arith) tt (λ st next h. enum_goes n st next l h at)
plain_at n m (DeclaresEnumerator l) is num le =
    let at = leaf_below l n num in
    asked_at n (DeclaresEnumerator l) (omega arith) (omega arith) tt
    (λ st next h. declared_goes n (enumerator_meant st.enumeration (length st.entries) l) st next l h at)
plain_at n m (DeclaresTypedef t d) is num le =
    let at = leaf_below d.identifier n num in
    asked_at n (DeclaresTypedef t d) (omega arith) (omega arith) tt
    (λ st next h. declared_goes n (typedef_meant (type_kind st t) d) st next d.identifier h at)
plain_at n m (DeclaresFeature kind l) is num le =
    let at = leaf_below l n num in
    asked_at n (DeclaresFeature kind l) (omega arith) (omega arith) tt (λ st next h. feature_goes n kind st next l h at)
plain_at n m (HasMember l) is num le =
    asked_at n (HasMember l) (omega arith) (omega arith) tt (λ st next h. member_goes n st next l h)
plain_at n m (NamesType name) is num le =
    let at = name_number name n num in
    tested_at n m (NamesType name) (omega arith) (omega arith)
    (λ st next h. passed_same st (test_of st (NamesType name)) next h)
plain_at n m (NamesException name) is num le =
    let at = name_number name n num in
    tested_at n m (NamesException name) (omega arith) (omega arith)
    (λ st next h. passed_same st (test_of st (NamesException name)) next h)
plain_at n m (HasWorth e) is num le =
    tested_at n m (HasWorth e) (omega arith) (names_before e n m num le)
    (λ st next h. passed_same st (test_of st (HasWorth e)) next h)
plain_at n m (IsSize e) is num le =
    tested_at n m (IsSize e) (omega arith) (names_before e n m num le)
    (λ st next h. passed_same st (test_of st (IsSize e)) next h)
plain_at n m (Says l) is num le =
    asked_at n (Says l) (omega arith) (omega arith) tt (λ st next h. said_goes n st next l h)
plain_at n m s is num le = absurd is

-- a constant behind its type
valued_along : (ls : List Leaf) (c : Const) (n : ℕ)
    → AreNumbered n ((identifier c.identifier ++ mark (codes "=")) ++ const_expr_yield c.value)
    → ((m : ℕ) → n ≤ m → TypeUpTo m c.const_type)
    → Along n (n + length ((identifier c.identifier ++ mark (codes "=")) ++ const_expr_yield c.value)) ls
    (IsNew c.identifier ∷ DeclaresConst c ∷ [])
unfolding kept piece
valued_along ls c n num typed =
    let front = identifier c.identifier ++ mark (codes "=") in
    let parts = AreNumbered-append front (const_expr_yield c.value) n num in
    let at = leaf_number c.identifier n (AreNumbered-append (identifier c.identifier) (mark (codes "=")) n parts.0).0 in
    let all = length-append front (const_expr_yield c.value) in
    let names = names_before c.value.expr (n + length front) (const_end c) parts.1 (omega arith) in
    joined (one (IsNew c.identifier) tt (new_at n))
    (one (DeclaresConst c) tt
    (asked_at (const_end c) (DeclaresConst c) (omega arith) (omega arith) (typed (const_end c) (omega arith), names)
    (λ st next h. const_goes st next c h)))
  where
    new_at : (n : ℕ) → At n n (IsNew c.identifier)
    new_at n = tested_at n n (IsNew c.identifier) (omega arith) tt
        (λ st next h. passed_same st (test_of st (IsNew c.identifier)) next h)

undefined_at : (n : ℕ) (l : Leaf) → At n n (IsUndefined l)
undefined_at n l = tested_at n n (IsUndefined l) (omega arith) tt
    (λ st next h. passed_same st (test_of st (IsUndefined l)) next h)

defined_at : (n : ℕ) (l : Leaf) → At n n (Defines l)
defined_at n l = asked_at n (Defines l) (omega arith) (omega arith) tt (λ st next h. defined_goes n st next l h)

base_at : (n m : ℕ) (text : List ℕ) (id : Leaf) (name : ScopedName) → AreNumbered n (mark text ++ name_yield name)
    → n + length (mark text ++ name_yield name) ≤ m → At n m (HasBase id name)
base_at n m text id name num le =
    let at = name_number name (n + length (mark text)) (AreNumbered-append (mark text) (name_yield name) n num).1 in
    let all = length-append (mark text) (name_yield name) in
    asked_at (name_start name).number (HasBase id name) (omega arith) (omega arith) (omega arith)
    (λ st next h. base_goes st next (scope_of st.entries st.scope id) name h)

declared_there : (kind : EntryKind) (l : Leaf) (st next : State) → declared_plain kind st l ≡ Ok next
    → (j : ℕ) × (named next.entries st.scope (word l) ≡ Some j)
declared_there kind l st next h =
    let does = declared_does (plain_meant l.number kind) st next l h in
    let (j, e, is, here, kind_is, name_is) = does.adds.holds.0 in
    (j, is)

featured_there : (kind : EntryKind) (l : Leaf) (st next : State) → step_read st (DeclaresFeature kind l) ≡ Ok next
    → (j : ℕ) × (named next.entries st.scope (word l) ≡ Some j)
featured_there kind l st next h =
    let (u, free, rest) = then_ok (free_of st.entries l (inherited (features_of st.entries) l.number st.scope (word l)))
    (λ u. declared_plain kind st l) next h in
    declared_there kind l st next rest

-- to the end of what stands one behind another
ended : {n : ℕ} {ls : List Leaf} {xs : List Step} (ps qs : List Piece) → Along n (n + length ps + length qs) ls xs
    → Along n (n + length (ps ++ qs)) ls xs
ended {n} {ls} {xs} ps qs a =
    let all = length-append ps qs in
    let end : n + length ps + length qs ≡ n + length (ps ++ qs) = omega arith in
    subst (λ k. Along n k ls xs) end a

along : {ls : List Leaf} {ps : List Piece} {xs : List Step} → Asks ls ps xs → (n : ℕ) → AreNumbered n ps
    → Along n (n + length ps) ls xs
along {ls} unasked n num = none n (n + 0) ls (omega arith)
along {ls} (silent p is) n num = none n (n + 1) ls (omega arith)
along (both_asked {ps = ps} {qs = qs} a b) n num =
    let parts = AreNumbered-append ps qs n num in
    ended ps qs (joined (along a n parts.0) (along b (n + length ps) parts.1))
along (plain s is) n num = one s (plain_flat s is) (plain_at n (n + length (pieces_of s)) s is num (omega arith))
along (base text id name) n num = one (HasBase id name) tt (base_at n _ text id name num (omega arith))
along {ls} (valued c a) n num =
    let front = const_type_yield c.const_type in
    let behind = (identifier c.identifier ++ mark (codes "=")) ++ const_expr_yield c.value in
    let parts = AreNumbered-append front behind n num in
    ended front behind (joined (along a n parts.0)
    (valued_along ls c (n + length front) parts.1 (λ m le. type_before c.const_type n m parts.0 le)))
along (declared {ps = ps} kind id a) n num =
    let parts = AreNumbered-append (identifier id) ps n num in
    ended (identifier id) ps
    (declaring (Declares kind id) id tt
    (plain_at n (n + length (identifier id)) (Declares kind id) tt parts.0 (omega arith))
    (declared_there kind id) (along a (n + length (identifier id)) parts.1))
along (featured {ps = ps} kind id a) n num =
    let parts = AreNumbered-append (identifier id) ps n num in
    ended (identifier id) ps
    (declaring (DeclaresFeature kind id) id tt
    (plain_at n (n + length (identifier id)) (DeclaresFeature kind id) tt parts.0 (omega arith))
    (featured_there kind id) (along a (n + length (identifier id)) parts.1))
along (undefined {ps = ps} kind id a) n num =
    let parts = AreNumbered-append (identifier id) ps n num in
    let m = n + length (identifier id) in
    ended (identifier id) ps
    (declaring (Declares kind id) id tt (plain_at n m (Declares kind id) tt parts.0 (omega arith))
    (declared_there kind id) (joined (one (IsUndefined id) tt (undefined_at m id)) (along a m parts.1)))
along (inside id a) n num = within id (along a n num)
along (defines id a) n num = joined (one (Defines id) tt (defined_at n id)) (along a n num)

-- ---- a whole specification

-- with entries for what they introduce
with_entries : (es : List Entry) (scope k : ℕ) (steps : List Step) → AllAnswered es scope k steps
    → AllByRecursion (IsEntry es) (introduced es scope steps) → AllHold es scope steps
with_entries es scope k [] answers entries = tt
with_entries es scope k (s ∷ steps) ((is, there, worth, finds), (next, new, answers)) entries =
    let both = all_split (IsEntry es) (introduced_by scope s) (introduced es (scope_behind es scope s) steps) entries in (
      record { answered = is; entries = both.0; there = there; worth = worth },
      with_entries es (scope_behind es scope s) next steps answers both.1,
    )
  where
    all_split : {X : Type 0} (P : X → Type 0) (xs ys : List X) → AllByRecursion P (xs ++ ys)
        → AllByRecursion P xs × AllByRecursion P ys
    all_split P [] ys h = (tt, h)
    all_split P (x ∷ xs) ys h = let rest = all_split P xs ys h.1 in ((h.0, rest.0), rest.1)

follow : (known : ℕ → Type 0) (es : List Entry) (scope k : ℕ) (steps : List Step) → ((e : ℕ) → e < k → known e)
    → AllAnswered es scope k steps → AllFollow known es scope steps
follow known es scope k [] below h = tt
follow known es scope k (s ∷ steps) below ((is, there, worth, finds), (next, new, answers)) = (
  finds_more (λ e. e < k) known es scope s below finds,
  follow (λ e. known e ⊎ Any (StandsFor es e) (introduced_by scope s)) es (scope_behind es scope s) next steps
      (λ e lt. by e (new e lt)) answers,
)
  where
    by : (e : ℕ) → (e < k) ⊎ Any (StandsFor es e) (introduced_by scope s) → known e
        ⊎ Any (StandsFor es e) (introduced_by scope s)
    by e (inl lt) = inl (below e lt)
    by e (inr any) = inr any

-- where tokens have the numbers of their places
all_answered : (definitions : List Definition) (names : FileNames) → AreNumbered 0 (definitions_spelled definitions)
    → AreNames definitions names
    → AllAnswered names.entries 0 0 (steps_of definitions)
all_answered definitions names numbered h =
    let (read, reads, is) = then_ok (specification_read definitions)
    (λ st. let r : Result FileNames NameFault = Ok (file_names st) in r) names h in
    let (st, steps, rest) = then_ok (steps_read nothing_yet (steps_of definitions))
    (λ st. passed st (never_defined (left_open st 0 st.entries))) read reads in
    let same = passed_same st (never_defined (left_open st 0 st.entries)) read rest in
    let whole_is : file_names st ≡ names = ap file_names same ∙ cc in
    let all = along (all_ask definitions) 0 numbered in
    let held = all.holds st.entries nothing_yet st steps (later_none _ st.entries)
    (record { nested = λ k e is. cc; low = omega arith }) tt in
    let answers = subst (AllAnswered st.entries 0 0) (append-nil (steps_of definitions)) (held.walks [] tt) in
    subst (λ w. AllAnswered w.entries 0 0 (steps_of definitions)) whole_is answers

pub names_hold : (spec : Spec) (names : FileNames) → AreNames spec.definitions.items names
    → AllHold names.entries 0 (steps_of spec.definitions.items)
names_hold spec names h =
    let steps = steps_of spec.definitions.items in
    with_entries names.entries 0 0 steps (all_answered spec.definitions.items names (Spec-numbers spec) h)
    (declared_once spec.definitions.items names h)

pub names_follow : (spec : Spec) (names : FileNames) → AreNames spec.definitions.items names
    → AllFollow (λ e. ⊥) names.entries 0 (steps_of spec.definitions.items)
names_follow spec names h =
    follow (λ e. ⊥) names.entries 0 0 (steps_of spec.definitions.items) (λ e lt. omega arith)
    (all_answered spec.definitions.items names (Spec-numbers spec) h)
