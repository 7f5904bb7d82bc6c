-- What reading a step does to the entries, and that what it asks is answered.
use Rattle.std.proofs.Common.{◌≡◌, ◌∙◌, ◌⊎◌, inl, inr, ℕ, zero, suc, ◌<◌, ◌≤◌, Bool, true, false, cond, not, List, [], ◌∷◌, ◌++◌, length, length-append, slice_get, Option, Some, None, Ok, Err, refl, sym, ap, subst, arith}
use Rattle.std.specs.Prelude.{◌&&◌, if◌then◌else◌}
use Rattle.std.specs.List.{Any}
use Rattle.std.specs.Option.{option_map}
use Rattle.std.specs.Str.{bytes_eq}
use Rattle.std.proofs.lemmas.Bool.{and_parts}
use Rattle.std.proofs.lemmas.Option.{slice_get_within}
use Rattle.idl_lexer.specs.Identifiers.{words}
use Rattle.idl_tree.specs.declared.names.Leaf.{Leaf}
use Rattle.idl_tree.specs.declared.names.ScopedName.{ScopedName}
use Rattle.idl_tree.specs.declared.definitions.Const.{Const}
use Rattle.idl_tree.specs.Starts.{name_start, leaf_at as at}
use Rattle.name_table.specs.declared.const_values.constant.Constant.{Constant}
use Rattle.name_table.specs.declared.entry.Base.{Base}
use Rattle.idl_tree.specs.declared.kinds.EntryKind.{EntryKind}
use Rattle.idl_tree.specs.declared.kinds.EntryKind.TheVariants as Entries
use Rattle.name_table.specs.declared.entry.Meaning.{Meaning}
use Rattle.name_table.specs.Entry.{AreNested, Entry, around, is_named, named, worth_in}
use Rattle.name_table.specs.Entries.{entry_declared, plain, scope_of, with_base}
use Rattle.name_table.specs.Features.{features_of}
use Rattle.name_table.specs.Search.{begins_at_root, identifiers_see, inherited, word}
use Rattle.name_table.proofs.Stability.{get_push_last, get_push_low, named_push, or_place}
use Rattle.idl_tree.specs.declared.names.At.{At}
use Rattle.scoped_names.specs.declared.fault.NameFault.{NameFault}
use Rattle.scoped_names.specs.declared.fault.NameFault.TheVariants.{BadBase, NotAType}
use Rattle.scoped_names.specs.declared.fault.Unfit.TheVariants.{NotDefined}
use Rattle.scoped_names.specs.Faults.{may_reappear, base_added, base_test, based, declared, declared_as, declares_over, entry_in, free_of, free_test, given_once, is_defined, is_interface, new_test, prefix_set, said_read, step_read, taken_by, test_of, type_kind, undefined_test, with_base_at, with_declared}
use Rattle.scoped_names.specs.IdPragmas.{Said, SetsPrefix, Gives, said_by}
use Rattle.scoped_names.specs.Meanings.{const_end, const_meant, enum_meant, enumerator_meant, typedef_meant}
use Rattle.scoped_names.specs.Reading.{State, StateOrFault, Test, passed, ◌>>◌}
use Rattle.scoped_names.specs.RepositoryIds.{pragma_for}
use Rattle.scoped_names.specs.Introductions.{Introduction, StandsFor, introduced_by}
use Rattle.name_steps.specs.Steps.{Step, Declares, DeclaresConst, DeclaresFeature, DeclaresEnum, DeclaresEnumerator, DeclaresTypedef, HasBase, HasMember, Enters, Leaves, Defines, Says, NamesType, NamesException, HasWorth, IsSize}
use Rattle.scoped_names.specs.Tests.{found_at, is_of, kind_in, resolved, value_of_type}
use Rattle.scoped_names.specs.TypeKinds.{const_type_kind}
use Rattle.scoped_names.proofs.Introducing.{Does, appears, base_does, below_or_last, declared_does, defined_does, member_does, named_entry, passed_same, same_name, then_ok}
use Rattle.scoped_names.specs.Holding.{asks}
use Rattle.scoped_names.proofs.Later.{Later, bare, bare_base, later_base, later_none, later_push}
use Rattle.scoped_names.proofs.Searches.{IsScope}

-- ---- scopes of entries

nested_push : (es : List Entry) (e : Entry) → AreNested es → e.scope ≤ length es → AreNested (es ++ e ∷ [])
nested_push es e nested low k x h =
    let within = slice_get_within (es ++ e ∷ []) k x h in
    let all = length-append es (e ∷ []) in
    by (below_or_last k (length es) (omega arith))
  where
    by : (k < length es) ⊎ (length es ≡ k) → x.scope ≤ k
    by (inl lt) = nested k x (sym (get_push_low es e k lt) ∙ h)
    by (inr is) =
        let last : Some e ≡ Some x = sym (get_push_last es e) ∙ ap (slice_get (es ++ e ∷ [])) is ∙ h in
        let same : e ≡ x = cc in
        subst (λ y. y.scope ≤ k) same (omega arith)

nested_like : (es fs : List Entry) → ((k : ℕ) → option_map bare (slice_get fs k) ≡ option_map bare (slice_get es k))
    → AreNested es → AreNested fs
nested_like es fs like nested k x h = by (slice_get es k) refl (sym (like k) ∙ ap (option_map bare) h)
  where
    by : (o : Option Entry) → slice_get es k ≡ o → option_map bare o ≡ Some (bare x) → x.scope ≤ k
    by None is same = absurd cc
    by (Some y) is same =
        let alike : bare y ≡ bare x = cc in
        let scope : y.scope ≡ x.scope = ap (λ e. e.scope) alike in
        let low = nested k y is in
        omega arith

-- ---- a step

-- what it adds to the entries doesn't stand before the token n, and the next step is done in the same scope
pub record Goes (n : ℕ) (st next : State) : Type 0 where
  pub later : Later n st.entries next.entries
  pub nested : IsScope st.entries st.scope → AreNested next.entries
  pub scope : next.scope ≡ st.scope

goes_like : (n : ℕ) (st next : State) → st.entries ≡ next.entries → next.scope ≡ st.scope → Goes n st next
goes_like n st next same scope = record {
  later = subst (Later n st.entries) same (later_none n st.entries);
  nested = λ is. subst AreNested same is.nested;
  scope = scope;
}

pub goes_same : (n : ℕ) (st next : State) → st ≡ next → Goes n st next
goes_same n st next is = goes_like n st next (ap (λ s. s.entries) is) (sym (ap (λ s. s.scope) is))

declares_goes : (n : ℕ) (m : Meaning) (st next : State) (l : Leaf) (o : Option Entry) → declares_over m st l o ≡ Ok next
    → n ≤ m.token → Goes n st next
declares_goes n m st next l None h le =
    let is : with_declared m st l ≡ next = cc in
    let one = entry_declared m st.prefix st.scope l in
    subst (Goes n st) is (record {
      later = later_push n st.entries one refl le;
      nested = λ s. nested_push st.entries one s.nested s.low;
      scope = refl;
    })
declares_goes n m st next l (Some e) h le = goes_same n st next (appears m.kind st next l e h).1

pub declared_goes : (n : ℕ) (m : Meaning) (st next : State) (l : Leaf) → declared_as m st l ≡ Ok next → n ≤ m.token
    → Goes n st next
declared_goes n m st next l h le =
    let o = entry_in st.entries (named st.entries st.scope (word l)) in
    let (u, test, rest) = then_ok (free_test l (taken_by st (word l))) (λ u. declares_over m st l o) next h in
    declares_goes n m st next l o rest le

pub enum_goes : (n : ℕ) (st next : State) (l : Leaf) → step_read st (DeclaresEnum l) ≡ Ok next → n ≤ l.number
    → Goes n st next
enum_goes n st next l h le =
    let m = enum_meant (length st.entries) l in
    let (mid, declares, rest) =
    then_ok (declared_as m st l) (λ next. let r : StateOrFault =
    Ok (record next { enumeration = length st.entries }) in r) next h in
    let goes = declared_goes n m st mid l declares le in
    let last : State = record mid { enumeration = length st.entries } in
    let is : last ≡ next = cc in
    subst (Goes n st) is (record { later = goes.later; nested = goes.nested; scope = goes.scope })

pub const_goes : (st next : State) (c : Const) → step_read st (DeclaresConst c) ≡ Ok next → Goes (const_end c) st next
const_goes st next c h =
    let (worth, is, rest) = then_ok
    (value_of_type (const_type_kind st.entries st.scope c.const_type) st.entries st.scope c.value.expr)
    (λ worth. declared_as (const_meant c worth) st c.identifier) next h in
    declared_goes (const_end c) (const_meant c worth) st next c.identifier rest (omega arith)

pub feature_goes : (n : ℕ) (kind : EntryKind) (st next : State) (l : Leaf)
    → step_read st (DeclaresFeature kind l) ≡ Ok next → n ≤ l.number → Goes n st next
feature_goes n kind st next l h le =
    let (u, free, rest) = then_ok (free_of st.entries l (inherited (features_of st.entries) l.number st.scope (word l)))
    (λ u. declared kind st l) next h in
    declared_goes n (plain l.number kind) st next l rest le

pub member_goes : (n : ℕ) (st next : State) (l : Leaf) → step_read st (HasMember l) ≡ Ok next → Goes n st next
member_goes n st next l h =
    let more : State = record st { members = st.members ++ record { scope = st.scope; name = word l; at = at l } ∷ [] }
    in
    let (u, test, rest) = then_ok (new_test st l) (λ u. let r : StateOrFault = Ok more in r) next h in
    let is : more ≡ next = cc in
    subst (Goes n st) is (goes_like n st more refl refl)

pub defined_goes : (n : ℕ) (st next : State) (l : Leaf) → step_read st (Defines l) ≡ Ok next → Goes n st next
defined_goes n st next l h =
    let more : State = record st { defined = st.defined ++ st.scope ∷ [] } in
    let (u, test, rest) = then_ok (undefined_test st st.scope l) (λ u. let r : StateOrFault = Ok more in r) next h in
    let is : more ≡ next = cc in
    subst (Goes n st) is (goes_like n st more refl refl)

prefix_same : (st next : State) (scope : ℕ) (text : List ℕ) (here : At) → prefix_set st scope text here ≡ Ok next
    → (st.entries ≡ next.entries) × (next.scope ≡ st.scope)
prefix_same st next zero text here h =
    let set : State = record st { prefix = text } in
    let is : set ≡ next = cc in
    (ap (λ s. s.entries) is, sym (ap (λ s. s.scope) is))
prefix_same st next (suc e) text here h = absurd cc

said_same : (st next : State) (l : Leaf) (o : Option Said) → said_read st l o ≡ Ok next
    → (st.entries ≡ next.entries) × (next.scope ≡ st.scope)
said_same st next l None h = let is : st ≡ next = cc in (ap (λ s. s.entries) is, sym (ap (λ s. s.scope) is))
said_same st next l (Some (SetsPrefix text)) h = prefix_same st next st.scope text (at l) h
said_same st next l (Some (Gives name given)) h =
    let (e, finds, h1) = then_ok
    (found_at st.entries (at l) (identifiers_see st.entries l.number st.scope (begins_at_root name) (words name)))
    (λ e. given_once st.given e given (at l) (pragma_for st.given e) >> λ ps. let r : StateOrFault =
    Ok (record st { given = ps }) in r) next h in
    let (ps, gives, h2) = then_ok (given_once st.given e given (at l) (pragma_for st.given e))
    (λ ps. let r : StateOrFault = Ok (record st { given = ps }) in r) next h1 in
    let more : State = record st { given = ps } in
    let is : more ≡ next = cc in
    (ap (λ s. s.entries) is, sym (ap (λ s. s.scope) is))

pub said_goes : (n : ℕ) (st next : State) (l : Leaf) → step_read st (Says l) ≡ Ok next → Goes n st next
said_goes n st next l h = let same = said_same st next l (said_by l) h in goes_like n st next same.0 same.1

-- ---- a base

-- the base that a name adds is what it finds
base_parts : (st next : State) (inner : ℕ) (name : ScopedName) → base_added st inner name ≡ Ok next
    → (e : ℕ) × (resolved st.entries st.scope name ≡ Ok e) × (is_of is_interface (slice_get st.entries e) ≡ true)
    × (based st inner (record { token = (name_start name).number; entry = e }) ≡ next)
base_parts st next inner name h =
    let (e, finds, rest) = then_ok (resolved st.entries st.scope name)
    (λ e. with_base_at st inner (record { token = (name_start name).number; entry = e }) (at (name_start name)))
    next h in
    let base : Base = record { token = (name_start name).number; entry = e } in
    let (u, test, based_is) =
    then_ok (base_test st inner base (at (name_start name)))
    (λ u. let r : StateOrFault = Ok (based st inner base) in r) next rest in
    let is : based st inner base ≡ next = cc in (
      e,
      finds,
      (and_parts (is_of is_interface (slice_get st.entries e)) (is_defined st (suc e))
          (fits (BadBase (at (name_start name)) NotDefined) _ _ u test)).0,
      is,
    )
  where
    fits : (fault : NameFault) (a : Bool) (rest : Test) (u : Unit {0})
        → (let t : Test = if not a then Err fault else rest in t) ≡ Ok u → a ≡ true
    fits fault true rest u h = refl
    fits fault false rest u h = absurd cc

pub base_goes : (st next : State) (inner : ℕ) (name : ScopedName) → base_added st inner name ≡ Ok next
    → Goes (name_start name).number st next
base_goes st next inner name h =
    let (e, finds, fits, is) = base_parts st next inner name h in
    let base : Base = record { token = (name_start name).number; entry = e } in
    subst (Goes (name_start name).number st) is (record {
      later = later_base (name_start name).number st.entries inner base (omega arith);
      nested = λ s. nested_like st.entries (with_base st.entries inner base) (bare_base st.entries inner base) s.nested;
      scope = refl;
    })

-- ---- what is asked

passed_ok : (st : State) (test : Test) (next : State) → passed st test ≡ Ok next → test ≡ Ok tt
passed_ok st (Ok tt) next h = refl
passed_ok st (Err fault) next h = absurd cc

-- while reading it is answered
pub answered : (st next : State) (s : Step) → step_read st s ≡ Ok next → asks st.entries st.scope s ≡ Ok tt
answered st next (NamesType name) h = passed_ok st (test_of st (NamesType name)) next h
answered st next (NamesException name) h = passed_ok st (test_of st (NamesException name)) next h
answered st next (HasWorth e) h = passed_ok st (test_of st (HasWorth e)) next h
answered st next (IsSize e) h = passed_ok st (test_of st (IsSize e)) next h
answered st next (DeclaresConst c) h =
    let (worth, is, rest) = then_ok
    (value_of_type (const_type_kind st.entries st.scope c.const_type) st.entries st.scope c.value.expr)
    (λ worth. declared_as (const_meant c worth) st c.identifier) next h in
    ap (λ r. r >> λ w. Ok tt) is
answered st next (HasBase l name) h =
    let (e, finds, fits, is) = base_parts st next _ name h in
    ap (λ r. r >> λ k. if is_of is_interface (slice_get st.entries k) then Ok tt
    else Err (NotAType (at (name_start name)) (kind_in (slice_get st.entries k)))) finds
    ∙ ap (λ b. if b then Ok tt else Err (NotAType (at (name_start name)) (kind_in (slice_get st.entries e)))) fits
answered st next s h = refl

-- ---- what is new

-- an entry was there before, or an identifier that is introduced stands for it
abbrev pub AreNew : State → List Introduction → State → Type 0
AreNew st xs next = (e : ℕ) → e < length next.entries → (e < length st.entries) ⊎ Any (StandsFor next.entries e) xs

new_of : {xs : List Introduction} (st next : State) → Does st xs next → AreNew st xs next
new_of st next does e lt = does.adds.only e lt

none_new : (xs : List Introduction) (st next : State) → st.entries ≡ next.entries → AreNew st xs next
none_new xs st next same e lt = inl (subst (λ es. e < length es) (sym same) lt)

pub all_new : (st next : State) (s : Step) → step_read st s ≡ Ok next → AreNew st (introduced_by st.scope s) next
all_new st next (Declares kind l) h = new_of st next (declared_does (plain l.number kind) st next l h)
all_new st next (DeclaresEnum l) h =
    let m = enum_meant (length st.entries) l in
    let (mid, declares, rest) =
    then_ok (declared_as m st l) (λ next. let r : StateOrFault =
    Ok (record next { enumeration = length st.entries }) in r) next h in
    let last : State = record mid { enumeration = length st.entries } in
    let is : last ≡ next = cc in
    let new : AreNew st (introduced_by st.scope (DeclaresEnum l)) last =
    new_of st mid (declared_does m st mid l declares) in
    subst (AreNew st (introduced_by st.scope (DeclaresEnum l))) is new
all_new st next (DeclaresEnumerator l) h =
    new_of st next (declared_does (enumerator_meant st.enumeration (length st.entries) l) st next l h)
all_new st next (DeclaresTypedef t d) h =
    new_of st next (declared_does (typedef_meant (type_kind st t) d) st next d.identifier h)
all_new st next (DeclaresConst c) h =
    let (worth, is, rest) = then_ok
    (value_of_type (const_type_kind st.entries st.scope c.const_type) st.entries st.scope c.value.expr)
    (λ worth. declared_as (const_meant c worth) st c.identifier) next h in
    new_of st next (declared_does (const_meant c worth) st next c.identifier rest)
all_new st next (DeclaresFeature kind l) h =
    let (u, free, rest) = then_ok (free_of st.entries l (inherited (features_of st.entries) l.number st.scope (word l)))
    (λ u. declared kind st l) next h in
    new_of st next (declared_does (plain l.number kind) st next l rest)
all_new st next (HasMember l) h = new_of st next (member_does st next l h)
all_new st next (HasBase l name) h = new_of st next (base_does st next _ name h)
all_new st next (Enters l) h =
    let entered : State = record st { scope = scope_of st.entries st.scope l } in
    let is : entered ≡ next = cc in
    none_new [] st next (ap (λ s. s.entries) is)
all_new st next (Defines l) h = new_of st next (defined_does st next l h)
all_new st next Leaves h =
    let left : State = record st { scope = around st.entries st.scope } in
    let is : left ≡ next = cc in
    none_new [] st next (ap (λ s. s.entries) is)
all_new st next (Says l) h = none_new [] st next (said_same st next l (said_by l) h).0
all_new st next s h = none_new [] st next (ap (λ s. s.entries) (passed_same st (test_of st s) next h))

-- ---- constants

not_again : (kind : EntryKind) → may_reappear Entries.Const kind ≡ false
not_again kind = refl

-- a constant's entry has its worth
pub const_worth : (st next : State) (c : Const) → step_read st (DeclaresConst c) ≡ Ok next
    → (w : Constant) × (value_of_type (const_type_kind st.entries st.scope c.const_type) st.entries st.scope
    c.value.expr ≡ Ok w)
    × ((n : ℕ) × (named next.entries st.scope (word c.identifier) ≡ Some n)
    × (worth_in (slice_get next.entries n) ≡ Some w))
const_worth st next c h =
    let l = c.identifier in
    let (w, is, rest) = then_ok
    (value_of_type (const_type_kind st.entries st.scope c.const_type) st.entries st.scope c.value.expr)
    (λ worth. declared_as (const_meant c worth) st c.identifier) next h in
    let o = named st.entries st.scope (word l) in
    let (u, test, declares) =
    then_ok (free_test l (taken_by st (word l))) (λ u. declares_over (const_meant c w) st l (entry_in st.entries o))
    next rest in
    (w, is, by w o refl declares)
  where
    by : (w : Constant) (o : Option ℕ) → named st.entries st.scope (word c.identifier) ≡ o
        → declares_over (const_meant c w) st c.identifier (entry_in st.entries o) ≡ Ok next
        → (n : ℕ) × (named next.entries st.scope (word c.identifier) ≡ Some n)
        × (worth_in (slice_get next.entries n) ≡ Some w)
    by w None none h =
        let one = entry_declared (const_meant c w) st.prefix st.scope c.identifier in
        let is : with_declared (const_meant c w) st c.identifier ≡ next = cc in
        let place : named (st.entries ++ one ∷ []) st.scope (word c.identifier) ≡ Some (length st.entries) =
        named_push st.entries one st.scope (word c.identifier)
        ∙ ap (λ o. or_place o (cond (is_named st.scope (word c.identifier) one) (Some (length st.entries)) None)) none
        ∙ ap (λ b. cond b (Some (length st.entries)) None) (same_name st.scope (word c.identifier)) in (
          length st.entries,
          ap (λ s. named s.entries st.scope (word c.identifier)) (sym is) ∙ place,
          ap (λ s. worth_in (slice_get s.entries (length st.entries))) (sym is)
              ∙ ap worth_in (get_push_last st.entries one),
        )
    by w (Some n) there h =
        let (e, here, in_scope) = named_entry st.entries st.scope (word c.identifier) n there in
        let again : (may_reappear Entries.Const e.kind && bytes_eq (word c.identifier) e.name) ≡ true =
        (appears Entries.Const st next c.identifier e (sym (ap (declares_over (const_meant c w) st c.identifier) here)
        ∙ h)).0 in
        let never : may_reappear Entries.Const e.kind ≡ true =
        (and_parts (may_reappear Entries.Const e.kind) (bytes_eq (word c.identifier) e.name) again).0 in
        let not_so = not_again e.kind in
        absurd cc
