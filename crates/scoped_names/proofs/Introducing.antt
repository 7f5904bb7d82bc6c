-- What a step introduces: what was known stays, what is introduced holds behind it, and clashes with nothing before.
use Rattle.std.proofs.Common.{◌≡◌, ◌∙◌, ◌<◌, ◌+◌, ◌⊎◌, inl, inr, arith, length-append, ℕ, zero, suc, Bool, true, false, not, cond, nat_eq, ◌&&◌, List, [], ◌∷◌, ◌++◌, length, map, get_or, position, slice_get, Option, Some, None, Result, Ok, Err, refl, sym, ap, subst}
use Rattle.std.specs.Prelude.{◌||◌, if◌then◌else◌}
use Rattle.std.specs.List.{AllByRecursion, Any, IsDistinct, list_any}
use Rattle.std.specs.Option.{option_map, option_or}
use Rattle.std.specs.Str.{bytes_eq, str_eq_ignore_ascii_case}
use Rattle.std.proofs.lemmas.Bool.{and_parts, eq-eqb, eqb-true}
use Rattle.std.proofs.Math.ListN.{get_or-append}
use Rattle.std.proofs.lemmas.List.{get_or-append-add, length-map}
use Rattle.std.proofs.lemmas.List.Folds.{list_any-append}
use Rattle.std.proofs.lemmas.List.Quantifiers.{position-Some}
use Rattle.std.proofs.lemmas.Option.{slice_get-get_or, slice_get-map, slice_get_within}
use Rattle.std.proofs.lemmas.Slice.Eq.{bytes_eq-Decides}
use Rattle.idl_tree.specs.declared.names.Leaf.{Leaf}
use Rattle.idl_tree.specs.declared.names.ScopedName.{ScopedName}
use Rattle.idl_tree.specs.Starts.{name_start, leaf_at as at}
use Rattle.name_table.specs.declared.entry.Base.{Base}
use Rattle.idl_tree.specs.declared.kinds.EntryKind.{EntryKind}
use Rattle.idl_tree.specs.declared.kinds.EntryKind.TheVariants as Entries
use Rattle.name_table.specs.declared.entry.Meaning.{Meaning}
use Rattle.idl_tree.specs.declared.names.At.{At}
use Rattle.scoped_names.specs.declared.fault.NameFault.{NameFault}
use Rattle.scoped_names.specs.declared.fault.NameFault.TheVariants.{Collides, PrefixDiffers}
use Rattle.name_table.specs.Entry.{Entry, is_named, named}
use Rattle.name_table.specs.Entries.{entry_declared, entry_with_base, with_base}
use Rattle.name_table.specs.Search.{word}
use Rattle.scoped_names.specs.Faults.{base_added, base_test, based, declared_as, declares_over, defined_here, entry_at, entry_in, free_test, is_defined, keeps_prefix, may_reappear, member_added, member_named, new_test, reappears, scope_at, taken_by, undefined_test, with_declared}
use Rattle.scoped_names.specs.Introductions.{Introduction, Stands, Has, Body, IsEntry, StandsFor, clashes, is_one_name}
use Rattle.scoped_names.specs.Reading.{Member, State, StateOrFault, Test, ◌>>◌, passed}
use Rattle.scoped_names.specs.Tests.{at_entry, resolved}
use Rattle.name_table.proofs.Lookups.{position_map}
use Rattle.name_table.proofs.MergedBases.{lower, named_case}
use Rattle.name_table.proofs.MoreBases.{map_like}
use Rattle.name_table.proofs.Stability.{get_push_last, get_push_low, named_push, or_place}

-- ---- lists

all_append : {X : Type 0} (P : X → Type 0) (xs ys : List X) → AllByRecursion P xs → AllByRecursion P ys
    → AllByRecursion P (xs ++ ys)
all_append P [] ys hs ks = ks
all_append P (x ∷ xs) ys (h, hs) ks = (h, all_append P xs ys hs ks)

pub all_map : {X : Type 0} (P Q : X → Type 0) → ((x : X) → P x → Q x) → (xs : List X) → AllByRecursion P xs
    → AllByRecursion Q xs
all_map P Q f [] hs = tt
all_map P Q f (x ∷ xs) (h, hs) = (f x h, all_map P Q f xs hs)

distinct_append : {X : Type 0} (eq : X → X → Bool) (xs ys : List X) → IsDistinct eq xs → IsDistinct eq ys
    → AllByRecursion (λ x. AllByRecursion (λ y. eq x y ≡ false) ys) xs → IsDistinct eq (xs ++ ys)
unfolding IsDistinct
distinct_append eq [] ys hs ks apart = ks
distinct_append eq (x ∷ xs) ys (h, hs) ks (first, rest) =
    (all_append (λ y. eq x y ≡ false) xs ys h first, distinct_append eq xs ys hs ks rest)

distinct_none : {X : Type 0} (eq : X → X → Bool) → IsDistinct eq []
unfolding IsDistinct
distinct_none eq = tt

distinct_one : {X : Type 0} (eq : X → X → Bool) (x : X) → IsDistinct eq (x ∷ [])
unfolding IsDistinct
distinct_one eq x = (tt, tt)

pub any_left : {X : Type 0} (P : X → Type 0) (xs ys : List X) → Any P xs → Any P (xs ++ ys)
any_left P xs ys (k, x, lt, is, holds) =
    let all = length-append xs ys in
    (k, x, omega arith, get_or-append xs ys x k lt ∙ is, holds)

pub any_right : {X : Type 0} (P : X → Type 0) (xs ys : List X) → Any P ys → Any P (xs ++ ys)
any_right P xs ys (k, x, lt, is, holds) =
    let all = length-append xs ys in
    (length xs + k, x, omega arith, get_or-append-add xs ys k x ∙ is, holds)

any_map : {X : Type 0} (P Q : X → Type 0) → ((x : X) → P x → Q x) → (xs : List X) → Any P xs → Any Q xs
any_map P Q f xs (k, x, lt, is, holds) = (k, x, lt, is, f x holds)

any_longer : {X : Type 0} (p : X → Bool) (xs ys : List X) → list_any p xs ≡ true → list_any p (xs ++ ys) ≡ true
any_longer p xs ys h = list_any-append p xs ys ∙ ap (λ b. b || list_any p ys) h

any_last : {X : Type 0} (p : X → Bool) (xs : List X) (y : X) → p y ≡ true → list_any p (xs ++ y ∷ []) ≡ true
any_last p xs y h = list_any-append p xs (y ∷ []) ∙ ap (λ b. list_any p xs || (b || false)) h ∙ by (list_any p xs)
  where
    by : (b : Bool) → (b || true) ≡ true
    by true = refl
    by false = refl

-- ---- one thing behind another

pub then_ok : {A B : Type 0} (r : Result A NameFault) (next : A → Result B NameFault) (y : B) → (r >> next) ≡ Ok y
    → (x : A) × (r ≡ Ok x) × (next x ≡ Ok y)
then_ok (Ok x) next y h = (x, refl, h)
then_ok (Err fault) next y h = absurd cc

-- what a test lets pass
pub passed_same : (st : State) (test : Test) (next : State) → passed st test ≡ Ok next → st ≡ next
passed_same st (Ok u) next h = cc
passed_same st (Err fault) next h = absurd cc

-- ---- what is known

-- of a state
pub record Known : Type 0 where
  pub entries : List Entry
  pub members : List Member
  pub defined : List ℕ

abbrev pub known : State → Known
known st = record { entries = st.entries; members = st.members; defined = st.defined }

abbrev pub has_member : List Member → ℕ → List ℕ → Bool
has_member members scope name = list_any (λ m. nat_eq scope m.scope && str_eq_ignore_ascii_case name m.name) members

abbrev pub has_body : List ℕ → ℕ → Bool
has_body bodies scope = list_any (λ s. nat_eq scope s) bodies

abbrev pub Holds : Known → Introduction → Type 0
Holds st (Stands scope l kind) = IsEntry st.entries (Stands scope l kind)
Holds st (Has scope l) = has_member st.members scope (word l) ≡ true
Holds st (Body scope) = has_body st.defined scope ≡ true

-- an entry stays where it is, with its kind and its name
abbrev pub Stays : List Entry → ℕ → Entry → Type 0
Stays es n e = (f : Entry) × (slice_get es n ≡ Some f) × (f.kind ≡ e.kind) × (f.name ≡ e.name)

-- the names of scopes stay those of their entries
abbrev pub Keeps : List Entry → List Entry → Type 0
Keeps es fs = (scope : ℕ) (name : List ℕ) (n : ℕ) → named es scope name ≡ Some n → named fs scope name ≡ Some n

pub record Grows (st next : Known) : Type 0 where
  pub names : Keeps st.entries next.entries
  pub entries : (n : ℕ) (e : Entry) → slice_get st.entries n ≡ Some e → Stays next.entries n e
  pub members : (scope : ℕ) (name : List ℕ) → has_member st.members scope name ≡ true
      → has_member next.members scope name ≡ true
  pub defined : (scope : ℕ) → has_body st.defined scope ≡ true → has_body next.defined scope ≡ true

kept : (st next : Known) → Grows st next → (x : Introduction) → Holds st x → Holds next x
kept st next g (Stands scope l kind) (n, e, there, here, kind_is, name_is) =
    let (f, here_next, same_kind, same_name) = g.entries n e here in
    (n, f, g.names scope (word l) n there, here_next, same_kind ∙ kind_is, same_name ∙ name_is)
kept st next g (Has scope l) h = g.members scope (word l) h
kept st next g (Body scope) h = g.defined scope h

pub grows_none : (st : Known) → Grows st st
grows_none st = record {
  names = λ scope name n h. h;
  entries = λ n e h. (e, h, refl, refl);
  members = λ scope name h. h;
  defined = λ scope h. h;
}

pub grows_on : (st mid next : Known) → Grows st mid → Grows mid next → Grows st next
grows_on st mid next g h = record {
  names = λ scope name n is. h.names scope name n (g.names scope name n is);
  entries = λ n e is.
      let (f, here, kind, name) = g.entries n e is in
      let (k, there, same_kind, same_name) = h.entries n f here in
      (k, there, same_kind ∙ kind, same_name ∙ name);
  members = λ scope name is. h.members scope name (g.members scope name is);
  defined = λ scope is. h.defined scope (g.defined scope is);
}

pub keeps_on : (es fs gs : List Entry) → Keeps es fs → Keeps fs gs → Keeps es gs
keeps_on es fs gs one other scope name n h = other scope name n (one scope name n h)

-- an entry was there before, or an identifier that is introduced stands for it
abbrev pub IsKnown : Known → List Introduction → Known → ℕ → Type 0
IsKnown st xs next n = (n < length st.entries) ⊎ Any (StandsFor next.entries n) xs

-- what is introduced between what is known before and behind
pub record Adds (st : Known) (xs : List Introduction) (next : Known) : Type 0 where
  pub grows : Grows st next
  pub holds : AllByRecursion (Holds next) xs
  pub apart : IsDistinct clashes xs
  pub new : (x : Introduction) → Holds st x → AllByRecursion (λ y. clashes x y ≡ false) xs
  pub only : (n : ℕ) → n < length next.entries → IsKnown st xs next n

adds_grown : (st next : Known) → Grows st next → length next.entries ≡ length st.entries → Adds st [] next
adds_grown st next g same =
    record { grows = g; holds = tt; apart = distinct_none clashes; new = λ x h. tt; only = λ n lt. inl (omega arith) }

pub adds_none : (st : Known) → Adds st [] st
adds_none st = adds_grown st st (grows_none st) refl

-- what stands for an entry still does
still_for : (es fs : List Entry) → Keeps es fs → (n : ℕ) (x : Introduction) → StandsFor es n x → StandsFor fs n x
still_for es fs keeps n (Stands scope l kind) h = keeps scope (word l) n h
still_for es fs keeps n (Has scope l) h = h
still_for es fs keeps n (Body scope) h = h

known_by_both : (st mid next : Known) (xs ys : List Introduction) → Adds st xs mid → Adds mid ys next → (n : ℕ)
    → IsKnown mid ys next n → IsKnown st (xs ++ ys) next n
known_by_both st mid next xs ys a b n (inr any) = inr (any_right (StandsFor next.entries n) xs ys any)
known_by_both st mid next xs ys a b n (inl lt) = by (a.only n lt)
  where
    by : IsKnown st xs mid n → IsKnown st (xs ++ ys) next n
    by (inl before) = inl before
    by (inr any) =
        let still = any_map (StandsFor mid.entries n) (StandsFor next.entries n)
        (still_for mid.entries next.entries b.grows.names n) xs any in
        inr (any_left (StandsFor next.entries n) xs ys still)

pub adds_both : (st mid next : Known) (xs ys : List Introduction) → Adds st xs mid → Adds mid ys next
    → Adds st (xs ++ ys) next
adds_both st mid next xs ys a b = record {
  grows = grows_on st mid next a.grows b.grows;
  holds = all_append (Holds next) xs ys (all_map (Holds mid) (Holds next) (kept mid next b.grows) xs a.holds) b.holds;
  apart = distinct_append clashes xs ys a.apart b.apart
      (all_map (Holds mid) (λ x. AllByRecursion (λ y. clashes x y ≡ false) ys) b.new xs a.holds);
  new = λ x h. all_append (λ y. clashes x y ≡ false) xs ys (a.new x h) (b.new x (kept st mid a.grows x h));
  only = λ n lt. known_by_both st mid next xs ys a b n (b.only n lt);
}

adds_one : (st next : Known) (y : Introduction) → Grows st next → Holds next y
    → ((x : Introduction) → Holds st x → clashes x y ≡ false)
    → ((n : ℕ) → n < length next.entries → (n < length st.entries) ⊎ StandsFor next.entries n y) → Adds st (y ∷ []) next
adds_one st next y g h new only = record {
  grows = g;
  holds = (h, tt);
  apart = distinct_one clashes y;
  new = λ x is. (new x is, tt);
  only = λ n lt. by n (only n lt);
}
  where
    by : (n : ℕ) → (n < length st.entries) ⊎ StandsFor next.entries n y → IsKnown st (y ∷ []) next n
    by n (inl before) = inl before
    by n (inr is) = inr (0, y, omega arith, refl, is)

-- the same, where the next step is done in the same scope
pub record Does (st : State) (xs : List Introduction) (next : State) : Type 0 where
  pub adds : Adds (known st) xs (known next)
  pub scope : next.scope ≡ st.scope

pub does_none : (st next : State) → st ≡ next → Does st [] next
does_none st next is = subst (Does st []) is (record { adds = adds_none (known st); scope = refl })

-- ---- names

blank : Entry
blank = record {
  scope = 0;
  name = [];
  token = 0;
  kind = Entries.Module;
  bases = [];
  worth = None;
  stands_for =
      None;
  line = 0;
  identifier = 0;
  prefix = [];
}

-- the entry that a name of a scope is
pub named_entry : (es : List Entry) (scope : ℕ) (name : List ℕ) (n : ℕ) → named es scope name ≡ Some n
    → (e : Entry) × (slice_get es n ≡ Some e) × (scope ≡ e.scope)
named_entry es scope name n h =
    let there = position-Some (is_named scope name) es n blank h in
    let e = get_or es n blank in (
      e,
      slice_get-get_or es n blank there.0,
      eqb-true scope e.scope
          (and_parts (nat_eq scope e.scope) (str_eq_ignore_ascii_case name e.name) there.1).0,
    )

spelled_alike : (a b : List ℕ) → str_eq_ignore_ascii_case a b ≡ true → lower a ≡ lower b
spelled_alike a b h = (bytes_eq-Decides (lower a) (lower b)).0 h

member_alike : (members : List Member) (scope : ℕ) (a b : List ℕ) → lower a ≡ lower b
    → has_member members scope a ≡ has_member members scope b
member_alike members scope a b same =
    ap (λ w. list_any (λ m. nat_eq scope m.scope && bytes_eq w (lower m.name)) members) same

pub same_name : (scope : ℕ) (w : List ℕ) → (nat_eq scope scope && str_eq_ignore_ascii_case w w) ≡ true
same_name scope w = ap (λ b. b && str_eq_ignore_ascii_case w w) (eq-eqb scope scope refl)
    ∙ (bytes_eq-Decides (lower w) (lower w)).1 refl

-- a test of one name in one scope: it fails, or the names are one
one_name : (scope : ℕ) (l : Leaf) (other : ℕ) (m : Leaf) (rest : Bool)
    → (scope ≡ other → lower (word l) ≡ lower (word m) → rest ≡ false)
    → (is_one_name scope l other m && rest) ≡ false
one_name scope l other m rest fails = by (nat_eq scope other) (str_eq_ignore_ascii_case (word l) (word m)) refl refl
  where
    by : (a b : Bool) → nat_eq scope other ≡ a → str_eq_ignore_ascii_case (word l) (word m) ≡ b
        → ((a && b) && rest) ≡ false
    by false b s n = refl
    by true false s n = refl
    by true true s n = fails (eqb-true scope other s) (spelled_alike (word l) (word m) n)

apart_names : (scope : ℕ) (l : Leaf) (other : ℕ) (m : Leaf) → (scope ≡ other → lower (word l) ≡ lower (word m) → ⊥)
    → is_one_name scope l other m ≡ false
apart_names scope l other m differ = by (nat_eq scope other) (str_eq_ignore_ascii_case (word l) (word m)) refl refl
  where
    by : (a b : Bool) → nat_eq scope other ≡ a → str_eq_ignore_ascii_case (word l) (word m) ≡ b → (a && b) ≡ false
    by false b s n = refl
    by true false s n = refl
    by true true s n = absurd (differ (eqb-true scope other s) (spelled_alike (word l) (word m) n))

-- ---- names that are free

or_none : (a b : Option At) → option_or a b ≡ None → (a ≡ None) × (b ≡ None)
or_none None b h = (refl, h)
or_none (Some x) b h = absurd cc

is_free : (l : Leaf) (taken : Option At) (u : Unit {0}) → free_test l taken ≡ Ok u → taken ≡ None
is_free l None u h = refl
is_free l (Some other) u h = absurd cc

no_member : (members : List Member) (scope : ℕ) (name : List ℕ) → member_named members scope name ≡ None
    → has_member members scope name ≡ false
no_member [] scope name h = refl
no_member (m ∷ ms) scope name h =
    by (nat_eq scope m.scope && str_eq_ignore_ascii_case name m.name) (no_member ms scope name) h
  where
    by : (b : Bool) → (member_named ms scope name ≡ None → has_member ms scope name ≡ false)
        → (let o : Option At = if b then Some m.at else member_named ms scope name in o) ≡ None
        → (b || has_member ms scope name) ≡ false
    by true rest h = absurd cc
    by false rest h = rest h

untaken : (st : State) (name : List ℕ) → taken_by st name ≡ None → has_member st.members st.scope name ≡ false
untaken st name h = no_member st.members st.scope name (or_none _ _ h).1

-- a member or a parameter doesn't clash with what is no member of its scope
free_of_members : (st : State) (l : Leaf) → has_member st.members st.scope (word l) ≡ false
    → (s : ℕ) (k : Leaf) → has_member st.members s (word k) ≡ true → is_one_name s k st.scope l ≡ false
free_of_members st l free s k has =
    apart_names s k st.scope l (λ s_is alike.
    let here : has_member st.members st.scope (word l) ≡ true =
    sym (ap (λ i. has_member st.members i (word l)) s_is) ∙ member_alike st.members s (word l) (word k) (sym alike)
    ∙ has in
    cc)

-- ---- what a declaration introduces

-- what appears again is of the kind and spelling, and nothing changes
pub appears : (kind : EntryKind) (st next : State) (l : Leaf) (e : Entry) → reappears kind st l e ≡ Ok next
    → ((may_reappear kind e.kind && bytes_eq (word l) e.name) ≡ true) × (st ≡ next)
appears kind st next l e h =
    by (may_reappear kind e.kind && bytes_eq (word l) e.name) (keeps_prefix kind && not (bytes_eq st.prefix e.prefix))
    refl h
  where
    by : (a b : Bool) → (may_reappear kind e.kind && bytes_eq (word l) e.name) ≡ a
        → (let r : StateOrFault = if not a then Err (Collides (at l) (at_entry (Some e))) else if b then
        Err (PrefixDiffers (at l) (at_entry (Some e))) else Ok st in r) ≡ Ok next
        → ((may_reappear kind e.kind && bytes_eq (word l) e.name) ≡ true) × (st ≡ next)
    by false b is h = absurd cc
    by true true is h = absurd cc
    by true false is h = (is, cc)

-- only what is of one kind appears again
one_kind : (kind other : EntryKind) → may_reappear kind other ≡ true → other ≡ kind
one_kind Entries.Module Entries.Module h = refl
one_kind Entries.Interface Entries.Interface h = refl
one_kind Entries.Struct Entries.Struct h = refl
one_kind Entries.Union Entries.Union h = refl
one_kind kind other h = absurd cc

none_some : (o : Option ℕ) (n : ℕ) → o ≡ None → o ≡ Some n → ⊥
none_some o n none some = cc

pub below_or_last : (n k : ℕ) → n < suc k → (n < k) ⊎ (k ≡ n)
below_or_last n k lt = grind arith

-- one more entry
module _ (m : Meaning) (st : State) (l : Leaf) (none : named st.entries st.scope (word l) ≡ None) where
  abbrev added : Entry
  added = entry_declared m st.prefix st.scope l

  grown : Grows (known st) (known (with_declared m st l))
  grown = record {
    names = λ s name n h.
        named_push st.entries added s name
        ∙ ap (λ o. or_place o (cond (is_named s name added) (Some (length st.entries)) None)) h;
    entries = λ n e h. (e, get_push_low st.entries added n (slice_get_within st.entries n e h) ∙ h, refl, refl);
    members = λ s name h. h;
    defined = λ s h. h;
  }

  place : named (with_declared m st l).entries st.scope (word l) ≡ Some (length st.entries)
  place =
      named_push st.entries added st.scope (word l)
      ∙ ap (λ o. or_place o (cond (is_named st.scope (word l) added) (Some (length st.entries)) None)) none
      ∙ ap (λ b. cond b (Some (length st.entries)) None) (same_name st.scope (word l))

  stands : Holds (known (with_declared m st l)) (Stands st.scope l m.kind)
  stands = (length st.entries, added, place, get_push_last st.entries added, refl, refl)

  last_one : (n : ℕ) → n < length (st.entries ++ added ∷ []) → (n < length st.entries)
      ⊎ (named (st.entries ++ added ∷ []) st.scope (word l) ≡ Some n)
  last_one n lt = by (below_or_last n (length st.entries) (let all = length-append st.entries (added ∷ []) in
      omega arith))
    where
      by : (n < length st.entries) ⊎ (length st.entries ≡ n) → (n < length st.entries)
          ⊎ (named (st.entries ++ added ∷ []) st.scope (word l) ≡ Some n)
      by (inl before) = inl before
      by (inr is) = inr (place ∙ ap Some is)

-- what was introduced doesn't clash with what is declared now
module _ (m : Meaning) (st next : State) (l : Leaf) (free : has_member st.members st.scope (word l) ≡ false)
    (h : declares_over m st l (entry_in st.entries (named st.entries st.scope (word l))) ≡ Ok next) where
  again : (n : ℕ) (e : Entry) → named st.entries st.scope (word l) ≡ Some n → slice_get st.entries n ≡ Some e
      → ((may_reappear m.kind e.kind && bytes_eq (word l) e.name) ≡ true) × (st ≡ next)
  again n e there here =
      appears m.kind st next l e (sym (ap (declares_over m st l) (ap (entry_in st.entries) there ∙ here)) ∙ h)

  no_clash : (x : Introduction) → Holds (known st) x → clashes x (Stands st.scope l m.kind) ≡ false
  no_clash (Stands s k kind) (n, e, there, here, kind_is, name_is) =
      one_name s k st.scope l (not (may_reappear m.kind kind && bytes_eq (word l) (word k))) (λ s_is alike.
      let place : named st.entries st.scope (word l) ≡ Some n =
      sym (ap (λ i. named st.entries i (word l)) s_is) ∙ named_case st.entries (word l) (word k) (sym alike) s
      ∙ there in
      ap not (sym (ap (λ j. may_reappear m.kind j && bytes_eq (word l) e.name) kind_is
      ∙ ap (λ w. may_reappear m.kind kind && bytes_eq (word l) w) name_is)
      ∙ (again n e place here).0))
  no_clash (Has s k) has = free_of_members st l free s k has
  no_clash (Body s) has = refl

  declares_does : Does st (Stands st.scope l m.kind ∷ []) next
  declares_does = by (named st.entries st.scope (word l)) refl
    where
      by : (o : Option ℕ) → named st.entries st.scope (word l) ≡ o → Does st (Stands st.scope l m.kind ∷ []) next
      by None none =
          let is : with_declared m st l ≡ next =
          (let r : declares_over m st l None ≡ Ok next =
          sym (ap (λ o. declares_over m st l (entry_in st.entries o)) none) ∙ h in cc) in
          subst (Does st (Stands st.scope l m.kind ∷ [])) is (record {
            adds = adds_one (known st) (known (with_declared m st l)) (Stands st.scope l m.kind) (grown m st l none)
                (stands m st l none) no_clash (last_one m st l none);
            scope = refl;
          })
      by (Some n) there =
          let (e, here, in_scope) = named_entry st.entries st.scope (word l) n there in
          let (is, same) = again n e there here in
          let two = and_parts (may_reappear m.kind e.kind) (bytes_eq (word l) e.name) is in
          let holds : Holds (known st) (Stands st.scope l m.kind) =
          (n, e, there, here, one_kind m.kind e.kind two.0, sym ((bytes_eq-Decides (word l) e.name).0 two.1)) in
          subst (Does st (Stands st.scope l m.kind ∷ [])) same (record {
            adds = adds_one (known st) (known st) (Stands st.scope l m.kind) (grows_none (known st)) holds no_clash
                (λ n lt. inl lt);
            scope = refl;
          })

pub declared_does : (m : Meaning) (st next : State) (l : Leaf) → declared_as m st l ≡ Ok next
    → Does st (Stands st.scope l m.kind ∷ []) next
declared_does m st next l h =
    let (u, test, rest) = then_ok (free_test l (taken_by st (word l)))
    (λ u. declares_over m st l (entry_in st.entries (named st.entries st.scope (word l)))) next h in
    declares_does m st next l (untaken st (word l) (is_free l (taken_by st (word l)) u test)) rest

-- ---- members

entry_none : (es : List Entry) (o : Option ℕ) → ((n : ℕ) → o ≡ Some n → (e : Entry) × (slice_get es n ≡ Some e))
    → entry_at es o ≡ None → o ≡ None
entry_none es None there h = refl
entry_none es (Some n) there h = let (e, here) = there n refl in let some = ap at_entry here in absurd cc

pub member_does : (st next : State) (l : Leaf) → member_added st l ≡ Ok next → Does st (Has st.scope l ∷ []) next
member_does st next l h =
    let more : State = record st { members = st.members ++ record { scope = st.scope; name = word l; at = at l } ∷ [] }
    in
    let (u, test, rest) = then_ok (new_test st l) (λ u. let r : StateOrFault = Ok more in r) next h in
    let free = or_none (taken_by st (word l)) (entry_at st.entries (named st.entries st.scope (word l)))
    (is_free l _ u test) in
    let none = entry_none st.entries (named st.entries st.scope (word l))
    (λ n there. let (e, here, in_scope) = named_entry st.entries st.scope (word l) n there in (e, here)) free.1 in
    let is : more ≡ next = cc in
    let grows : Grows (known st) (known more) = record {
      names = λ s name n h. h;
      entries = λ n e h. (e, h, refl, refl);
      members = λ s name h. any_longer _ st.members _ h;
      defined = λ s h. h;
    } in
    let last = any_last (λ m. nat_eq st.scope m.scope && str_eq_ignore_ascii_case (word l) m.name) st.members _
    (same_name st.scope (word l)) in
    subst (Does st (Has st.scope l ∷ [])) is (record {
      adds = adds_one (known st) (known more) (Has st.scope l) grows last (clash (untaken st (word l) free.0) none)
          (λ n lt. inl lt);
      scope = refl;
    })
  where
    clash : has_member st.members st.scope (word l) ≡ false → named st.entries st.scope (word l) ≡ None
        → (x : Introduction) → Holds (known st) x → clashes x (Has st.scope l) ≡ false
    clash free none (Stands s k kind) (n, e, there, here, kind_is, name_is) =
        apart_names s k st.scope l (λ s_is alike.
        none_some (named st.entries st.scope (word l)) n none
        (sym (ap (λ i. named st.entries i (word l)) s_is) ∙ named_case st.entries (word l) (word k) (sym alike) s
        ∙ there))
    clash free none (Has s k) has = free_of_members st l free s k has
    clash free none (Body s) has = refl

-- ---- bodies

undefined_is : (st : State) (scope : ℕ) (l : Leaf) (u : Unit {0}) → undefined_test st scope l ≡ Ok u
    → has_body st.defined scope ≡ false
undefined_is st scope l u passes = by (is_defined st scope) passes
  where
    by : (b : Bool) → (let t : Test = if b then Err (Collides (at l) (scope_at st.entries scope)) else Ok tt in t)
        ≡ Ok u → b ≡ false
    by true h = absurd cc
    by false h = refl

pub defined_does : (st next : State) (l : Leaf) → defined_here st l ≡ Ok next → Does st (Body st.scope ∷ []) next
defined_does st next l h =
    let more : State = record st { defined = st.defined ++ st.scope ∷ [] } in
    let (u, test, rest) = then_ok (undefined_test st st.scope l) (λ u. let r : StateOrFault = Ok more in r) next h in
    let is : more ≡ next = cc in
    let grows : Grows (known st) (known more) = record {
      names = λ s name n h. h;
      entries = λ n e h. (e, h, refl, refl);
      members = λ s name h. h;
      defined = λ s h. any_longer (λ x. nat_eq s x) st.defined _ h;
    } in
    let last = any_last (λ s. nat_eq st.scope s) st.defined st.scope (eq-eqb st.scope st.scope refl) in
    subst (Does st (Body st.scope ∷ [])) is (record {
      adds = adds_one (known st) (known more) (Body st.scope) grows last (clash (undefined_is st st.scope l u test))
          (λ n lt. inl lt);
      scope = refl;
    })
  where
    clash : has_body st.defined st.scope ≡ false → (x : Introduction) → Holds (known st) x
        → clashes x (Body st.scope) ≡ false
    clash none (Stands s k kind) has = refl
    clash none (Has s k) has = refl
    clash none (Body s) has = by (nat_eq s st.scope) refl
      where
        by : (b : Bool) → nat_eq s st.scope ≡ b → b ≡ false
        by false is = refl
        by true is =
            let there : has_body st.defined st.scope ≡ true =
            subst (λ i. has_body st.defined i ≡ true) (eqb-true s st.scope is) has in cc

-- ---- bases

abbrev bare : Entry → Entry
bare e = record e { bases = [] }

module _ (es : List Entry) (base : Base) where
  bare_like : (inner : ℕ) → map bare (with_base es inner base) ≡ map bare es
  bare_like zero = refl
  bare_like (suc e) = by (slice_get es e) refl
    where
      by : (o : Option Entry) → slice_get es e ≡ o → map bare (entry_with_base es e base o) ≡ map bare es
      by None h = refl
      by (Some x) h = map_like bare es e x (record x { bases = x.bases ++ base ∷ [] }) h refl

  names_like : (inner s : ℕ) (name : List ℕ) → named (with_base es inner base) s name ≡ named es s name
  names_like inner s name =
      sym (position_map (is_named s name) bare (with_base es inner base))
      ∙ ap (position (is_named s name)) (bare_like inner) ∙ position_map (is_named s name) bare es

  length_like : (inner : ℕ) → length (with_base es inner base) ≡ length es
  length_like inner = sym (length-map (with_base es inner base) bare) ∙ ap length (bare_like inner) ∙ length-map es bare

  stays : (inner n : ℕ) (e : Entry) → slice_get es n ≡ Some e → Stays (with_base es inner base) n e
  stays inner n e h = by (slice_get (with_base es inner base) n) refl
    where
      same : option_map bare (slice_get (with_base es inner base) n) ≡ Some (bare e)
      same =
          sym (slice_get-map bare (with_base es inner base) n) ∙ ap (λ xs. slice_get xs n) (bare_like inner)
          ∙ slice_get-map bare es n ∙ ap (option_map bare) h

      by : (o : Option Entry) → slice_get (with_base es inner base) n ≡ o → Stays (with_base es inner base) n e
      by None is = let there = same in let none = ap (option_map bare) is in absurd cc
      by (Some f) is =
          let there = same in
          let some = ap (option_map bare) is in
          let like : bare f ≡ bare e = cc in
          (f, is, ap (λ x. x.kind) like, ap (λ x. x.name) like)

based_grows : (st : State) (inner : ℕ) (base : Base) → Grows (known st) (known (based st inner base))
based_grows st inner base = record {
  names = λ s name n h. names_like st.entries base inner s name ∙ h;
  entries = λ n e h. stays st.entries base inner n e h;
  members = λ s name h. h;
  defined = λ s h. h;
}

pub base_does : (st next : State) (inner : ℕ) (name : ScopedName) → base_added st inner name ≡ Ok next → Does st [] next
base_does st next inner name h =
    let (e, finds, rest) = then_ok (resolved st.entries st.scope name) (λ e.
    let base : Base = record { token = (name_start name).number; entry = e } in
    base_test st inner base (at (name_start name)) >> λ u. let r : StateOrFault = Ok (based st inner base) in r) next h
    in
    let base : Base = record { token = (name_start name).number; entry = e } in
    let (u, test, based_is) =
    then_ok (base_test st inner base (at (name_start name)))
    (λ u. let r : StateOrFault = Ok (based st inner base) in r) next rest in
    let is : based st inner base ≡ next = cc in
    subst (Does st []) is (record {
      adds =
          adds_grown (known st) (known (based st inner base)) (based_grows st inner base)
          (length_like st.entries base inner);
      scope = refl;
    })
