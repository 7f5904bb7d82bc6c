-- What names and expressions give where the steps that ask for them are settled.
use Rattle.std.proofs.Common.{◌≡◌, ◌∙◌, ◌⊎◌, inl, inr, ℕ, ◌<◌, ◌≤◌, Bool, true, false, nat_lt, List, [], ◌∷◌, ◌++◌, length, map, Option, Some, None, Result, Ok, refl, sym, ap, subst, arith}
use Rattle.std.specs.Prelude.{slice_get, slice_set, ℤ, pos, negsuc}
use Rattle.std.specs.List.{AllByRecursion, flat_map}
use Rattle.std.proofs.lemmas.Bool.{ltb-true}
use Rattle.std.proofs.lemmas.Option.{slice_get_within}
use Rattle.idl_tree.specs.declared.names.Leaf.{Leaf}
use Rattle.idl_tree.specs.declared.names.ScopedName.{ScopedName}
use Rattle.idl_tree.specs.declared.expression.Expr.{Expr}
use Rattle.idl_tree.specs.Starts.{expr_start, leaf_at as at}
use Rattle.type_graph.specs.GraphRules.{IsPart}
use Rattle.name_table.specs.Arithmetic.{where_true}
use Rattle.name_table.specs.Worth.{positive, whole_number}
use Rattle.idl_tree.specs.declared.kinds.EntryKind.{EntryKind}
use Rattle.idl_tree.specs.declared.kinds.EntryKind.TheVariants as Kinds
use Rattle.name_table.specs.Entry.{Entry, named}
use Rattle.name_table.specs.Search.{word}
use Rattle.scoped_names.specs.declared.fault.NameFault.{NameFault}
use Rattle.idl_tree.specs.declared.names.At.{At}
use Rattle.scoped_names.specs.declared.fault.Flaw.{Flaw}
use Rattle.scoped_names.specs.declared.fault.Flaw.TheVariants.{NotPositive}
use Rattle.scoped_names.specs.Faults.{has_body, may_reappear}
use Rattle.scoped_names.specs.Holding.{Holds}
use Rattle.scoped_names.specs.Introductions.{Introduction, Stands, Has, IsEntry, introduced_by, scope_behind}
use Rattle.name_steps.specs.Steps.{Step, Declares, DeclaresEnum, DeclaresEnumerator, DeclaresTypedef, DeclaresConst, DeclaresFeature, HasMember, Defines, NamesType, IsSize}
use Rattle.scoped_names.specs.Tests.{is_of, is_type, or_bad, size_read, value_read}
use Rattle.scoped_names.proofs.Introducing.{then_ok}
use Rattle.scoped_names.proofs.OnlyMemory.{finds_one, there_is}
use Rattle.lowered_types.specs.declared.place.Place.{Place}
use Rattle.lowered_types.specs.declared.place.Place.TheVariants.{Raised, Typed}
use Rattle.lowered_types.specs.Faults.{of_names, or_other}
use Rattle.lowered_types.specs.Sound.{IsPlaceAmong}
use Rattle.lowered_types.specs.SimpleTypes.{entry_found, entry_of, type_found}
use Rattle.lowered_types.specs.Lowered.{Lowered, placed, type_in, type_of}
use Rattle.lowered_types.proofs.Keeping.{HasPlace, HasType, IsException, Keeps, Later, NeedsNothing, more_known}
use Rattle.lowered_types.proofs.Settled.{AllNew, AllSettled, IsBody, IsDone, Known, Settled, behind, onto}
use Rattle.lowered_types.proofs.Spots.{there_at}
use Rattle.lowered_types.proofs.Walks.{goes_on}
use Rattle.lowered_types.proofs.Lowering.{Widens, place_kept, place_later, placed_is, with_placed}

-- ---- what is declared

-- the entry that an identifier is declared as
pub record Entered (es : List Entry) (g : List Introduction) (scope : ℕ) (l : Leaf) (kind : EntryKind) : Type 0 where
  pub entry : ℕ
  pub value : Entry
  pub is : named es scope (word l) ≡ Some entry
  pub there : slice_get es entry ≡ Some value
  pub kind_is : value.kind ≡ kind
  pub new : Known es g entry → may_reappear kind kind ≡ true

pub entered : (es : List Entry) (g : List Introduction) (scope : ℕ) (l : Leaf) (kind : EntryKind)
    → IsEntry es (Stands scope l kind) → AllNew es g (Stands scope l kind ∷ [])
    → Entered es g scope l kind
entered es g scope l kind (n, e, is, at, kind_is, name_is) new =
    record { entry = n; value = e; is = is; there = at; kind_is = kind_is; new = new.0 n is }

pub entry_is : (es : List Entry) (scope : ℕ) (l : Leaf) (e : ℕ) → named es scope (word l) ≡ Some e
    → entry_of es scope l ≡ Ok e
entry_is es scope l e is = ap or_other is

-- what may not appear again is new
pub unknown : {es : List Entry} {g : List Introduction} {scope : ℕ} {l : Leaf} {kind : EntryKind}
    (d : Entered es g scope l kind) → may_reappear kind kind ≡ false → Known es g d.entry → ⊥
unknown d once knows = let again = d.new knows in cc

-- an entry that isn't known has nothing
pub unplaced : (es : List Entry) (g : List Introduction) (begun : ℕ → Type 0) (w : Lowered) (e : ℕ) (x : Entry)
    → Keeps es g begun w → slice_get es e ≡ Some x
    → (Known es g e → ⊥) → slice_get w.places e ≡ Some None
unplaced es g begun w e x i at new =
    let within = slice_get_within es e x at in
    let long = i.long in
    let (o, is) = there_at w.places e (omega (arith, within, long)) in
    by o is
  where
    by : (o : Option Place) → slice_get w.places e ≡ Some o → slice_get w.places e ≡ Some None
    by None is = is
    by (Some p) is = absurd (new (i.known e p is))

pub widens : (es : List Entry) (g : List Introduction) (scope : ℕ) (l : Leaf) (kind : EntryKind) (e : ℕ)
    → named es scope (word l) ≡ Some e → Widens es g e (Stands scope l kind ∷ g)
widens es g scope l kind e is =
    record {
      grows = λ f k. inr k;
      only = λ f k. by f k;
      here = inl is;
      done = λ s d. inr d;
      undone =
          λ s d. undone s d;
    }
  where
    by : (f : ℕ) → (named es scope (word l) ≡ Some f) ⊎ Known es g f → (f ≡ e) ⊎ Known es g f
    by f (inl stands) = let same : f ≡ e = cc in inl same
    by f (inr k) = inr k

    undone : (s : ℕ) → IsBody s (Stands scope l kind) ⊎ IsDone g s → IsDone g s
    undone s (inl never) = absurd never
    undone s (inr d) = d

pub exceptions_stay : (es : List Entry) (g : List Introduction) (begun : ℕ → Type 0) (w : Lowered) (e : ℕ) (p : Place)
    → Keeps es g begun w → slice_get w.places e ≡ Some None
    → (k : ℕ) (y : ℕ × ℕ) → slice_get w.exceptions k ≡ Some y → IsException (slice_set w.places e (Some p)) w.nodes k y
exceptions_stay es g begun w e p i none k y is =
    let old = i.exceptions k y is in
    record {
      place = (place_later w e p w.exceptions none (omega arith)).places y.0 (Raised y.1 k) old.place;
      frame = old.frame;
    }

-- a name for a type
pub record Goes (es : List Entry) (g : List Introduction) (begun : ℕ → Type 0) (w v : Lowered) : Type 0 where
  pub keeps : Keeps es g begun v
  pub later : Later w v

abbrev pub takes_type : EntryKind → Bool
takes_type Kinds.Enum = true
takes_type Kinds.Typedef = true
takes_type kind = false

typed_kind : (kind : EntryKind) (b : Type 0) (n : ℕ) → takes_type kind ≡ true → HasPlace kind b (Some (Some (Typed n)))
typed_kind Kinds.Enum b n is = (n, refl)
typed_kind Kinds.Typedef b n is = (n, refl)
typed_kind kind b n is = absurd cc

bodiless : (kind : EntryKind) → takes_type kind ≡ true → has_body kind ≡ false
bodiless Kinds.Enum is = refl
bodiless Kinds.Typedef is = refl
bodiless kind is = absurd cc

once : (kind : EntryKind) → takes_type kind ≡ true → may_reappear kind kind ≡ false
once Kinds.Enum is = refl
once Kinds.Typedef is = refl
once kind is = absurd cc

-- a name that is new has its place from here on
pub place_given : (es : List Entry) (g : List Introduction) (begun : ℕ → Type 0) (w : Lowered) (scope : ℕ) (l : Leaf)
    (kind : EntryKind) (p : Place) (d : Entered es g scope l kind)
    → Keeps es g begun w → (Known es g d.entry → ⊥) → has_body kind ≡ false
    → HasPlace kind (begun d.entry) (Some (Some p)) → IsPlaceAmong w.nodes (length w.exceptions) p
    → (placed w d.entry p ≡ Ok (with_placed w d.entry p w.exceptions))
    × Goes es (Stands scope l kind ∷ g) begun w (with_placed w d.entry p w.exceptions)
place_given es g begun w scope l kind p d i new bodiless has right =
    let none = unplaced es g begun w d.entry d.value i d.there new in
    let le : length w.exceptions ≤ length w.exceptions = omega arith in
    let not_begun : begun d.entry → ⊥ = λ b. new (i.begun_known d.entry b) in
    let has_it : HasPlace d.value.kind (begun d.entry) (Some (Some p)) =
    subst (λ k. HasPlace k (begun d.entry) (Some (Some p))) (sym d.kind_is) has in (
      placed_is w d.entry p none,
      record {
        keeps = place_kept es g (Stands scope l kind ∷ g) begun begun w d.entry d.value p w.exceptions i
            (widens es g scope l kind d.entry d.is) none d.there
            (ap has_body d.kind_is ∙ bodiless) has_it not_begun (λ f b. b) (λ f differs b. b) le i.sound.exceptions
            right (exceptions_stay es g begun w d.entry p i none);
        later = place_later w d.entry p w.exceptions none le;
      },
    )

pub type_named : (es : List Entry) (g : List Introduction) (begun : ℕ → Type 0) (w : Lowered) (scope : ℕ) (l : Leaf)
    (kind : EntryKind) (n : ℕ) (d : Entered es g scope l kind)
    → Keeps es g begun w → takes_type kind ≡ true → IsPart w.nodes n
    → (placed w d.entry (Typed n) ≡ Ok (with_placed w d.entry (Typed n) w.exceptions))
    × Goes es (Stands scope l kind ∷ g) begun w (with_placed w d.entry (Typed n) w.exceptions)
type_named es g begun w scope l kind n d i takes part =
    place_given es g begun w scope l kind (Typed n) d i (unknown d (once kind takes)) (bodiless kind takes)
    (typed_kind kind (begun d.entry) n takes) part

-- ---- what names find

placed_type : (kind : EntryKind) (b : Type 0) (o : Option (Option Place)) → is_type kind ≡ true → HasPlace kind b o
    → HasType o
placed_type Kinds.Interface b o is h = (13, h)
placed_type Kinds.Struct b o is h = h
placed_type Kinds.Union b o is h = h
placed_type Kinds.Enum b o is h = h
placed_type Kinds.Typedef b o is h = h
placed_type kind b o is h = absurd cc

pub of_kind : (wanted : EntryKind → Bool) (o : Option Entry) → is_of wanted o ≡ true
    → (x : Entry) × (o ≡ Some x) × (wanted x.kind ≡ true)
of_kind wanted None h = absurd cc
of_kind wanted (Some x) h = (x, refl, h)

-- the entry that the name of a type finds
pub finds_entry : (es : List Entry) (scope : ℕ) (name : ScopedName) → Holds es scope (NamesType name)
    → (e : ℕ) × (entry_found es scope name ≡ Ok e)
finds_entry es scope name h = let (e, found, is_a) = finds_one is_type es scope name h.answered in
    (e, ap of_names found)

pub finds_type : (es : List Entry) (g : List Introduction) (begun : ℕ → Type 0) (w : Lowered) (scope : ℕ)
    (name : ScopedName) → Keeps es g begun w
    → Settled es g scope (NamesType name) → (n : ℕ) × (type_found es w scope name ≡ Ok n) × IsPart w.nodes n
finds_type es g begun w scope name i s =
    let (e, found, is_a) = finds_one is_type es scope name s.holds.answered in
    let (x, at, kind) = of_kind is_type (slice_get es e) is_a in
    let (n, there) = placed_type x.kind (begun e) (slice_get w.places e) kind (i.has e x (s.finds e found) at) in
    let told : entry_found es scope name ≡ Ok e = ap of_names found in
    let typed : type_of w e ≡ Some n = ap type_in there in (
      n,
      goes_on (entry_found es scope name) e (λ e. or_other (type_of w e)) told
          ∙ ap or_other typed,
      i.right e (Typed n) there,
    )

-- ---- sizes

positive_above : (o : Option ℤ) (n : ℕ) → positive o ≡ Some n → 0 < n
positive_above None n is = absurd cc
positive_above (Some (negsuc k)) n is = absurd cc
positive_above (Some (pos k)) n is = by (nat_lt 0 k) refl is
  where
    by : (b : Bool) → nat_lt 0 k ≡ b → where_true b k ≡ Some n → 0 < n
    by false below is = absurd cc
    by true below is = let same : k ≡ n = cc in let lt = ltb-true 0 k below in omega (arith, lt, same)

bad_or : {T : Type 0} (why : Flaw) (here : At) (o : Option T) (x : T)
    → (let r : Result T NameFault = or_bad why here o in r) ≡ Ok x → o ≡ Some x
bad_or why here None x h = absurd cc
bad_or why here (Some y) x h = let same : y ≡ x = cc in ap Some same

pub size_known : (es : List Entry) (g : List Introduction) (scope : ℕ) (e : Expr) → Settled es g scope (IsSize e)
    → (n : ℕ) × (of_names (size_read es scope e) ≡ Ok n) × (0 < n)
size_known es g scope e s =
    let (n, is) = there_is (size_read es scope e) s.holds.answered in
    let (c, value, rest) = then_ok (value_read es scope e)
    (λ c. or_bad NotPositive (at (expr_start e)) (positive (whole_number (Some c)))) n is in (
      n,
      ap of_names is,
      positive_above (whole_number (Some c)) n
          (bad_or NotPositive (at (expr_start e)) (positive (whole_number (Some c))) n rest),
    )

-- ---- steps behind which nothing has a place

-- what needs none is declared, or nothing
abbrev pub IsSilent : Step → Type 0
IsSilent (Declares kind l) = ⊥
IsSilent (DeclaresEnum l) = ⊥
IsSilent (DeclaresTypedef t d) = ⊥
IsSilent (DeclaresFeature kind l) = ⊥
IsSilent (Defines l) = ⊥
IsSilent s = Unit {0}

abbrev pub needs_place : EntryKind → Bool
needs_place Kinds.Module = false
needs_place Kinds.Interface = true
needs_place Kinds.Struct = true
needs_place Kinds.Union = true
needs_place Kinds.Enum = true
needs_place Kinds.Enumerator = false
needs_place Kinds.Typedef = true
needs_place Kinds.Const = false
needs_place Kinds.Exception = true
needs_place Kinds.Operation = false
needs_place Kinds.Attribute = false

no_place : (kind : EntryKind) (b : Type 0) (o : Option (Option Place)) → needs_place kind ≡ false → HasPlace kind b o
no_place Kinds.Module b o is = tt
no_place Kinds.Enumerator b o is = tt
no_place Kinds.Const b o is = tt
no_place Kinds.Operation b o is = tt
no_place Kinds.Attribute b o is = tt
no_place kind b o is = absurd cc

pub silent_name : (es : List Entry) (g : List Introduction) (begun : ℕ → Type 0) (w : Lowered) (scope : ℕ) (l : Leaf)
    (kind : EntryKind) → Keeps es g begun w
    → IsEntry es (Stands scope l kind) → needs_place kind ≡ false → Keeps es (Stands scope l kind ∷ g) begun w
silent_name es g begun w scope l kind i (n, e, is, at, kind_is, name_is) none =
    more_known es g begun w (Stands scope l kind) i (λ f y stands there. by f y stands there) (λ f never. absurd never)
  where
    by : NeedsNothing es begun w (Stands scope l kind)
    by f y stands there =
        let same : f ≡ n = cc in
        let here : slice_get es n ≡ Some y = subst (λ k. slice_get es k ≡ Some y) same there in
        let one : e ≡ y = cc in
        no_place y.kind (begun f) (slice_get w.places f)
        (ap (λ z. needs_place z.kind) (sym one) ∙ ap needs_place kind_is ∙ none)

pub silent_member : (es : List Entry) (g : List Introduction) (begun : ℕ → Type 0) (w : Lowered) (scope : ℕ) (l : Leaf)
    → Keeps es g begun w → Keeps es (Has scope l ∷ g) begun w
silent_member es g begun w scope l i =
    more_known es g begun w (Has scope l) i (λ f y never there. absurd never) (λ f never. absurd never)

silent_one : (es : List Entry) (g : List Introduction) (begun : ℕ → Type 0) (w : Lowered) (scope : ℕ) (s : Step)
    → IsSilent s → Settled es g scope s → Keeps es g begun w
    → Keeps es (onto (introduced_by scope s) g) begun w
silent_one es g begun w scope (Declares kind l) is s i = absurd is
silent_one es g begun w scope (DeclaresEnum l) is s i = absurd is
silent_one es g begun w scope (DeclaresEnumerator l) is s i =
    silent_name es g begun w scope l Kinds.Enumerator i s.holds.entries.0 refl
silent_one es g begun w scope (DeclaresTypedef t d) is s i = absurd is
silent_one es g begun w scope (DeclaresConst c) is s i =
    silent_name es g begun w scope c.identifier Kinds.Const i s.holds.entries.0 refl
silent_one es g begun w scope (DeclaresFeature kind l) is s i = absurd is
silent_one es g begun w scope (HasMember l) is s i = silent_member es g begun w scope l i
silent_one es g begun w scope (Defines l) is s i = absurd is
silent_one es g begun w scope s is h i = i

pub silent_keeps : (es : List Entry) (g : List Introduction) (begun : ℕ → Type 0) (w : Lowered) (scope : ℕ)
    (steps : List Step) → AllByRecursion IsSilent steps
    → AllSettled es g scope steps → Keeps es g begun w → Keeps es (behind es g scope steps) begun w
silent_keeps es g begun w scope [] is h i = i
silent_keeps es g begun w scope (s ∷ steps) (is, rest) (h, hs) i =
    silent_keeps es (onto (introduced_by scope s) g) begun w (scope_behind es scope s) steps rest hs
    (silent_one es g begun w scope s is h i)

pub each_silent : {T : Type 0} (step : T → Step) → ((x : T) → IsSilent (step x)) → (xs : List T)
    → AllByRecursion IsSilent (map step xs)
each_silent step h [] = tt
each_silent step h (x ∷ xs) = (h x, each_silent step h xs)

pub silent_append : (xs ys : List Step) → AllByRecursion IsSilent xs → AllByRecursion IsSilent ys
    → AllByRecursion IsSilent (xs ++ ys)
silent_append [] ys h k = k
silent_append (x ∷ xs) ys (h, hs) k = (h, silent_append xs ys hs k)

pub all_silent : {T : Type 0} (steps : T → List Step) → ((x : T) → AllByRecursion IsSilent (steps x)) → (xs : List T)
    → AllByRecursion IsSilent (flat_map steps xs)
all_silent steps h [] = tt
all_silent steps h (x ∷ xs) = silent_append (steps x) (flat_map steps xs) (h x) (all_silent steps h xs)
