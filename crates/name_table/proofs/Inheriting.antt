-- What is kept of an interface, and what it inherits.
use Rattle.std.proofs.Common.{◌≡◌, ◌∙◌, ℕ, zero, suc, ◌<◌, ◌≤◌, cond, List, [], ◌∷◌, length, slice_get, Option, Some, None, Global, refl, sym, ap, subst, arith}
use Rattle.std.specs.Prelude.{Box}
use Rattle.std.specs.Option.{option_map}
use Rattle.std.proofs.lemmas.Bool.{lt-ltb, le-ltb, eq-eqb}
use Rattle.std.proofs.lemmas.Option.{slice_get-map}
use Rattle.std.specs.Map.{lookup}
use Rattle.name_table.specs.declared.entry.Base.{Base}
use Rattle.name_table.specs.declared.record.Given.{Given}
use Rattle.name_table.specs.declared.record.Heir.{Heir}
use Rattle.name_table.specs.declared.record.Record.{Record}
use Rattle.name_table.specs.declared.search.Found.{Found}
use Rattle.name_table.specs.declared.search.Found.TheVariants.{Nothing, One, Several}
use Rattle.name_table.specs.Entry.{Entry, bases_in, bases_of, around, scope_in}
use Rattle.name_table.specs.Search.{base_at, or_else, own, inherited, within, within_first, outwards}
use Rattle.name_table.specs.inner.Records.{AreNestedRecords, ArePlaced, AreSearched, entries_in, entry_of, by_first, by_given, by_heir, given_before, heir_bases, heir_in, heir_of, is_word, unboxed}

-- ---- bases

abbrev pub heir_list : Option Heir → List Base
heir_list None = []
heir_list (Some h) = h.first ∷ h.later.items

boxed_list : (h : Option (Box Heir Global)) → heir_bases h ≡ heir_list (unboxed h)
boxed_list None = refl
boxed_list (Some h) = refl

listed : (r : Option Record) → bases_in (option_map entry_of r) ≡ heir_list (heir_in r)
listed None = refl
listed (Some r) = boxed_list r.heir

pub bases_kept : (records : List Record) (scope : ℕ)
    → bases_of (entries_in records) scope ≡ heir_list (heir_of records scope)
bases_kept records zero = refl
bases_kept records (suc e) = ap bases_in (slice_get-map entry_of records e) ∙ listed (slice_get records e)

first_at : (b : Base) (bs : List Base) → base_at (b ∷ bs) b.token ≡ Some b.entry
first_at b bs = ap (λ t. cond t (Some b.entry) (base_at bs b.token)) (eq-eqb b.token b.token refl)

pub first_base : (records : List Record) (scope : ℕ) (h : Heir) → heir_of records scope ≡ Some h
    → base_at (bases_of (entries_in records) scope) h.first.token ≡ Some h.first.entry
first_base records scope h there =
    ap (λ bs. base_at bs h.first.token) (bases_kept records scope ∙ ap heir_list there) ∙ first_at h.first h.later.items

-- a base is an entry
pub first_placed : (records : List Record) → ArePlaced records → (scope : ℕ) (h : Heir) → heir_of records scope ≡ Some h
    → h.first.entry < length records
first_placed records placed scope h there = placed scope h.first.token h.first.entry (first_base records scope h there)

-- ---- what is inherited

module _ (records : List Record) (es : List Entry) (is : entries_in records ≡ es) (searched : AreSearched records)
    (token scope : ℕ) (name : List ℕ) where
  sought : (h : Option Heir) → heir_of records scope ≡ h → inherited es token scope name ≡ by_heir es token name h
  sought h there =
      subst (λ xs. inherited xs token scope name ≡ by_heir xs token name (heir_of records scope)) is
      (searched token scope name)
      ∙ ap (by_heir es token name) there

  pub without_bases : heir_of records scope ≡ None → Nothing ≡ inherited es token scope name
  without_bases there = sym (sought None there)

  module _ (h : Heir) (there : heir_of records scope ≡ Some h) where
    pub from_given : (g : Given) → lookup (is_word name) h.others.entries ≡ Some g
        → given_before token g ≡ inherited es token scope name
    from_given g given = sym (sought (Some h) there ∙ ap (by_given es token name h.first) given)

    not_given : lookup (is_word name) h.others.entries ≡ None
        → inherited es token scope name ≡ by_first es token name h.first
    not_given none = sought (Some h) there ∙ ap (by_given es token name h.first) none

    pub from_late_base : lookup (is_word name) h.others.entries ≡ None → token ≤ h.first.token
        → Nothing ≡ inherited es token scope name
    from_late_base none later =
        sym (not_given none ∙ ap (λ t. cond t (within es h.first.token (suc h.first.entry) name) Nothing)
        (le-ltb h.first.token token later))

    pub from_first_base : lookup (is_word name) h.others.entries ≡ None → h.first.token < token
        → or_else (own es h.first.token (suc h.first.entry) name) (inherited es h.first.token (suc h.first.entry) name)
        ≡ inherited es token scope name
    from_first_base none earlier =
        sym (not_given none ∙ ap (λ t. cond t (within es h.first.token (suc h.first.entry) name) Nothing)
        (lt-ltb h.first.token token earlier))

-- what was found comes first
pub or_else_found : (a b : Found) → (a ≡ Nothing → ⊥) → a ≡ or_else a b
or_else_found Nothing b h = absurd (h refl)
or_else_found (One e) b h = refl
or_else_found (Several a c) b h = refl

-- ---- scopes around

nested_within : (records : List Record) → AreNestedRecords records → (e : ℕ) → around (entries_in records) (suc e) ≤ e
nested_within records nested e =
    subst (λ x. scope_in x ≤ e) (sym (slice_get-map entry_of records e)) (by (slice_get records e) refl)
  where
    by : (r : Option Record) → slice_get records e ≡ r → scope_in (option_map entry_of r) ≤ e
    by None h = omega arith
    by (Some r) h = nested e r h

-- there are no more scopes around than the number of a scope
fuel : (es : List Entry) → ((e : ℕ) → around es (suc e) ≤ e) → (bound k scope : ℕ) → k ≤ bound → scope ≤ k
    → outwards es k scope ≡ outwards es scope scope
fuel es low bound zero zero kb sk = refl
fuel es low bound zero (suc e) kb sk = absurd (omega arith)
fuel es low bound (suc k) zero kb sk = refl
fuel es low zero (suc k) (suc e) kb sk = absurd (omega arith)
fuel es low (suc bound) (suc k) (suc e) kb sk =
    let next = around es (suc e) in
    let nearer : next ≤ e = low e in
    ap (λ xs. suc e ∷ xs) (fuel es low bound k next (omega arith) (omega arith)
    ∙ sym (fuel es low bound e next (omega arith) nearer))

-- one scope further outwards
pub next_scope : (records : List Record) (es : List Entry) → entries_in records ≡ es → AreNestedRecords records
    → (token e : ℕ) (name : List ℕ) (r : Record) → slice_get records e ≡ Some r
    → within_first es token (outwards es (suc e) (suc e)) name
    ≡ or_else (within es token (suc e) name) (within_first es token (outwards es r.key.scope.0 r.key.scope.0) name)
next_scope records es is nested token e name r there =
    let low : (k : ℕ) → around es (suc k) ≤ k =
    λ k. subst (λ xs. around xs (suc k) ≤ k) is (nested_within records nested k) in
    let here : around es (suc e) ≡ r.key.scope.0 = sym (ap (λ xs. around xs (suc e)) is)
    ∙ ap scope_in (slice_get-map entry_of records e ∙ ap (option_map entry_of) there) in
    ap (λ xs. or_else (within es token (suc e) name) (within_first es token xs name))
    (fuel es low e e (around es (suc e)) (omega arith) (low e) ∙ ap (λ s. outwards es s s) here)

pub scope_behind : (records : List Record) → AreNestedRecords records → (e : ℕ) (r : Record)
    → slice_get records e ≡ Some r → r.key.scope.0 ≤ e
scope_behind records nested e r there = nested e r there

pub or_else_nothing : (a : Found) → or_else a Nothing ≡ a
or_else_nothing Nothing = refl
or_else_nothing (One e) = refl
or_else_nothing (Several a b) = refl
