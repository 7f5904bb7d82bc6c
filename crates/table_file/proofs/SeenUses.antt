-- Uses that are seen one after the other, by node.
use Rattle.std.proofs.Common.{◌≡◌, ◌≢◌, ℕ, zero, suc, ◌<◌, ◌≤◌, ◌+◌, List, [], ◌∷◌, length, Option, Some, None, refl, sym, ap, ◌∙◌, set, replicate, inl, inr, arith}
use Rattle.std.specs.Prelude.{slice_get}
use Rattle.std.proofs.lemmas.Bool.{cases_lt}
use Rattle.std.proofs.lemmas.Bool.Decides.{eqb_tells}
use Rattle.std.proofs.lemmas.Option.{slice_get_within}
use Rattle.table_file.specs.declared.table.Which.{Which}
use Rattle.table_file.specs.Table.{AreAlike}
use Rattle.table_file.specs.inner.Seen.{AllNone}

-- after a write
get_set : {X : Type 0} (xs : List X) (i : ℕ) (v : X) → i < length xs → slice_get (set xs i v) i ≡ Some v
get_set [] i v h = absurd (omega arith)
get_set (x ∷ xs) zero v h = refl
get_set (x ∷ xs) (suc i) v h = get_set xs i v (omega arith)

-- elsewhere
get_set_other : {X : Type 0} (xs : List X) (i j : ℕ) (v : X) → i ≢ j → slice_get (set xs i v) j ≡ slice_get xs j
get_set_other [] i j v n = refl
get_set_other (x ∷ xs) zero zero v n = absurd (n refl)
get_set_other (x ∷ xs) zero (suc j) v n = refl
get_set_other (x ∷ xs) (suc i) zero v n = refl
get_set_other (x ∷ xs) (suc i) (suc j) v n = get_set_other xs i j v (λ e. n (ap suc e))

abbrev pub Names : Type 0
Names = List (List ℕ × ℕ)

-- the uses of the names before a place were seen, and no others
pub record Seen (names : Names) (uses : List Which) (seen : List (Option Which)) (place : ℕ) : Type 0 where
  pub before : (j : ℕ) (name : List ℕ × ℕ) → j < place → slice_get names j ≡ Some name
      → slice_get seen name.1 ≡ Some (slice_get uses j)
  pub from : (node : ℕ) (u : Which) → slice_get seen node ≡ Some (Some u)
      → (j : ℕ) × (name : List ℕ × ℕ) × (slice_get names j ≡ Some name) × (name.1 ≡ node) × (slice_get uses j ≡ Some u)

pub nothing_seen : (names : Names) (uses : List Which) (seen : List (Option Which)) → AllNone seen
    → Seen names uses seen 0
nothing_seen names uses seen none = record {
  before = λ j name h e. absurd (omega arith);
  from = λ node u e. absurd (none node u e);
}

-- one of which the use was seen
pub seen_again : (names : Names) (uses : List Which) (seen : List (Option Which)) (place next : ℕ) (name : List ℕ × ℕ)
    (u : Which) → next ≡ place + 1
    → slice_get names place ≡ Some name → slice_get seen name.1 ≡ Some (Some u) → slice_get uses place ≡ Some u
    → Seen names uses seen place → Seen names uses seen next
seen_again names uses seen place next name u n at is used s = record {
  before = λ j other h e. elim (cases_lt j place) [
    | inl lt ↦ s.before j other lt e
    | inr le ↦
        let here : j ≡ place = omega arith in
        let same : other ≡ name = let both : Some other ≡ Some name = sym e ∙ ap (slice_get names) here ∙ at in cc in
        ap (λ (x : List ℕ × ℕ). slice_get seen x.1) same ∙ is ∙ ap Some (sym used ∙ ap (slice_get uses) (sym here))
  ];
  from = s.from;
}

no_use : (xs : List Which) (j : ℕ) → j < length xs → slice_get xs j ≡ None → ⊥
no_use [] j h e = absurd (omega arith)
no_use (x ∷ xs) zero h e = absurd (cc)
no_use (x ∷ xs) (suc j) h e = no_use xs j (omega arith) e

-- one of which it wasn't
pub seen_first : (names : Names) (uses : List Which) (seen now : List (Option Which)) (place next : ℕ)
    (name : List ℕ × ℕ) (u : Which) → next ≡ place + 1
    → now ≡ set seen name.1 (Some u) → length uses ≡ length names
    → slice_get names place ≡ Some name → slice_get seen name.1 ≡ Some None → slice_get uses place ≡ Some u
    → Seen names uses seen place → Seen names uses now next
seen_first names uses seen now place next name u n write each at is used s =
    let room : name.1 < length seen = slice_get_within seen name.1 None is in
    let here_now : slice_get now name.1 ≡ Some (Some u) = ap (λ xs. slice_get xs name.1) write
    ∙ get_set seen name.1 (Some u) room in
    let fresh : (k : ℕ) → name.1 ≢ k → slice_get now k ≡ slice_get seen k = λ k other. ap (λ xs. slice_get xs k) write
    ∙ get_set_other seen name.1 k (Some u) other in
    record {
      before = λ j other h e. elim (cases_lt j place) [
        | inl lt ↦ elim (eqb_tells name.1 other.1) [
          | inl same ↦
              let old : slice_get seen other.1 ≡ Some (slice_get uses j) = s.before j other lt e in
              let none : Some (slice_get uses j) ≡ Some None = sym old ∙ ap (slice_get seen) (sym same.1) ∙ is in
              let past : slice_get uses j ≡ None = cc in
              let within = slice_get_within names j other e in
              absurd (no_use uses j (omega (arith, within, each)) past)
          | inr apart ↦ fresh other.1 apart.1 ∙ s.before j other lt e
        ]
        | inr le ↦
            let here : j ≡ place = omega arith in
            let same : other ≡ name = let both : Some other ≡ Some name = sym e ∙ ap (slice_get names) here ∙ at in
            cc in
            ap (λ (x : List ℕ × ℕ). slice_get now x.1) same ∙ here_now
            ∙ ap Some (sym used ∙ ap (slice_get uses) (sym here))
      ];
      from = λ node v e. elim (eqb_tells name.1 node) [
        | inl same ↦
            let both : Some (Some u) ≡ Some (Some v) = sym here_now ∙ ap (slice_get now) same.1 ∙ e in
            let equal : u ≡ v = cc in
            (place, name, at, same.1, used ∙ ap Some equal)
        | inr apart ↦ s.from node v (sym (fresh node apart.1) ∙ e)
      ];
    }

-- all were seen
pub all_alike : (names : Names) (uses : List Which) (seen : List (Option Which)) (place : ℕ) → length names ≤ place
    → Seen names uses seen place → AreAlike names uses
all_alike names uses seen place all s = λ i j one other ei ej same.
    let wi = slice_get_within names i one ei in
    let wj = slice_get_within names j other ej in
    let si = s.before i one (omega (arith, wi, all)) ei in
    let sj = s.before j other (omega (arith, wj, all)) ej in
    let both : Some (slice_get uses i) ≡ Some (slice_get uses j) = sym si ∙ ap (slice_get seen) same ∙ sj in
    cc

-- one that was seen otherwise
pub not_alike : (names : Names) (uses : List Which) (seen : List (Option Which)) (place : ℕ) (name : List ℕ × ℕ)
    (b u : Which)
    → slice_get names place ≡ Some name → slice_get seen name.1 ≡ Some (Some b) → slice_get uses place ≡ Some u
    → (b ≡ u → ⊥) → Seen names uses seen place → AreAlike names uses → ⊥
not_alike names uses seen place name b u at is used apart s alike =
    let p = s.from name.1 b is in
    let same = alike p.0 place p.1 name p.2 at p.3 in
    let both : Some b ≡ Some u = sym p.4 ∙ same ∙ used in
    apart (cc)

-- at the start
pub none_seen : (n node : ℕ) (u : Which) → slice_get (replicate n None) node ≡ Some (Some u) → ⊥
none_seen zero node u e = absurd (cc)
none_seen (suc n) zero u e = let none : None ≡ Some u = cc in absurd (cc)
none_seen (suc n) (suc node) u e = none_seen n node u e
