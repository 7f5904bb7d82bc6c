-- The names from the outermost scope to an entry's, as a walk outwards collects them.
use Rattle.std.proofs.Common.{◌≡◌, ◌∙◌, ◌++◌, ◌≤◌, ◌<◌, ℕ, zero, suc, List, [], ◌∷◌, Option, Some, None, map, reverse, slice_get, IfSome, length, append_assoc, refl, sym, ap, subst, arith}
use Rattle.std.specs.Borrow.{Bor}
use Rattle.std.proofs.lemmas.List.{reverse-append}
use Rattle.name_table.specs.Entry.{AreNested, Entry, around, scope_in, name_in}
use Rattle.scoped_names.specs.RepositoryIds.{names_to}

-- a bound that is enough is as good as another
pub steps_enough : (es : List Entry) → ((e : ℕ) → around es (suc e) ≤ e) → (k j scope : ℕ) → scope ≤ k → scope ≤ j
    → names_to es k scope ≡ names_to es j scope
steps_enough es nested zero zero scope le le' = refl
steps_enough es nested zero (suc j) zero le le' = refl
steps_enough es nested zero (suc j) (suc e) le le' = absurd (omega arith)
steps_enough es nested (suc k) zero zero le le' = refl
steps_enough es nested (suc k) zero (suc e) le le' = absurd (omega arith)
steps_enough es nested (suc k) (suc j) zero le le' = refl
steps_enough es nested (suc k) (suc j) (suc e) le le' =
    let below = nested e in
    ap (λ names. names ++ name_in (slice_get es e) ∷ [])
    (steps_enough es nested k j (around es (suc e)) (omega (arith, below, le)) (omega (arith, below, le')))

-- one step outwards
pub names_step : (es : List Entry) → ((e : ℕ) → around es (suc e) ≤ e) → (e : ℕ) (x : Entry) → slice_get es e ≡ Some x
    → names_to es (suc e) (suc e) ≡ names_to es x.scope x.scope ++ x.name ∷ []
names_step es nested e x at =
    let outer = ap scope_in at in
    let below = nested e in
    ap (λ names. names ++ name_in (slice_get es e) ∷ [])
    (steps_enough es nested e (around es (suc e)) (around es (suc e)) below (omega arith))
    ∙ ap (λ o. names_to es o o ++ name_in (slice_get es e) ∷ []) outer
    ∙ ap (λ o. names_to es x.scope x.scope ++ name_in o ∷ []) at

-- the scope around an entry's is that of an earlier one
nested_scopes : (es : List Entry) → AreNested es → (e : ℕ) → around es (suc e) ≤ e
nested_scopes es nested e = by (slice_get es e) refl
  where
    by : (o : Option Entry) → slice_get es e ≡ o → scope_in o ≤ e
    by None h = omega arith
    by (Some x) h = nested e x h

abbrev texts : List (Bor (List ℕ)) → List (List ℕ)
texts names = map (λ n. n.now) names

entry_there : (es : List Entry) (k : ℕ) → k < length es → (x : Entry) × (slice_get es k ≡ Some x)
entry_there [] k lt = absurd (omega arith)
entry_there (y ∷ ys) zero lt = (y, refl)
entry_there (y ∷ ys) (suc k) lt = entry_there ys k (omega arith)

-- the name of one more scope is met
pub path_step : (es : List Entry) → AreNested es
    → (scope place outer : ℕ) (n : Bor (List ℕ)) (met more : List (Bor (List ℕ))) (whole : List (List ℕ))
    → scope ≡ suc place → place < length es
    → IfSome (slice_get es place) (λ e. outer ≡ e.scope) → n.now ≡ name_in (slice_get es place) → more ≡ met ++ n ∷ []
    → names_to es scope scope ++ texts (reverse met) ≡ whole
    → (outer ≤ length es) × (names_to es outer outer ++ texts (reverse more) ≡ whole)
path_step es nested scope place outer n met more whole next lt scoped named grows so_far =
    let there = entry_there es place lt in
    let x = there.0 in
    let at : slice_get es place ≡ Some x = there.1 in
    let around_it : outer ≡ x.scope = subst (λ o. IfSome o (λ e. outer ≡ e.scope)) at scoped in
    let name : n.now ≡ x.name = named ∙ ap name_in at in
    let below = nested place x at in
    let step = ap (λ s. names_to es s s) next ∙ names_step es (nested_scopes es nested) place x at in
    let turned : texts (reverse more) ≡ n.now ∷ texts (reverse met) =
    ap (λ ms. texts (reverse ms)) grows ∙ ap texts (reverse-append met (n ∷ [])) in (
      omega arith,
      ap (λ s. names_to es s s ++ texts (reverse more)) around_it
          ∙ ap (λ names. names_to es x.scope x.scope ++ names) (turned ∙ ap (λ w. w ∷ texts (reverse met)) name)
          ∙ sym (append_assoc (names_to es x.scope x.scope) (x.name ∷ []) (texts (reverse met)))
          ∙ sym (ap (λ names. names ++ texts (reverse met)) step) ∙ so_far,
    )

-- all are met at the file's scope
pub path_end : (es : List Entry) (scope : ℕ) (met : List (Bor (List ℕ))) (whole : List (List ℕ)) → scope ≤ 0
    → names_to es scope scope ++ texts (reverse met) ≡ whole → texts (reverse met) ≡ whole
path_end es zero met whole le h = h
path_end es (suc e) met whole le h = absurd (omega arith)
