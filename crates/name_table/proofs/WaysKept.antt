-- Ways over several bases where searches give what they gave.
use Rattle.std.proofs.Common.{◌≡◌, ◌∙◌, ℕ, zero, suc, ◌<◌, ◌≤◌, ◌⊎◌, inl, inr, Bool, true, false, nat_eq, List, [], ◌∷◌, length, Option, None, Some, Result, Ok, Err, OnErr, refl, sym, ap, arith}
use Rattle.std.specs.Prelude.{if◌then◌else◌, slice_set}
use Rattle.std.proofs.lemmas.Bool.{eq-eqb, eqb-true}
use Rattle.name_table.specs.declared.shortcuts.Shortcut.{Shortcut}
use Rattle.name_table.specs.Entry.{Entry}
use Rattle.name_table.specs.Entries.{latest}
use Rattle.name_table.specs.inner.Records.{HasWord}
use Rattle.name_table.specs.Search.{inherited}
use Rattle.name_table.specs.inner.Shortcuts.{AreShort, way_at}

pub ways_like : (es fs : List Entry) (ways : List (Option Shortcut)) → latest es ≤ latest fs → AreShort es ways
    → ((q : ℕ) (way : Shortcut) → way_at ways q ≡ Some way → (t : ℕ) (name : List ℕ)
    → inherited fs t q name ≡ inherited es t q name)
    → ((t q : ℕ) (name : List ℕ) → t ≤ latest es → inherited fs t q name ≡ inherited es t q name) → AreShort fs ways
ways_like es fs ways longer kept here there q way at =
    let old = kept q way at in
    let low = old.0 in
    let is = old.1 in
    let earlier = is.earlier in (
      omega arith,
      record {
        earlier = is.earlier;
        same = λ t after name. by t name (is.same t after name)
            (there way.place.token way.place.scope.0 name (omega arith));
      },
    )
  where
    by : (t : ℕ) (name : List ℕ) → (inherited es t q name ≡ inherited es way.place.token way.place.scope.0 name)
        ⊎ HasWord way.words.keys name
        → inherited fs way.place.token way.place.scope.0 name ≡ inherited es way.place.token way.place.scope.0 name
        → (inherited fs t q name ≡ inherited fs way.place.token way.place.scope.0 name) ⊎ HasWord way.words.keys name
    by t name (inr has) e = inr has
    by t name (inl is) e = inl (here q way at t name ∙ is ∙ sym e)

pub no_ways : (es : List Entry) → AreShort es []
no_ways es zero way at = cc
no_ways es (suc q) way at = cc

-- the same ways
pub ways_same : (es : List Entry) (old new : List (Option Shortcut)) → ((q : ℕ) → way_at new q ≡ way_at old q)
    → AreShort es old → AreShort es new
ways_same es old new same kept q way at = kept q way (sym (same q) ∙ at)

set_here : (ways : List (Option Shortcut)) (s : ℕ) (way : Option Shortcut) → s < length ways
    → way_at (slice_set ways s way) s ≡ way
set_here [] s way h = absurd (omega arith)
set_here (w ∷ ws) zero way h = refl
set_here (w ∷ ws) (suc s) way h = set_here ws s way (omega arith)

set_other : (ways : List (Option Shortcut)) (s q : ℕ) (way : Option Shortcut) → (q ≡ s → ⊥)
    → way_at (slice_set ways s way) q ≡ way_at ways q
set_other [] s q way h = refl
set_other (w ∷ ws) zero zero way h = absurd (h refl)
set_other (w ∷ ws) zero (suc q) way h = refl
set_other (w ∷ ws) (suc s) zero way h = refl
set_other (w ∷ ws) (suc s) (suc q) way h = set_other ws s q way (λ is. h (ap suc is))

-- one way is set, or dropped
pub ways_set : (ways : List (Option Shortcut)) (s : ℕ) (way : Option Shortcut) → s < length ways → (q : ℕ)
    → way_at (slice_set ways s way) q ≡ (if nat_eq s q then way else way_at ways q)
ways_set ways s way h q = by (nat_eq s q) refl
  where
    by : (b : Bool) → nat_eq s q ≡ b → way_at (slice_set ways s way) q ≡ (if b then way else way_at ways q)
    by true e = ap (way_at (slice_set ways s way)) (sym (eqb-true s q e)) ∙ set_here ways s way h
    by false e = set_other ways s q way (λ is. let yes = eq-eqb s q (sym is) in cc)

-- no way is kept behind the last
pub ways_past : (ways : List (Option Shortcut)) (s : ℕ) → length ways ≤ s → way_at ways s ≡ None
ways_past [] zero h = refl
ways_past [] (suc s) h = refl
ways_past (w ∷ ws) zero h = absurd (omega arith)
ways_past (w ∷ ws) (suc s) h = ways_past ws s (omega arith)

pub ways_none : (ways : List (Option Shortcut)) (s : ℕ) → length ways ≤ s → (q : ℕ)
    → way_at ways q ≡ (if nat_eq s q then None else way_at ways q)
ways_none ways s h q = by (nat_eq s q) refl
  where
    by : (b : Bool) → nat_eq s q ≡ b → way_at ways q ≡ (if b then None else way_at ways q)
    by true e = ap (way_at ways) (sym (eqb-true s q e)) ∙ ways_past ways s h
    by false e = refl

pub on_err : {T E : Type 0} {P : Type 0} (r : Result T E) → P → OnErr r P
on_err (Ok x) p = tt
on_err (Err e) p = p
