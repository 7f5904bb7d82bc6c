-- The token of the last base, where entries are declared or get bases.
use Rattle.std.proofs.Common.{◌≡◌, ◌∙◌, ◌≤◌, ℕ, zero, suc, max, cond, nat_eq, Bool, true, false, List, [], ◌∷◌, ◌++◌, slice_get, slice_set, Option, Some, None, refl, ap, sym, subst, arith, eqb-true}
use Rattle.name_table.specs.declared.entry.Base.{Base}
use Rattle.name_table.specs.declared.record.Record.{Record}
use Rattle.name_table.specs.Entry.{Entry, bases_of}
use Rattle.name_table.specs.Entries.{entry_with_base, last_of, latest, with_base}
use Rattle.name_table.specs.Features.{features_of}
use Rattle.name_table.specs.inner.Records.{entries_in, heir_bases}
use Rattle.name_table.specs.Search.{base_at}

base_low : (bs : List Base) (t b : ℕ) → base_at bs t ≡ Some b → t ≤ last_of bs
base_low [] t b h = cc
base_low (c ∷ cs) t b h = by (nat_eq c.token t) (base_low cs t b) refl h
  where
    by : (q : Bool) → (base_at cs t ≡ Some b → t ≤ last_of cs) → nat_eq c.token t ≡ q
        → cond q (Some c.entry) (base_at cs t) ≡ Some b → t ≤ max c.token (last_of cs)
    by true rest is h = let same = eqb-true c.token t is in omega arith
    by false rest is h = let low = rest h in omega arith

-- no base is named behind it
pub bases_low : (es : List Entry) (s t b : ℕ) → base_at (bases_of es s) t ≡ Some b → t ≤ latest es
bases_low es zero t b h = cc
bases_low [] (suc e) t b h = cc
bases_low (x ∷ xs) (suc zero) t b h = let low = base_low x.bases t b h in omega arith
bases_low (x ∷ xs) (suc (suc e)) t b h = let low = bases_low xs (suc e) t b h in omega arith

-- one more entry has no bases
pub latest_push : (es : List Entry) (e : Entry) → e.bases ≡ [] → latest (es ++ e ∷ []) ≡ latest es
latest_push [] e none = ap (λ bs. max (last_of bs) 0) none
latest_push (x ∷ xs) e none = ap (max (last_of x.bases)) (latest_push xs e none)

pub latest_pushed : (records : List Record) (r : Record) → r.heir ≡ None
    → latest (entries_in (records ++ r ∷ [])) ≡ latest (entries_in records)
latest_pushed [] r none = ap (λ h. max (last_of (heir_bases h)) 0) none
latest_pushed (x ∷ xs) r none = ap (max (last_of (heir_bases x.heir))) (latest_pushed xs r none)

last_behind : (bs : List Base) (base : Base) → last_of bs ≤ base.token → last_of (bs ++ base ∷ []) ≡ base.token
last_behind [] base low = omega arith
last_behind (b ∷ bs) base low = let rest = last_behind bs base (omega arith) in omega arith

latest_set : (es : List Entry) (e : ℕ) (x : Entry) (base : Base) → slice_get es e ≡ Some x → latest es ≤ base.token
    → latest (slice_set es e (record x { bases = x.bases ++ base ∷ [] })) ≡ base.token
latest_set [] e x base there low = cc
latest_set (y ∷ ys) zero x base there low =
    let same : y ≡ x = cc in
    let bases : last_of y.bases ≡ last_of x.bases = ap (λ z. last_of z.bases) same in
    let behind = last_behind x.bases base (omega arith) in
    omega arith
latest_set (y ∷ ys) (suc e) x base there low = let rest = latest_set ys e x base there (omega arith) in omega arith

-- a base that is named behind all others is the last
pub latest_based : (es : List Entry) (e : ℕ) (x : Entry) (base : Base) → slice_get es e ≡ Some x
    → latest es ≤ base.token → latest (with_base es (suc e) base) ≡ base.token
latest_based es e x base there low = ap (λ o. latest (entry_with_base es e base o)) there
    ∙ latest_set es e x base there low

pub latest_with : (es : List Entry) (inner : ℕ) (base : Base) → latest es ≤ base.token
    → latest (with_base es inner base) ≤ base.token
latest_with es zero base low = low
latest_with es (suc e) base low = by (slice_get es e) refl
  where
    by : (o : Option Entry) → slice_get es e ≡ o → latest (with_base es (suc e) base) ≤ base.token
    by None is = subst (λ xs. latest xs ≤ base.token) (sym (ap (entry_with_base es e base) is)) low
    by (Some x) is = let same = latest_based es e x base is low in omega arith

-- operations and attributes alone have the same bases
pub latest_features : (es : List Entry) → latest (features_of es) ≡ latest es
latest_features [] = refl
latest_features (e ∷ es) = ap (max (last_of e.bases)) (latest_features es)
