-- Lists in which one stands in the place of another, or one more at the end.
use Rattle.std.proofs.Common.{◌≡◌, ◌∙◌, ◌⊎◌, inl, inr, ℕ, zero, suc, ◌+◌, ◌<◌, List, [], ◌∷◌, ◌++◌, length, Some, None, Option, refl, sym, ap, subst, arith}
use Rattle.std.specs.Prelude.{slice_get, slice_set, IsSomeAnd}
use Rattle.std.specs.List.{sum_by}
use Rattle.std.proofs.lemmas.List.Recursion.{is_sum_by}
use Rattle.std.proofs.lemmas.Option.{slice_get_within}
use Rattle.name_table.proofs.Stability.{get_push_low}

-- ---- what is there

pub some_is : {T : Type 0} (o : Option T) (P : T → Type 0) → IsSomeAnd o P → (x : T) × (o ≡ Some x) × P x
some_is None P h = absurd h
some_is (Some x) P h = (x, refl, h)

pub is_some_and : {T : Type 0} (o : Option T) (P : T → Type 0) (x : T) → o ≡ Some x → P x → IsSomeAnd o P
is_some_and o P x is h = subst (λ o. IsSomeAnd o P) (sym is) h

pub there_at : {T : Type 0} (xs : List T) (k : ℕ) → k < length xs → (x : T) × (slice_get xs k ≡ Some x)
there_at [] k lt = absurd (omega (arith, lt))
there_at (x ∷ xs) zero lt = (x, refl)
there_at (x ∷ xs) (suc k) lt = there_at xs k (omega (arith, lt))

-- ---- one more at the end

pub push_low : {T : Type 0} (xs : List T) (y : T) (k : ℕ) (x : T) → slice_get xs k ≡ Some x
    → slice_get (xs ++ y ∷ []) k ≡ Some x
push_low xs y k x is = get_push_low xs y k (slice_get_within xs k x is) ∙ is

pub push_cases : {T : Type 0} (xs : List T) (y : T) (k : ℕ) (x : T) → slice_get (xs ++ y ∷ []) k ≡ Some x
    → (slice_get xs k ≡ Some x) ⊎ ((k ≡ length xs) × (y ≡ x))
push_cases [] y zero x is = inr (refl, cc)
push_cases [] y (suc k) x is = absurd cc
push_cases (z ∷ zs) y zero x is = inl is
push_cases (z ∷ zs) y (suc k) x is = by (push_cases zs y k x is)
  where
    by : (slice_get zs k ≡ Some x) ⊎ ((k ≡ length zs) × (y ≡ x)) → (slice_get zs k ≡ Some x)
        ⊎ ((suc k ≡ length (z ∷ zs)) × (y ≡ x))
    by (inl old) = inl old
    by (inr (at, same)) = inr (omega (arith, at), same)

-- ---- one in the place of another

pub set_here : {T : Type 0} (xs : List T) (e : ℕ) (x y : T) → slice_get xs e ≡ Some x
    → slice_get (slice_set xs e y) e ≡ Some y
set_here [] e x y is = absurd cc
set_here (z ∷ zs) zero x y is = refl
set_here (z ∷ zs) (suc e) x y is = set_here zs e x y is

pub set_other : {T : Type 0} (xs : List T) (e k : ℕ) (y : T) → (k ≡ e → ⊥)
    → slice_get (slice_set xs e y) k ≡ slice_get xs k
set_other [] e k y differ = refl
set_other (z ∷ zs) zero zero y differ = absurd (differ refl)
set_other (z ∷ zs) zero (suc k) y differ = refl
set_other (z ∷ zs) (suc e) zero y differ = refl
set_other (z ∷ zs) (suc e) (suc k) y differ = set_other zs e k y (λ same. differ (ap suc same))

-- one number is another, or it isn't
pub same_or_not : (k e : ℕ) → (k ≡ e) ⊎ (k ≡ e → ⊥)
same_or_not zero zero = inl refl
same_or_not zero (suc e) = inr (λ same. omega (arith, same))
same_or_not (suc k) zero = inr (λ same. omega (arith, same))
same_or_not (suc k) (suc e) = by (same_or_not k e)
  where
    by : (k ≡ e) ⊎ (k ≡ e → ⊥) → (suc k ≡ suc e) ⊎ (suc k ≡ suc e → ⊥)
    by (inl same) = inl (ap suc same)
    by (inr differ) = inr (λ same. differ (omega (arith, same)))

pub set_cases : {T : Type 0} (xs : List T) (e : ℕ) (x y : T) (k : ℕ) (z : T) → slice_get xs e ≡ Some x
    → slice_get (slice_set xs e y) k ≡ Some z
    → ((k ≡ e) × (y ≡ z)) ⊎ ((k ≡ e → ⊥) × (slice_get xs k ≡ Some z))
set_cases xs e x y k z is there = by (same_or_not k e)
  where
    by : (k ≡ e) ⊎ (k ≡ e → ⊥) → ((k ≡ e) × (y ≡ z)) ⊎ ((k ≡ e → ⊥) × (slice_get xs k ≡ Some z))
    by (inl same) =
        let here = set_here xs e x y is in
        let at : slice_get (slice_set xs e y) e ≡ Some z =
        subst (λ j. slice_get (slice_set xs e y) j ≡ Some z) same there in
        inl (same, cc)
    by (inr differ) = inr (differ, sym (set_other xs e k y differ) ∙ there)

-- ---- sums

total : {T : Type 0} (f : T → ℕ) → List T → ℕ
total f [] = 0
total f (x ∷ xs) = f x + total f xs

total_is : {T : Type 0} (f : T → ℕ) (xs : List T) → total f xs ≡ sum_by f xs
unfolding total
total_is f xs = is_sum_by (total f) f refl (λ x xs. refl) xs

total_push : {T : Type 0} (f : T → ℕ) (xs : List T) (y : T) → total f (xs ++ y ∷ []) ≡ total f xs + f y
unfolding total
total_push f [] y = omega arith
total_push f (x ∷ xs) y = omega (arith, total_push f xs y)

total_set : {T : Type 0} (f : T → ℕ) (xs : List T) (e : ℕ) (x y : T) → slice_get xs e ≡ Some x → f x ≡ 0
    → total f (slice_set xs e y) ≡ total f xs + f y
unfolding total
total_set f [] e x y is none = absurd cc
total_set f (z ∷ zs) zero x y is none =
    let same : z ≡ x = cc in
    let zeros : f z ≡ 0 = ap f same ∙ none in
    omega (arith, zeros)
total_set f (z ∷ zs) (suc e) x y is none = omega (arith, total_set f zs e x y is none)

pub sum_push : {T : Type 0} (f : T → ℕ) (xs : List T) (y : T) → sum_by f (xs ++ y ∷ []) ≡ sum_by f xs + f y
sum_push f xs y = sym (total_is f (xs ++ y ∷ [])) ∙ total_push f xs y ∙ ap (λ n. n + f y) (total_is f xs)

-- in the place of what counts nothing
pub sum_set : {T : Type 0} (f : T → ℕ) (xs : List T) (e : ℕ) (x y : T) → slice_get xs e ≡ Some x → f x ≡ 0
    → sum_by f (slice_set xs e y) ≡ sum_by f xs + f y
sum_set f xs e x y is none = sym (total_is f (slice_set xs e y)) ∙ total_set f xs e x y is none
    ∙ ap (λ n. n + f y) (total_is f xs)
