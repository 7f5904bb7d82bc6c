-- A list about one of its items.
use Rattle.std.proofs.Common.{◌≡◌, ℕ, zero, suc, ◌<◌, List, [], ◌∷◌, ◌++◌, length, take, drop, slice_set, slice_index_or, refl, sym, ap, arith}

pub item_split : {A : Type 0} (items : List A) (at : ℕ) (s : A) → at < length items → s ≡ slice_index_or items at s
    → items ≡ take at items ++ s ∷ drop (suc at) items
item_split [] at s lt e = absurd (omega (arith, lt))
item_split (x ∷ xs) zero s lt e = ap (λ y. y ∷ xs) (sym e)
item_split (x ∷ xs) (suc at) s lt e = ap (λ ys. x ∷ ys) (item_split xs at s (omega (arith, lt)) e)

pub set_parts : {A : Type 0} (items : List A) (at : ℕ) (t : A) → at < length items
    → slice_set items at t ≡ take at items ++ t ∷ drop (suc at) items
set_parts [] at t lt = absurd (omega (arith, lt))
set_parts (x ∷ xs) zero t lt = refl
set_parts (x ∷ xs) (suc at) t lt = ap (λ ys. x ∷ ys) (set_parts xs at t (omega (arith, lt)))

pub set_item : {A : Type 0} (items : List A) (at : ℕ) (t d : A) → at < length items
    → slice_index_or (slice_set items at t) at d ≡ t
set_item [] at t d lt = absurd (omega (arith, lt))
set_item (x ∷ xs) zero t d lt = refl
set_item (x ∷ xs) (suc at) t d lt = set_item xs at t d (omega (arith, lt))

pub set_removed : {A : Type 0} (items : List A) (at : ℕ) (t : A) → at < length items
    → take at (slice_set items at t) ++ drop (suc at) (slice_set items at t) ≡ take at items ++ drop (suc at) items
set_removed [] at t lt = absurd (omega (arith, lt))
set_removed (x ∷ xs) zero t lt = refl
set_removed (x ∷ xs) (suc at) t lt = ap (λ ys. x ∷ ys) (set_removed xs at t (omega (arith, lt)))

pub drop_item : {A : Type 0} (items : List A) (at : ℕ) (s : A) → at < length items → s ≡ slice_index_or items at s
    → drop at items ≡ s ∷ drop (suc at) items
drop_item [] at s lt e = absurd (omega (arith, lt))
drop_item (x ∷ xs) zero s lt e = ap (λ y. y ∷ xs) (sym e)
drop_item (x ∷ xs) (suc at) s lt e = drop_item xs at s (omega (arith, lt)) e

pub take_set : {A : Type 0} (items : List A) (at : ℕ) (t : A) → at < length items
    → take (suc at) (slice_set items at t) ≡ take at items ++ t ∷ []
take_set [] at t lt = absurd (omega (arith, lt))
take_set (x ∷ xs) zero t lt = refl
take_set (x ∷ xs) (suc at) t lt = ap (λ ys. x ∷ ys) (take_set xs at t (omega (arith, lt)))

pub drop_set : {A : Type 0} (items : List A) (at : ℕ) (t : A)
    → drop (suc at) (slice_set items at t) ≡ drop (suc at) items
drop_set [] zero t = refl
drop_set [] (suc at) t = refl
drop_set (x ∷ xs) zero t = refl
drop_set (x ∷ xs) (suc at) t = drop_set xs at t

pub take_removed : {A : Type 0} (items : List A) (at : ℕ) → at < length items
    → take at (take at items ++ drop (suc at) items) ≡ take at items
take_removed [] at lt = absurd (omega (arith, lt))
take_removed (x ∷ xs) zero lt = refl
take_removed (x ∷ xs) (suc at) lt = ap (λ ys. x ∷ ys) (take_removed xs at (omega (arith, lt)))

pub drop_removed : {A : Type 0} (items : List A) (at : ℕ) → at < length items
    → drop at (take at items ++ drop (suc at) items) ≡ drop (suc at) items
drop_removed [] at lt = absurd (omega (arith, lt))
drop_removed (x ∷ xs) zero lt = refl
drop_removed (x ∷ xs) (suc at) lt = drop_removed xs at (omega (arith, lt))
