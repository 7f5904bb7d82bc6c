-- What each number of a range gives, one behind another.
use Rattle.std.proofs.Common.{◌≡◌, ◌∙◌, ℕ, ◌+◌, ◌-◌, ◌<◌, List, ◌++◌, sym, ap, append_assoc}
use Rattle.std.specs.List.{flat_map, range_with_len}
use Rattle.lowered_operations.proofs.PlacesMore.{range_step}

-- what one number gives more, and what those that are left give
pub given_more : {T : Type 0} (f : ℕ → List T) (xs ys all : List T) (k e : ℕ) → k < e → ys ≡ xs ++ f k
    → xs ++ flat_map f (range_with_len k (e - k)) ≡ all → ys ++ flat_map f (range_with_len (k + 1) (e - (k + 1))) ≡ all
given_more f xs ys all k e lt pushed told =
    let left = flat_map f (range_with_len (k + 1) (e - (k + 1))) in
    ap (λ y. y ++ left) pushed ∙ append_assoc xs (f k) left ∙ sym (ap (λ r. xs ++ flat_map f r) (range_step k e lt))
    ∙ told
