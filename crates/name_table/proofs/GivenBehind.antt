-- What is left of a list behind its end.
use Rattle.std.proofs.Common.{◌≡◌, ℕ, zero, suc, ◌≤◌, List, [], ◌∷◌, drop, length, refl, arith}

pub drop_none : {T : Type 0} (xs : List T) (k : ℕ) → length xs ≤ k → drop k xs ≡ []
drop_none [] zero h = refl
drop_none [] (suc k) h = refl
drop_none (x ∷ xs) zero h = absurd (omega arith)
drop_none (x ∷ xs) (suc k) h = drop_none xs k (omega arith)
