-- Eight octets.
use Rattle.std.proofs.Common.{◌≡◌, ℕ, suc, ◌<◌, List, [], ◌∷◌, length, get_or, Some, refl, ap, ap₂, ◌∙◌, arith}
use Rattle.std.proofs.lemmas.Bool.{lt-ltb}
use Rattle.std.specs.Bool.{then_some}
use Rattle.std.specs.Fmt.{◌++?◌}
use Rattle.table_file.specs.Octets.{spelled_octet, spelled_each, spelled_run}
use Rattle.table_file.specs.inner.ListCodes.{run_of}

-- read place by place
pub eight : (xs : List ℕ) → length xs ≡ 8 → get_or xs 0 0 ∷ get_or xs 1 0 ∷ get_or xs 2 0 ∷ get_or xs 3 0
    ∷ get_or xs 4 0 ∷ get_or xs 5 0 ∷ get_or xs 6 0 ∷ get_or xs 7 0 ∷ [] ≡ xs
eight [] l = absurd (omega arith)
eight (a ∷ []) l = absurd (omega arith)
eight (a ∷ b ∷ []) l = absurd (omega arith)
eight (a ∷ b ∷ c ∷ []) l = absurd (omega arith)
eight (a ∷ b ∷ c ∷ d ∷ []) l = absurd (omega arith)
eight (a ∷ b ∷ c ∷ d ∷ e ∷ []) l = absurd (omega arith)
eight (a ∷ b ∷ c ∷ d ∷ e ∷ f ∷ []) l = absurd (omega arith)
eight (a ∷ b ∷ c ∷ d ∷ e ∷ f ∷ g ∷ []) l = absurd (omega arith)
eight (a ∷ b ∷ c ∷ d ∷ e ∷ f ∷ g ∷ h ∷ []) l = refl
eight (a ∷ b ∷ c ∷ d ∷ e ∷ f ∷ g ∷ h ∷ i ∷ xs) l = absurd (omega arith)

-- octets stand for themselves
each_octet : (xs : List ℕ) → ((i : ℕ) → get_or xs i 0 < 256) → spelled_each spelled_octet xs ≡ Some xs
each_octet [] small = refl
each_octet (x ∷ xs) small =
    ap₂ (λ o p. o ++? p) (ap (λ b. then_some b (x ∷ [])) (lt-ltb x 256 (small 0))) (each_octet xs (λ i. small (suc i)))

pub sets_spelled : (xs : List ℕ) → length xs ≡ 8 → ((i : ℕ) → get_or xs i 0 < 256)
    → spelled_run 8 spelled_octet xs ≡ Some xs
sets_spelled xs l small = run_of 8 spelled_octet xs l ∙ each_octet xs small
