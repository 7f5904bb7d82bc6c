-- What `all` answers, where each element passes or breaks a fact.
use Rattle.std.proofs.Common.{◌↔◌, ◌<◌, ℕ, Bool, true, false, IsTrue, MatchBool, List, [], ◌∷◌, length, All, refl, sym, arith}
use Rattle.std.specs.List.{HoldsAt, AllWithin}
use Rattle.std.proofs.lemmas.Bool.{true≢false}
use Rattle.std.proofs.lemmas.List.Elements.{All-from_all_within}

module _ {A : Type 0} (Keeps : A → Type 0) where
  one_breaks : (xs : List A) (k : ℕ) → k < length xs → HoldsAt (λ x. Keeps x → ⊥) xs k → All Keeps xs → ⊥
  one_breaks [] k within h all = absurd (omega arith)
  one_breaks (x ∷ xs) k within h all = h x (all k x within)

  pub all_from_cases : (r : Bool) (xs : List A)
      → MatchBool r (AllWithin Keeps xs 0 (length xs)) ((k : ℕ) × (k < length xs) × HoldsAt (λ x. Keeps x → ⊥) xs k)
      → IsTrue r ↔ All Keeps xs
  all_from_cases true xs h = (λ _. All-from_all_within Keeps xs h, λ _. refl)
  all_from_cases false xs h = (λ e. absurd (true≢false (sym e)), λ all. absurd (one_breaks xs h.0 h.1 h.2 all))
