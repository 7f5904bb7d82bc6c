-- A node that has a name is named.
use Rattle.std.proofs.Common.{◌≡◌, ℕ, suc, Bool, true, false, ◌||◌, nat_eq, List, [], ◌∷◌, refl, Contains, arith, inl, inr, ◌⊎◌}
use Rattle.std.specs.List.{list_any}
use Rattle.std.proofs.lemmas.Bool.{eqb-true}
use Rattle.type_model.specs.Names.{IsNamed}
use Rattle.giop_types.specs.GiopModel.{giop_names}
use Rattle.giop_types.specs.Named.{has_name}

either : (a b : Bool) → (a || b) ≡ true → (a ≡ true) ⊎ (b ≡ true)
either true b e = inl refl
either false b e = inr e

contains_more : (x y : ℕ) (xs : List ℕ) → Contains xs y → Contains (x ∷ xs) y
contains_more x y xs h = (suc h.0, omega (arith, h.1), h.2)

named_in : (names : List (List ℕ × ℕ)) (node : ℕ) → list_any (λ name. nat_eq name.1 node) names ≡ true
    → IsNamed names node
named_in [] node e = absurd (cc)
named_in (name ∷ more) node e =
    elim (either (nat_eq name.1 node) (list_any (λ n. nat_eq n.1 node) more) e) [
      | inl here ↦ (0, omega arith, eqb-true name.1 node here)
      | inr there ↦ contains_more name.1 node _ (named_in more node there)
    ]

pub named : (node : ℕ) → has_name node ≡ true → IsNamed giop_names node
named node e = named_in giop_names node e
