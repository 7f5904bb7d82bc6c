-- What holds of each node that a node holds holds of those that its values are made of.
use Rattle.std.proofs.Common.{ℕ, zero, suc, ℤ, true, false, cond, List, [], ◌∷◌, ◌++◌, length, map, replicate, inl, inr, Option, option_to_list, sym, subst}
use Rattle.std.specs.List.{AllByRecursion}
use Rattle.std.specs.Ordering.{int_eq}
use Rattle.std.proofs.lemmas.Bool.{cases_lt}
use Rattle.std.proofs.lemmas.List.{get_or_past}
use Rattle.type_graph.specs.declared.node.Node.{Node}
use Rattle.type_graph.specs.declared.node.Node.TheVariants.{Octet}
use Rattle.type_graph.specs.Value.{arm_of}
use Rattle.type_graph.specs.GraphRules.{held_by, IsShallow, IsGraph}

-- of what a discriminator chooses
pub all_chosen : (P : ℕ → Type 0) (arms : List (ℤ × ℕ)) (default : Option ℕ) (a : ℤ)
    → AllByRecursion P (map (λ arm. arm.1) arms ++ option_to_list default) → AllByRecursion P (arm_of arms default a)
all_chosen P [] default a h = h
all_chosen P (arm ∷ more) default a h =
    elim (int_eq arm.0 a) as (λ b. AllByRecursion P (cond b (arm.1 ∷ []) (arm_of more default a))) [
      | true ↦ (h.0, tt)
      | false ↦ all_chosen P more default a h.1
    ]

-- of each element
pub all_repeated : (P : ℕ → Type 0) (n number : ℕ) → P number → AllByRecursion P (replicate n number)
all_repeated P zero number h = tt
all_repeated P (suc n) number h = (h, all_repeated P n number h)

-- no path of a graph is longer than 64, also from a number past its end
pub shallow_all : (graph : List Node) → IsGraph graph → (number : ℕ) → IsShallow 64 graph number
unfolding IsShallow
shallow_all graph rules number = elim (cases_lt number (length graph)) as (λ v. IsShallow 64 graph number) [
  | inl lt ↦ rules.shallow number lt
  | inr le ↦ subst (λ (node : Node). AllByRecursion (IsShallow 63 graph) (held_by node))
      (sym (get_or_past graph number Octet le)) tt
]
