-- How many parts an expression has: it falls with each step into it.
use Rattle.std.proofs.Common.{◌≡◌, ℕ, zero, suc, ◌+◌, ◌<◌, ◌≤◌, List, [], ◌∷◌, Vec, Global, length, get_or, refl, ap, arith}
use Rattle.std.specs.Prelude.{Box}
use Rattle.idl_tree.specs.declared.expression.Expr.{Expr, Parenthesized', Signed', Chain, Chain', Row_of-Operand, end_of-Operand, more_of-Operand}
use Rattle.idl_tree.specs.declared.expression.Operand.{Operand}
use Rattle.idl_tree.proofs.Rows.{chain_walk}

abbrev mutual
  pub weight : Expr → ℕ
  weight (Parenthesized' l p inner) = weight inner + 1
  weight (Signed' m s p inner) = weight inner + 1
  weight (Chain' p first shape rest) = weight first + weights rest + 1
  weight e = 1

  pub weights : {n : _} → Row_of-Operand n → ℕ
  weights end_of-Operand = 0
  weights (more_of-Operand o e rest) = weight e + weights rest

-- of operands, by a list
abbrev pub list_weight : List Operand → ℕ
list_weight [] = 0
list_weight (x ∷ xs) = weight x.operand + list_weight xs

pub chain_weight : (first : Box Expr Global) (rest : Vec Operand Global)
    → weight (Chain first rest) ≡ weight first.value + list_weight rest.items + 1
chain_weight first rest =
    chain_walk weight (λ n row. weights row) (λ e others. weight e + others + 1) 0
    (λ x others. weight x.operand + others) list_weight
    (λ p e shape row. refl) refl (λ n x row. refl) refl (λ x xs. refl) first rest

pub weight_at : (xs : List Operand) (k : ℕ) (x : Operand) → k < length xs → get_or xs k x ≡ x
    → weight x.operand ≤ list_weight xs
weight_at [] k x lt here = absurd (omega arith)
weight_at (y ∷ ys) zero x lt here = omega (arith, ap (λ z. weight z.operand) here)
weight_at (y ∷ ys) (suc k) x lt here = let rest = weight_at ys k x (omega arith) here in omega (arith, rest)
