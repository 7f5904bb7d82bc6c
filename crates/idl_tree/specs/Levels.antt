-- How many levels stand one inside another: of expressions, the levels of their parentheses.
use Rattle.std.specs.Prelude.{ℕ, suc, max, List, [], ◌∷◌, Option, Some, None}
use Rattle.idl_tree.specs.declared.names.Listed.{Listed}
use Rattle.idl_tree.specs.declared.expression.Expr.{Expr, Parenthesized', Signed', Chain', Row_of-Operand, end_of-Operand, more_of-Operand}
use Rattle.idl_tree.specs.declared.expression.Operand.{Operand}
use Rattle.idl_tree.specs.declared.const_expr.ConstExpr.{ConstExpr}
use Rattle.idl_tree.specs.declared.const_expr.Bound.{Bound}

-- the most levels of some parts
abbrev pub highest : {T : Type 0} → (T → ℕ) → List T → ℕ
highest levels [] = 0
highest levels (x ∷ xs) = max (levels x) (highest levels xs)

abbrev pub highest_listed : {T : Type 0} → (T → ℕ) → Listed T → ℕ
highest_listed levels l = max (levels l.first) (highest levels l.rest.items)

abbrev pub optional_levels : {T : Type 0} → (T → ℕ) → Option T → ℕ
optional_levels levels None = 0
optional_levels levels (Some x) = levels x

abbrev mutual
  pub expr_levels : Expr → ℕ
  expr_levels (Parenthesized' l p inner) = suc (expr_levels inner)
  expr_levels (Signed' m s p inner) = expr_levels inner
  expr_levels (Chain' p first shape rest) = max (expr_levels first) (operands_levels rest)
  expr_levels e = 0

  pub operands_levels : {n : _} → Row_of-Operand n → ℕ
  operands_levels end_of-Operand = 0
  operands_levels (more_of-Operand o e rest) = max (expr_levels e) (operands_levels rest)

abbrev pub operand_levels : Operand → ℕ
operand_levels x = expr_levels x.operand

abbrev pub const_expr_levels : ConstExpr → ℕ
const_expr_levels c = expr_levels c.expr

abbrev pub bound_levels : Bound → ℕ
bound_levels b = expr_levels b.expr.value
