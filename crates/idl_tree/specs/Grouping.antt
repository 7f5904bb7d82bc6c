-- How operands and operators group: the levels of the IDL grammar from <or_expr> down to <primary_expr>
-- (ISO/IEC 19500-1, constant declaration).
use Rattle.std.specs.Prelude.{◌≡◌, ℕ, suc, Bool, true, false, ◌&&◌, nat_eq, nat_lt}
use Rattle.idl_tree.specs.declared.expression.Operator.{Operator}
use Rattle.idl_tree.specs.declared.expression.Operator.TheVariants.{Or, Xor, And, ShiftLeft, ShiftRight, Add, Subtract, Multiply, Divide, Remainder}
use Rattle.idl_tree.specs.declared.expression.Expr.{Expr, Parenthesized', Signed', Chain', Row_of-Operand, end_of-Operand, more_of-Operand}
use Rattle.idl_tree.specs.declared.expression.Operand.{Operand}

-- the level of an operator, the loosest first
abbrev pub level_of : Operator → ℕ
level_of Or = 0
level_of Xor = 1
level_of And = 2
level_of ShiftLeft = 3
level_of ShiftRight = 3
level_of Add = 4
level_of Subtract = 4
level_of Multiply = 5
level_of Divide = 5
level_of Remainder = 5

-- that of the first of some operators; 6 for none
abbrev pub first_level : {n : _} → Row_of-Operand n → ℕ
first_level end_of-Operand = 6
first_level (more_of-Operand o e rest) = level_of o

-- an operator of the level; where no shift may stand, no right shift
abbrev pub is_operator_of : Bool → ℕ → Operator → Bool
is_operator_of false level ShiftRight = false
is_operator_of false level o = nat_eq (level_of o) level
is_operator_of true level o = nat_eq (level_of o) level

abbrev mutual
  -- The expression is one of the level, or of a tighter one. A chain has one operator or more, all of one level, and
  -- its operands are tighter. Level 6 is that of an operand that may have a sign, level 7 of one that has none. Where
  -- `shifts` is false a right shift stands in parentheses only.
  pub is_of_level : Bool → ℕ → Expr → Bool
  is_of_level shifts n (Parenthesized' l p inner) = is_of_level true 0 inner
  is_of_level shifts n (Signed' m s p inner) = nat_lt n 7 && is_of_level shifts 7 inner
  is_of_level shifts n (Chain' p first shape rest) =
      nat_lt n (suc (first_level rest)) && nat_lt (first_level rest) 6
      && is_of_level shifts (suc (first_level rest)) first && are_of_level shifts (first_level rest) rest
  is_of_level shifts n e = true

  -- operators of the level, each with a tighter operand behind it
  pub are_of_level : Bool → ℕ → {n : _} → Row_of-Operand n → Bool
  are_of_level shifts level end_of-Operand = true
  are_of_level shifts level (more_of-Operand o e rest) =
      is_operator_of shifts level o && is_of_level shifts (suc level) e && are_of_level shifts level rest

abbrev pub IsOfLevel : Bool → ℕ → Expr → Type 0
IsOfLevel shifts n e = is_of_level shifts n e ≡ true

-- an operator of the level with a tighter operand behind it
abbrev pub IsOperandOf : Bool → ℕ → Operand → Type 0
IsOperandOf shifts level x =
    (is_operator_of shifts level x.operator ≡ true) × IsOfLevel shifts (suc level) x.operand
