-- What a chain of operands spells, how it groups, and its levels, by the list of its `Vec`.
use Rattle.std.proofs.Common.{◌≡◌, ◌++◌, ◌∙◌, ℕ, suc, max, ◌≤◌, Bool, true, false, ◌&&◌, nat_lt, [], Vec, Global, refl, sym, subst, arith}
use Rattle.std.specs.Prelude.{Box}
use Rattle.std.specs.List.{AllByRecursion, flat_map}
use Rattle.std.proofs.lemmas.Bool.{and_parts, ltb-true, lt-ltb}
use Rattle.std.proofs.lemmas.Bool.Decides.{Decides-eqb}
use mathlib.Core.Former.{Count}
use Rattle.idl_tree.specs.declared.expression.Expr.{Expr, Name, Number, Character, Text, Boolean, Parenthesized', Signed', Chain, Chain', Row_of-Operand, end_of-Operand, more_of-Operand, items-the_row-Operand, items_hidden-the_row-Operand-0}
use Rattle.idl_tree.specs.declared.expression.Operand.{Operand}
use Rattle.idl_tree.specs.declared.expression.Operator.{Operator}
use Rattle.idl_tree.specs.declared.expression.Operator.TheVariants.{Or, Xor, And, ShiftLeft, ShiftRight, Add, Subtract, Multiply, Divide, Remainder}
use Rattle.idl_tree.specs.Grouping.{level_of, first_level, is_operator_of, is_of_level, are_of_level, IsOfLevel, IsOperandOf}
use Rattle.idl_tree.specs.Levels.{highest, expr_levels, operands_levels, operand_levels}
use Rattle.idl_tree.proofs.Rows.{chain_walk}
use Rattle.idl_tree.specs.Yields.{expr_yield, operands_yield, operand_yield}

abbrev row_of : Expr → (n : Count) × Row_of-Operand n
row_of (Chain' p first shape row) = (_, row)
row_of _ = (_, end_of-Operand)

pub chain_yield : (first : Box Expr Global) (rest : Vec Operand Global)
    → expr_yield (Chain first rest) ≡ expr_yield first.value ++ flat_map operand_yield rest.items
chain_yield first rest =
    chain_walk expr_yield (λ n row. operands_yield row) (λ e others. expr_yield e ++ others) []
    (λ x others. operand_yield x ++ others) (flat_map operand_yield)
    (λ p e shape row. refl) refl (λ n x row. refl) refl (λ x xs. refl) first rest

pub chain_levels : (first : Box Expr Global) (rest : Vec Operand Global)
    → expr_levels (Chain first rest) ≡ max (expr_levels first.value) (highest operand_levels rest.items)
chain_levels first rest =
    chain_walk expr_levels (λ n row. operands_levels row) (λ e most. max (expr_levels e) most) 0
    (λ x most. max (operand_levels x) most) (highest operand_levels)
    (λ p e shape row. refl) refl (λ n x row. refl) refl (λ x xs. refl) first rest

-- ---- levels of operators

both : {a b : Bool} → a ≡ true → b ≡ true → (a && b) ≡ true
both {a = true} e f = f
both {a = false} e f = absurd cc

lt_looser : (m n k : ℕ) → m ≤ n → nat_lt n k ≡ true → nat_lt m k ≡ true
lt_looser m n k le h = let lt = ltb-true n k h in lt-ltb m k (omega (arith, le, lt))

-- an expression of a level is one of each looser level
pub looser : (s : Bool) (e : Expr) (m n : ℕ) → m ≤ n → IsOfLevel s n e → IsOfLevel s m e
looser s (Name name) m n le h = refl
looser s (Number l) m n le h = refl
looser s (Character l) m n le h = refl
looser s (Text ls) m n le h = refl
looser s (Boolean b word) m n le h = refl
looser s (Parenthesized' l p inner) m n le h = h
looser s (Signed' l o p inner) m n le h =
    let parts = and_parts (nat_lt n 7) (is_of_level s 7 inner) h in
    both (lt_looser m n 7 le parts.0) parts.1
looser s (Chain' p first shape rest) m n le h =
    let level = first_level rest in
    let most = nat_lt level 6 in
    let front = is_of_level s (suc level) first in
    let split = and_parts ((nat_lt n (suc level) && most) && front) (are_of_level s level rest) h in
    let begin = and_parts (nat_lt n (suc level) && most) front split.0 in
    let bounds = and_parts (nat_lt n (suc level)) most begin.0 in
    both (both (both (lt_looser m n (suc level) le bounds.0) bounds.1) begin.1) split.1

-- an operator of a level has the level
operator_level : (s : Bool) (level : ℕ) (o : Operator) → is_operator_of s level o ≡ true → level_of o ≡ level
operator_level true level o h = (Decides-eqb (level_of o) level).0 h
operator_level false level Or h = (Decides-eqb 0 level).0 h
operator_level false level Xor h = (Decides-eqb 1 level).0 h
operator_level false level And h = (Decides-eqb 2 level).0 h
operator_level false level ShiftLeft h = (Decides-eqb 3 level).0 h
operator_level false level ShiftRight h = absurd cc
operator_level false level Add h = (Decides-eqb 4 level).0 h
operator_level false level Subtract h = (Decides-eqb 4 level).0 h
operator_level false level Multiply h = (Decides-eqb 5 level).0 h
operator_level false level Divide h = (Decides-eqb 5 level).0 h
operator_level false level Remainder h = (Decides-eqb 5 level).0 h

operands_level : (s : Bool) (level : ℕ) (n : _) (row : Row_of-Operand n)
    → AllByRecursion (IsOperandOf s level) (items-the_row-Operand n row) → are_of_level s level row ≡ true
operands_level s level n end_of-Operand h = refl
operands_level s level n (more_of-Operand o e rest) h = both (both h.0.0 h.0.1) (operands_level s level _ rest h.1)

-- the level of the first operator is that of all
row_level : (s : Bool) (level : ℕ) (n : _) (row : Row_of-Operand n) → (items-the_row-Operand n row ≡ [] → ⊥)
    → AllByRecursion (IsOperandOf s level) (items-the_row-Operand n row) → first_level row ≡ level
row_level s level n end_of-Operand some h = absurd (some refl)
row_level s level n (more_of-Operand o e rest) some h = operator_level s level o h.0.0

-- a chain of operators of a level
pub chain_level : (s : Bool) (level : ℕ) (first : Box Expr Global) (rest : Vec Operand Global) → level ≤ 5
    → (rest.items ≡ [] → ⊥) → IsOfLevel s (suc level) first.value → AllByRecursion (IsOperandOf s level) rest.items
    → IsOfLevel s level (Chain first rest)
chain_level s level first rest le some tighter operands =
    let row = row_of (Chain first rest) in
    let same = items_hidden-the_row-Operand-0 rest in
    let each : AllByRecursion (IsOperandOf s level) (items-the_row-Operand row.0 row.1) =
    subst (AllByRecursion (IsOperandOf s level)) (sym same) operands in
    let is : first_level row.1 ≡ level = row_level s level row.0 row.1 (λ none. some (sym same ∙ none)) each in
    both (both (both (lt-ltb level (suc (first_level row.1)) (omega (arith, is)))
    (lt-ltb (first_level row.1) 6 (omega (arith, is, le))))
    (subst (λ k. IsOfLevel s (suc k) first.value) (sym is) tighter))
    (subst (λ k. are_of_level s k row.1 ≡ true) (sym is) (operands_level s level row.0 row.1 each))
