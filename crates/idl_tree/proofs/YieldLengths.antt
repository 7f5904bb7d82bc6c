-- How many tokens names and expressions spell.
use Rattle.std.proofs.Common.{◌≡◌, ◌++◌, ◌∙◌, ℕ, suc, ◌+◌, ◌*◌, ◌<◌, ◌⊎◌, inl, inr, Bool, cond, List, [], ◌∷◌, Option, Some, None, Vec, Global, length, drop, get_or, length-append, refl, sym, ap, arith}
use Rattle.std.specs.Prelude.{Box, is_some, codes}
use Rattle.std.specs.List.{flat_map}
use Rattle.std.proofs.Math.Seq.{drop-cons}
use Rattle.idl_tree.specs.declared.names.Leaf.{Leaf}
use Rattle.idl_tree.specs.declared.names.Path.{Path}
use Rattle.idl_tree.specs.declared.names.ScopedName.TheVariants.{Plain, Scoped}
use Rattle.idl_tree.specs.declared.names.ScopedName.{ScopedName}
use Rattle.idl_tree.specs.Starts.{is_rooted, name_rest}
use Rattle.idl_tree.specs.declared.names.Listed.{Listed}
use Rattle.idl_tree.specs.declared.expression.Expr.{Expr, Number, Character, Text, Boolean, Parenthesized, Signed, Chain}
use Rattle.idl_tree.specs.declared.expression.Operand.{Operand}
use Rattle.idl_tree.specs.declared.expression.Operator.{Operator}
use Rattle.idl_tree.specs.declared.expression.Operator.TheVariants.{Or, Xor, And, ShiftLeft, ShiftRight, Add, Subtract, Multiply, Divide, Remainder}
use Rattle.idl_tree.specs.declared.expression.Sign.{Sign}
use Rattle.idl_tree.specs.Pieces.{piece, kept, touching, mark}
use Rattle.idl_tree.specs.Lists.{parts}
use Rattle.idl_tree.specs.Yields.{identifier, optional, root_yield, text_yield, path_yield, name_yield, operator_yield, expr_yield, operand_yield}
use Rattle.idl_tree.proofs.Chains.{chain_yield}

-- as many as the operator's marks
abbrev pub marks_of : Operator → ℕ
marks_of ShiftRight = 2
marks_of _ = 1

pub operator_length : (o : Operator) → length (operator_yield o) ≡ marks_of o
unfolding piece touching
operator_length Or = refl
operator_length Xor = refl
operator_length And = refl
operator_length ShiftLeft = refl
operator_length ShiftRight = refl
operator_length Add = refl
operator_length Subtract = refl
operator_length Multiply = refl
operator_length Divide = refl
operator_length Remainder = refl

rest_length : (ls : List Leaf) → length (flat_map (λ l. mark (codes "::") ++ identifier l) ls) ≡ 2 * length ls
unfolding kept piece
rest_length [] = refl
rest_length (l ∷ ls) = omega (arith, rest_length ls)

root_length : (root : Option Leaf) → length (optional root_yield root) ≡ cond (is_some root) 1 0
unfolding kept
root_length None = refl
root_length (Some l) = refl

path_length : (p : Path) → length (path_yield p) ≡ cond (is_some p.root) 1 0 + 1 + 2 * length p.rest.items
unfolding kept
path_length p =
    let behind = flat_map (λ l. mark (codes "::") ++ identifier l) p.rest.items in
    length-append (optional root_yield p.root ++ identifier p.first) behind
    ∙ omega (
      arith,
      length-append (optional root_yield p.root) (identifier p.first),
      root_length p.root,
      rest_length p.rest.items,
    )

pub name_length : (name : ScopedName) → length (name_yield name)
    ≡ cond (is_rooted name) 1 0 + 1 + 2 * length (name_rest name)
unfolding kept
name_length (Plain l) = refl
name_length (Scoped p) = path_length p.value

-- a number, a character or a boolean
pub one_length : (e : Expr) → ((l : Leaf) × (e ≡ Number l))
    ⊎ (((l : Leaf) × (e ≡ Character l)) ⊎ ((b : Bool) × (l : Leaf) × (e ≡ Boolean b l))) → 1 ≡ length (expr_yield e)
unfolding kept
one_length e (inl (l, is)) = sym (ap (λ x. length (expr_yield x)) is)
one_length e (inr (inl (l, is))) = sym (ap (λ x. length (expr_yield x)) is)
one_length e (inr (inr (b, l, is))) = sym (ap (λ x. length (expr_yield x)) is)

texts_length : (ls : List Leaf) → length (flat_map text_yield ls) ≡ length ls
unfolding kept
texts_length [] = refl
texts_length (l ∷ ls) = omega (arith, texts_length ls)

pub text_length : (ls : Box (Listed Leaf) Global) → length (expr_yield (Text ls)) ≡ length (parts ls.value)
unfolding kept
text_length ls = omega (arith, texts_length ls.value.rest.items)

pub parenthesized_length : (paren : Leaf) (inner : Box Expr Global)
    → length (expr_yield (Parenthesized paren inner)) ≡ 2 + length (expr_yield inner.value)
unfolding kept piece
parenthesized_length paren inner = omega (arith, length-append (expr_yield inner.value) (mark (codes ")")))

pub signed_length : (l : Leaf) (sign : Sign) (operand : Box Expr Global)
    → length (expr_yield (Signed l sign operand)) ≡ 1 + length (expr_yield operand.value)
unfolding kept
signed_length l sign operand = omega arith

pub chain_length : (first : Box Expr Global) (rest : Vec Operand Global)
    → length (expr_yield (Chain first rest))
    ≡ length (expr_yield first.value) + length (flat_map operand_yield rest.items)
chain_length first rest = ap length (chain_yield first rest)
    ∙ length-append (expr_yield first.value) (flat_map operand_yield rest.items)

-- the operands from the k-th on
pub operands_from : (xs : List Operand) (k : ℕ) (x : Operand) → k < length xs → get_or xs k x ≡ x
    → length (flat_map operand_yield (drop k xs)) ≡ length (operator_yield x.operator) + length (expr_yield x.operand)
    + length (flat_map operand_yield (drop (k + 1) xs))
operands_from xs k x lt here =
    let next : suc k ≡ k + 1 = omega arith in
    let split : drop k xs ≡ x ∷ drop (k + 1) xs = drop-cons xs k x lt ∙ ap (λ y. y ∷ drop (suc k) xs) here
    ∙ ap (λ j. x ∷ drop j xs) next in
    ap (λ ys. length (flat_map operand_yield ys)) split
    ∙ length-append (operand_yield x) (flat_map operand_yield (drop (k + 1) xs))
    ∙ omega (arith, length-append (operator_yield x.operator) (expr_yield x.operand))
