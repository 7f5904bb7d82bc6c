-- What a tree is but for where its parts lie in memory: the kinds of its parts, their order, and of each token that it
-- keeps the text, the number and the line. Of names and expressions.
use Rattle.std.specs.Prelude.{ℕ, Bool, true, false, List, [], ◌∷◌, Option, Some, None, codes}
use Rattle.idl_lexer.specs.Tokens.{TokenParts, parts_of}
use Rattle.idl_tree.specs.declared.names.Leaf.{Leaf}
use Rattle.idl_tree.specs.declared.names.Listed.{Listed}
use Rattle.idl_tree.specs.declared.names.Path.{Path}
use Rattle.idl_tree.specs.declared.names.ScopedName.{ScopedName}
use Rattle.idl_tree.specs.declared.names.ScopedName.TheVariants.{Plain, Scoped}
use Rattle.idl_tree.specs.declared.expression.Operator.{Operator}
use Rattle.idl_tree.specs.declared.expression.Expr.{Expr, Name, Number, Character, Text, Boolean, Parenthesized', Signed', Chain', Row_of-Operand, end_of-Operand, more_of-Operand}
use Rattle.idl_tree.specs.declared.const_expr.ConstExpr.{ConstExpr}
use Rattle.idl_tree.specs.declared.const_expr.Bound.{Bound}
use Rattle.idl_tree.specs.Yields.{operator_text, sign_text, boolean_text}

-- nothing; a token with the text that it stands for, its number, and all that the lexer says of it; a part of a kind,
-- which a word names; two parts in order
pub data Shape : Type 0 where
  Nothing : Shape
  Token : List ℕ → ℕ → TokenParts → Shape
  Kind : List ℕ → Shape → Shape
  Both : Shape → Shape → Shape

-- a kind that has no parts
abbrev pub word : List ℕ → Shape
word text = Kind text Nothing

-- a token of this text
abbrev pub token_shape : List ℕ → Leaf → Shape
token_shape text l = Token text l.number (parts_of l.token)

abbrev pub leaf_shape : Leaf → Shape
leaf_shape l = token_shape l.token.text.now l

abbrev pub root_shape : Leaf → Shape
root_shape l = token_shape (codes "::") l

abbrev pub bool_shape : Bool → Shape
bool_shape true = word (codes "true")
bool_shape false = word (codes "false")

abbrev pub optional_shape : {T : Type 0} → (T → Shape) → Option T → Shape
optional_shape part None = Nothing
optional_shape part (Some x) = Kind (codes "some") (part x)

abbrev pub list_shape : {T : Type 0} → (T → Shape) → List T → Shape
list_shape part [] = Nothing
list_shape part (x ∷ xs) = Both (part x) (list_shape part xs)

abbrev pub listed_shape : {T : Type 0} → (T → Shape) → Listed T → Shape
listed_shape part l = Both (part l.first) (list_shape part l.rest.items)

abbrev pub path_shape : Path → Shape
path_shape p = Both (Both (optional_shape root_shape p.root) (leaf_shape p.first)) (list_shape leaf_shape p.rest.items)

abbrev pub name_shape : ScopedName → Shape
name_shape (Plain l) = Kind (codes "plain") (leaf_shape l)
name_shape (Scoped p) = Kind (codes "scoped") (path_shape p.value)

abbrev pub names_shape : Listed ScopedName → Shape
names_shape names = listed_shape name_shape names

abbrev pub operator_shape : Operator → Shape
operator_shape o = word (operator_text o)

abbrev mutual
  pub expr_shape : Expr → Shape
  expr_shape (Name n) = Kind (codes "name") (name_shape n)
  expr_shape (Number l) = Kind (codes "number") (leaf_shape l)
  expr_shape (Character l) = Kind (codes "character") (leaf_shape l)
  expr_shape (Text ls) = Kind (codes "text") (listed_shape leaf_shape ls.value)
  expr_shape (Boolean b l) = Kind (codes "boolean") (token_shape (boolean_text b) l)
  expr_shape (Parenthesized' l p inner) =
      Kind (codes "parenthesized") (Both (token_shape (codes "(") l) (expr_shape inner))
  expr_shape (Signed' m s p inner) =
      Kind (codes "signed") (Both (token_shape (sign_text s) m) (expr_shape inner))
  expr_shape (Chain' p first shape rest) = Kind (codes "chain") (Both (expr_shape first) (operands_shape rest))

  pub operands_shape : {n : _} → Row_of-Operand n → Shape
  operands_shape end_of-Operand = Nothing
  operands_shape (more_of-Operand o e rest) = Both (Both (operator_shape o) (expr_shape e)) (operands_shape rest)

abbrev pub const_expr_shape : ConstExpr → Shape
const_expr_shape c = expr_shape c.expr

abbrev pub bound_shape : Bound → Shape
bound_shape b = expr_shape b.expr.value
