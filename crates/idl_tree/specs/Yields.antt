-- The pieces that a tree spells, from left to right: of names and expressions.
use Rattle.std.specs.Prelude.{ℕ, Bool, true, false, List, [], ◌++◌, Option, Some, None, codes}
use Rattle.std.specs.List.{flat_map}
use Rattle.idl_lexer.specs.declared.token.Kind.TheVariants.{Ident, CharLit, TextLit, Number as Integer}
use Rattle.idl_tree.specs.declared.names.Leaf.{Leaf}
use Rattle.idl_tree.specs.declared.names.Path.{Path}
use Rattle.idl_tree.specs.declared.names.ScopedName.{ScopedName}
use Rattle.idl_tree.specs.declared.names.ScopedName.TheVariants.{Plain, Scoped}
use Rattle.idl_tree.specs.declared.names.Listed.{Listed}
use Rattle.idl_tree.specs.declared.expression.Operator.{Operator}
use Rattle.idl_tree.specs.declared.expression.Operator.TheVariants.{Or, Xor, And, ShiftLeft, ShiftRight, Add, Subtract, Multiply, Divide, Remainder}
use Rattle.idl_tree.specs.declared.expression.Sign.{Sign}
use Rattle.idl_tree.specs.declared.expression.Sign.TheVariants.{Plus, Minus}
use Rattle.idl_tree.specs.declared.expression.Expr.{Expr, Name, Number, Character, Text, Boolean, Parenthesized', Signed', Chain', Row_of-Operand, end_of-Operand, more_of-Operand}
use Rattle.idl_tree.specs.declared.expression.Operand.{Operand}
use Rattle.idl_tree.specs.declared.const_expr.ConstExpr.{ConstExpr}
use Rattle.idl_tree.specs.declared.const_expr.Bound.{Bound}
use Rattle.idl_tree.specs.Pieces.{Piece, mark, touching, leaf, kept_keyword, kept_mark}

abbrev pub identifier : Leaf → List Piece
identifier l = leaf Ident l

-- one part or more, with commas between them
abbrev pub listed : {T : Type 0} → (T → List Piece) → Listed T → List Piece
listed part l = part l.first ++ flat_map (λ x. mark (codes ",") ++ part x) l.rest.items

-- a part that may be left out
abbrev pub optional : {T : Type 0} → (T → List Piece) → Option T → List Piece
optional part None = []
optional part (Some x) = part x

-- :: before the first identifier
abbrev pub root_yield : Leaf → List Piece
root_yield l = kept_mark (codes "::") l

abbrev pub path_yield : Path → List Piece
path_yield p =
    optional root_yield p.root ++ identifier p.first
    ++ flat_map (λ l. mark (codes "::") ++ identifier l) p.rest.items

abbrev pub name_yield : ScopedName → List Piece
name_yield (Plain l) = identifier l
name_yield (Scoped p) = path_yield p.value

abbrev pub names_yield : Listed ScopedName → List Piece
names_yield names = listed name_yield names

abbrev pub operator_text : Operator → List ℕ
operator_text Or = codes "|"
operator_text Xor = codes "^"
operator_text And = codes "&"
operator_text ShiftLeft = codes "<<"
operator_text ShiftRight = codes ">"
operator_text Add = codes "+"
operator_text Subtract = codes "-"
operator_text Multiply = codes "*"
operator_text Divide = codes "/"
operator_text Remainder = codes "%"

-- the right shift is two marks that touch
abbrev pub operator_yield : Operator → List Piece
operator_yield ShiftRight = touching (codes ">") ++ mark (codes ">")
operator_yield o = mark (operator_text o)

abbrev pub sign_text : Sign → List ℕ
sign_text Plus = codes "+"
sign_text Minus = codes "-"

abbrev pub boolean_text : Bool → List ℕ
boolean_text true = codes "TRUE"
boolean_text false = codes "FALSE"

abbrev pub text_yield : Leaf → List Piece
text_yield l = leaf TextLit l

-- one part or more, one behind another
abbrev pub in_order : {T : Type 0} → (T → List Piece) → Listed T → List Piece
in_order part l = part l.first ++ flat_map part l.rest.items

abbrev mutual
  pub expr_yield : Expr → List Piece
  expr_yield (Name n) = name_yield n
  expr_yield (Number l) = leaf Integer l
  expr_yield (Character l) = leaf CharLit l
  expr_yield (Text ls) = in_order text_yield ls.value
  expr_yield (Boolean b word) = kept_keyword (boolean_text b) word
  expr_yield (Parenthesized' l p inner) =
      kept_mark (codes "(") l ++ expr_yield inner ++ mark (codes ")")
  expr_yield (Signed' m s p inner) = kept_mark (sign_text s) m ++ expr_yield inner
  expr_yield (Chain' p first shape rest) = expr_yield first ++ operands_yield rest

  pub operands_yield : {n : _} → Row_of-Operand n → List Piece
  operands_yield end_of-Operand = []
  operands_yield (more_of-Operand o e rest) = operator_yield o ++ expr_yield e ++ operands_yield rest

abbrev pub operand_yield : Operand → List Piece
operand_yield x = operator_yield x.operator ++ expr_yield x.operand

abbrev pub const_expr_yield : ConstExpr → List Piece
const_expr_yield c = expr_yield c.expr

abbrev pub bound_yield : Bound → List Piece
bound_yield b = expr_yield b.expr.value
