-- What expressions of one shape are worth, and the pieces that they spell.
use Rattle.std.proofs.Common.{◌≡◌, ℕ, false, codes, List, [], ◌∷◌, ◌++◌, ◌&&◌, Option, Some, None, ℤ, refl, ap, ap₂}
use Rattle.idl_lexer.specs.declared.token.Kind.{Kind as TokenKind}
use Rattle.idl_lexer.specs.declared.token.Kind.TheVariants.{Ident, Keyword, Punct, CharLit, TextLit, Number as Integer}
use Rattle.idl_lexer.specs.Readings.{text_octets}
use Rattle.idl_lexer.specs.Tokens.{parts_of}
use Rattle.idl_tree.specs.Lists.{parts}
use Rattle.idl_tree.specs.Pieces.{mark, leaf, kept}
use Rattle.idl_tree.specs.Yields.{identifier, optional, root_yield, path_yield, name_yield, operator_yield, boolean_text, sign_text, text_yield, in_order, expr_yield, operands_yield}
use Rattle.idl_tree.specs.declared.names.Leaf.{Leaf}
use Rattle.idl_tree.specs.declared.names.Listed.{Listed}
use Rattle.idl_tree.specs.declared.names.Path.{Path}
use Rattle.idl_tree.specs.declared.names.ScopedName.{ScopedName}
use Rattle.idl_tree.specs.declared.names.ScopedName.TheVariants.{Plain, Scoped}
use Rattle.idl_tree.specs.declared.expression.Expr.{Expr, Name, Number, Character, Text, Boolean, Parenthesized', Signed', Chain', Row_of-Operand, end_of-Operand, more_of-Operand}
use Rattle.name_table.specs.Arithmetic.{where_true}
use Rattle.name_table.specs.Texts.{joined_octets}
use Rattle.name_table.specs.Worth.{NamesWorth, whole_number, whole_constant, sign_applied, operator_applied, token_worth, literal_worth, is_text, are_texts, text_worth, worth, chain_worth}
use Rattle.name_table.specs.declared.const_values.constant.Constant.TheVariants as Constants
use Rattle.idl_tree.specs.Shapes.{leaf_shape, token_shape, root_shape, optional_shape, list_shape, listed_shape, path_shape, name_shape, expr_shape, operands_shape}
use Rattle.shape_laws.proofs.Apart.{apart}
use Rattle.shape_laws.proofs.Starts.{leaf_text}
use Rattle.shape_laws.proofs.NameWords.{ap₃, flat_same, kind_text, leaf_kind, operator_same, sign_same, boolean_same}

-- ---- literals

literal_same : (a b : Leaf) → leaf_shape a ≡ leaf_shape b → literal_worth a ≡ literal_worth b
literal_same = kind_text token_worth

are_texts_same : (xs ys : List Leaf) → list_shape leaf_shape xs ≡ list_shape leaf_shape ys → are_texts xs ≡ are_texts ys
are_texts_same [] [] h = refl
are_texts_same (x ∷ xs) (y ∷ ys) h = ap₂ (λ a b. a && b) (ap is_text (leaf_kind x y cc)) (are_texts_same xs ys cc)
are_texts_same xs ys h = absurd cc

octets_same : (xs ys : List Leaf) → list_shape leaf_shape xs ≡ list_shape leaf_shape ys
    → joined_octets xs ≡ joined_octets ys
octets_same = flat_same leaf_shape (λ l. text_octets l.token.text.now) (λ a b h. ap text_octets (leaf_text a b h))

text_same : (a b : Listed Leaf) → listed_shape leaf_shape a ≡ listed_shape leaf_shape b
    → text_worth (parts a) ≡ text_worth (parts b)
text_same a b h =
    let k : list_shape leaf_shape (parts a) ≡ list_shape leaf_shape (parts b) = cc in
    ap₂ (λ all text. where_true all (Constants.Text text)) (are_texts_same (parts a) (parts b) k)
    (octets_same (parts a) (parts b) k)

-- ---- expressions

-- names of one shape are worth the same
abbrev pub NamesAlike : NamesWorth → Type 0
NamesAlike names = (a b : ScopedName) → name_shape a ≡ name_shape b → names a ≡ names b

mutual
  pub worth_same : (names : NamesWorth) → NamesAlike names → (a b : Expr) → expr_shape a ≡ expr_shape b
      → worth names a ≡ worth names b
  worth_same names same (Name n) (Name m) h = same n m cc
  worth_same names same (Number l) (Number m) h = literal_same l m cc
  worth_same names same (Character l) (Character m) h = literal_same l m cc
  worth_same names same (Text ls) (Text ms) h = text_same ls.value ms.value cc
  worth_same names same (Boolean b l) (Boolean c m) h = ap (λ v. Some (Constants.Boolean v)) (boolean_same b c cc)
  worth_same names same (Parenthesized' l p inner) (Parenthesized' m q other) h = worth_same names same inner other cc
  worth_same names same (Signed' l s p inner) (Signed' m t q other) h =
      ap₂ (λ sign w. whole_constant (sign_applied sign (whole_number w))) (sign_same s t cc)
      (worth_same names same inner other cc)
  worth_same names same (Chain' p first form rest) (Chain' q other form' more) h =
      ap whole_constant (chain_same names same (whole_number (worth names first)) (whole_number (worth names other))
      (ap whole_number (worth_same names same first other cc)) rest more cc)
  worth_same names same a b h = apart h refl

  chain_same : {n k : _} (names : NamesWorth) → NamesAlike names → (x y : Option ℤ) → x ≡ y
      → (a : Row_of-Operand n) (b : Row_of-Operand k) → operands_shape a ≡ operands_shape b
      → chain_worth names x a ≡ chain_worth names y b
  chain_same names same x y e end_of-Operand end_of-Operand h = e
  chain_same names same x y e (more_of-Operand o inner rest) (more_of-Operand p other more) h =
      chain_same names same (operator_applied o x (whole_number (worth names inner)))
      (operator_applied p y (whole_number (worth names other)))
      (ap₃ operator_applied (operator_same o p cc) e (ap whole_number (worth_same names same inner other cc))) rest more
      cc
  chain_same names same x y e a b h = absurd cc

-- ---- the pieces that an expression spells

-- a token that is kept, of one text and one shape
token_pieces : (kind : TokenKind) (x y : List ℕ) (a b : Leaf) → token_shape x a ≡ token_shape y b
    → kept kind x a ≡ kept kind y b
unfolding kept
token_pieces kind x y a b h =
    let text : x ≡ y = cc in
    let number : a.number ≡ b.number = cc in
    let token : parts_of a.token ≡ parts_of b.token = cc in
    ap₃ (λ t n p. record { kind = kind; text = t; token = Some (n, p); touches = false } ∷ []) text number token

leaf_pieces : (kind : TokenKind) (a b : Leaf) → leaf_shape a ≡ leaf_shape b → leaf kind a ≡ leaf kind b
leaf_pieces kind a b h = token_pieces kind _ _ a b h

root_pieces : (a b : Option Leaf) → optional_shape root_shape a ≡ optional_shape root_shape b
    → optional root_yield a ≡ optional root_yield b
root_pieces None None h = refl
root_pieces (Some a) (Some b) h = token_pieces Punct (codes "::") (codes "::") a b cc
root_pieces a b h = absurd cc

path_pieces : (a b : Path) → path_shape a ≡ path_shape b → path_yield a ≡ path_yield b
path_pieces a b h =
    ap₃ (λ x y z. x ++ y ++ z) (root_pieces a.root b.root cc) (leaf_pieces Ident a.first b.first cc)
    (flat_same leaf_shape (λ l. mark (codes "::") ++ identifier l)
    (λ l m k. ap (λ p. mark (codes "::") ++ p) (leaf_pieces Ident l m k))
    a.rest.items b.rest.items cc)

name_pieces : (a b : ScopedName) → name_shape a ≡ name_shape b → name_yield a ≡ name_yield b
name_pieces (Plain l) (Plain m) h = leaf_pieces Ident l m cc
name_pieces (Scoped p) (Scoped q) h = path_pieces p.value q.value cc
name_pieces a b h = apart h refl

texts_pieces : (a b : Listed Leaf) → listed_shape leaf_shape a ≡ listed_shape leaf_shape b
    → in_order text_yield a ≡ in_order text_yield b
texts_pieces a b h = flat_same leaf_shape text_yield (leaf_pieces TextLit) (parts a) (parts b) cc

mutual
  pub expr_pieces : (a b : Expr) → expr_shape a ≡ expr_shape b → expr_yield a ≡ expr_yield b
  expr_pieces (Name n) (Name m) h = name_pieces n m cc
  expr_pieces (Number l) (Number m) h = leaf_pieces Integer l m cc
  expr_pieces (Character l) (Character m) h = leaf_pieces CharLit l m cc
  expr_pieces (Text ls) (Text ms) h = texts_pieces ls.value ms.value cc
  expr_pieces (Boolean b l) (Boolean c m) h = token_pieces Keyword (boolean_text b) (boolean_text c) l m cc
  expr_pieces (Parenthesized' l p inner) (Parenthesized' m q other) h =
      ap₂ (λ x y. x ++ y ++ mark (codes ")")) (token_pieces Punct (codes "(") (codes "(") l m cc)
      (expr_pieces inner other cc)
  expr_pieces (Signed' l s p inner) (Signed' m t q other) h =
      ap₂ (λ x y. x ++ y) (token_pieces Punct (sign_text s) (sign_text t) l m cc) (expr_pieces inner other cc)
  expr_pieces (Chain' p first form rest) (Chain' q other form' more) h =
      ap₂ (λ x y. x ++ y) (expr_pieces first other cc) (operands_pieces rest more cc)
  expr_pieces a b h = apart h refl

  operands_pieces : {n k : _} (a : Row_of-Operand n) (b : Row_of-Operand k) → operands_shape a ≡ operands_shape b
      → operands_yield a ≡ operands_yield b
  operands_pieces end_of-Operand end_of-Operand h = refl
  operands_pieces (more_of-Operand o inner rest) (more_of-Operand p other more) h =
      ap₃ (λ x y z. x ++ y ++ z) (ap operator_yield (operator_same o p cc)) (expr_pieces inner other cc)
      (operands_pieces rest more cc)
  operands_pieces a b h = absurd cc
