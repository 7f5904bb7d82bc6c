-- Where names and expressions of one shape begin.
use Rattle.std.proofs.Common.{◌≡◌, ℕ, List, Option, Some, None, refl, ap, ◌∙◌, codes}
use Rattle.idl_lexer.specs.Tokens.{parts_of}
use Rattle.idl_tree.specs.declared.names.At.{At}
use Rattle.idl_tree.specs.declared.names.Leaf.{Leaf}
use Rattle.idl_tree.specs.declared.names.ScopedName.{ScopedName}
use Rattle.idl_tree.specs.declared.names.ScopedName.TheVariants.{Plain, Scoped}
use Rattle.idl_tree.specs.declared.expression.Expr.{Expr, Name, Number, Character, Text, Boolean, Parenthesized', Signed', Chain'}
use Rattle.idl_tree.specs.Yields.{boolean_text, sign_text}
use Rattle.idl_tree.specs.Starts.{leaf_at, root_or, name_start, expr_start}
use Rattle.shape_laws.proofs.Apart.{apart}
use Rattle.idl_tree.specs.Shapes.{leaf_shape, token_shape, root_shape, optional_shape, name_shape, expr_shape}

abbrev place : ℕ → ℕ → At
place token line = record { token = token; line = line }

-- tokens of one shape stand at one place, and have one text
pub token_at : (x y : List ℕ) (a b : Leaf) → token_shape x a ≡ token_shape y b → leaf_at a ≡ leaf_at b
token_at x y a b h =
    let number : a.number ≡ b.number = cc in
    let token : parts_of a.token ≡ parts_of b.token = cc in
    let line : a.token.line ≡ b.token.line = ap (λ t. t.line) token in
    ap (λ n. place n a.token.line) number ∙ ap (place b.number) line

pub leaf_same : (a b : Leaf) → leaf_shape a ≡ leaf_shape b → leaf_at a ≡ leaf_at b
leaf_same a b h = token_at _ _ a b h

pub leaf_text : (a b : Leaf) → leaf_shape a ≡ leaf_shape b → a.token.text.now ≡ b.token.text.now
leaf_text a b h = cc

root_at : (a b : Option Leaf) (l m : Leaf) → optional_shape root_shape a ≡ optional_shape root_shape b
    → leaf_shape l ≡ leaf_shape m
    → leaf_at (root_or a l) ≡ leaf_at (root_or b m)
root_at None None l m h k = leaf_same l m k
root_at (Some a) (Some b) l m h k = token_at (codes "::") (codes "::") a b cc
root_at a b l m h k = absurd cc

pub name_at : (a b : ScopedName) → name_shape a ≡ name_shape b → leaf_at (name_start a) ≡ leaf_at (name_start b)
name_at (Plain l) (Plain m) h = leaf_same l m cc
name_at (Scoped p) (Scoped q) h =
    let roots : optional_shape root_shape p.value.root ≡ optional_shape root_shape q.value.root = cc in
    let first : leaf_shape p.value.first ≡ leaf_shape q.value.first = cc in
    root_at p.value.root q.value.root p.value.first q.value.first roots first
name_at a b h = apart h refl

pub expr_at : (a b : Expr) → expr_shape a ≡ expr_shape b → leaf_at (expr_start a) ≡ leaf_at (expr_start b)
expr_at (Name n) (Name m) h = name_at n m cc
expr_at (Number l) (Number m) h = leaf_same l m cc
expr_at (Character l) (Character m) h = leaf_same l m cc
expr_at (Text ls) (Text ms) h = leaf_same ls.value.first ms.value.first cc
expr_at (Boolean b l) (Boolean c m) h = token_at (boolean_text b) (boolean_text c) l m cc
expr_at (Parenthesized' l p inner) (Parenthesized' m q other) h = token_at (codes "(") (codes "(") l m cc
expr_at (Signed' m s p inner) (Signed' n t q other) h = token_at (sign_text s) (sign_text t) m n cc
expr_at (Chain' p first shape rest) (Chain' q other shape' more) h = expr_at first other cc
expr_at a b h = apart h refl
