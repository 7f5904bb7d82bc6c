-- The names of what stands at a place stand before what follows it.
use Rattle.std.proofs.Common.{◌≡◌, ℕ, ◌+◌, ◌≤◌, List, ◌++◌, Option, Some, None, codes, length, length-append, arith}
use Rattle.idl_lexer.specs.declared.token.Kind.TheVariants.{Ident, Punct}
use Rattle.idl_tree.specs.declared.names.Leaf.{Leaf}
use Rattle.idl_tree.specs.declared.names.ScopedName.{ScopedName}
use Rattle.idl_tree.specs.declared.names.ScopedName.TheVariants as Names
use Rattle.idl_tree.specs.declared.expression.Expr.{Expr, Name, Number, Character, Text, Boolean, Parenthesized', Signed', Chain', Row_of-Operand, end_of-Operand, more_of-Operand}
use Rattle.idl_tree.specs.declared.const_expr.Bound.{Bound}
use Rattle.idl_tree.specs.declared.types.ConstType.{ConstType}
use Rattle.idl_tree.specs.declared.types.ConstType.TheVariants as ConstTypes
use Rattle.idl_tree.specs.Pieces.{Piece, keyword, kept_mark, mark}
use Rattle.idl_tree.specs.Forms.{AreNumbered}
use Rattle.idl_tree.specs.Yields.{bound_yield, expr_yield, identifier, name_yield, operands_yield, operator_yield, optional, root_yield, sign_text}
use Rattle.idl_tree.specs.TypeYields.{const_type_yield, string_bound_yield}
use Rattle.idl_tree.specs.Starts.{name_start, root_or}
use Rattle.idl_tree.proofs.SpelledForms.{AreNumbered-append, kept_number}
use Rattle.scoped_names.proofs.Staying.{BoundUpTo, NamesUpTo, OperandsUpTo, TypeUpTo}

pub leaf_number : (l : Leaf) (k : ℕ) → AreNumbered k (identifier l) → l.number ≡ k
leaf_number l k h = kept_number Ident l.token.text.now l k h

path_number : (root : Option Leaf) (first : Leaf) (k : ℕ) → AreNumbered k (optional root_yield root ++ identifier first)
    → (root_or root first).number ≡ k
path_number None first k h = leaf_number first k h
path_number (Some root) first k h =
    kept_number Punct (codes "::") root k (AreNumbered-append (root_yield root) (identifier first) k h).0

pub name_number : (name : ScopedName) (k : ℕ) → AreNumbered k (name_yield name) → (name_start name).number ≡ k
name_number (Names.Plain l) k h = leaf_number l k h
name_number (Names.Scoped p) k h =
    path_number p.value.root p.value.first k
    (AreNumbered-append (optional root_yield p.value.root ++ identifier p.value.first) _ k h).0

-- pieces of which the first has the number k, and the last is before n
record Stand (k n : ℕ) (ps : List Piece) : Type 0 where
  numbered : AreNumbered k ps
  ends : k + length ps ≤ n

left : {k n : ℕ} (ps qs : List Piece) → Stand k n (ps ++ qs) → Stand k n ps
left {k} {n} ps qs s =
    let all = length-append ps qs in
    let ends = s.ends in
    record { numbered = (AreNumbered-append ps qs k s.numbered).0; ends = omega arith }

right : {k n : ℕ} (ps qs : List Piece) → Stand k n (ps ++ qs) → Stand (k + length ps) n qs
right {k} {n} ps qs s =
    let all = length-append ps qs in
    let ends = s.ends in
    record { numbered = (AreNumbered-append ps qs k s.numbered).1; ends = omega arith }

name_up_to : {k n : ℕ} (name : ScopedName) → Stand k n (name_yield name) → (name_start name).number ≤ n
name_up_to {k} name s =
    let is = name_number name k s.numbered in
    let ends = s.ends in
    omega arith

mutual
  expr_up_to : {k n : ℕ} (e : Expr) → Stand k n (expr_yield e) → NamesUpTo n e
  expr_up_to (Name name) s = name_up_to name s
  expr_up_to (Number l) s = tt
  expr_up_to (Character l) s = tt
  expr_up_to (Text ls) s = tt
  expr_up_to (Boolean b word) s = tt
  expr_up_to (Parenthesized' l p inner) s =
      expr_up_to inner (right (kept_mark (codes "(") l) (expr_yield inner)
      (left (kept_mark (codes "(") l ++ expr_yield inner) (mark (codes ")")) s))
  expr_up_to (Signed' m t p inner) s = expr_up_to inner (right (kept_mark (sign_text t) m) (expr_yield inner) s)
  expr_up_to (Chain' p first shape rest) s = (
    expr_up_to first (left (expr_yield first) (operands_yield rest) s),
    operands_up_to rest (right (expr_yield first) (operands_yield rest) s),
  )

  operands_up_to : {j : _} {k n : ℕ} (row : Row_of-Operand j) → Stand k n (operands_yield row) → OperandsUpTo n row
  operands_up_to end_of-Operand s = tt
  operands_up_to (more_of-Operand o e rest) s =
      let front = operator_yield o ++ expr_yield e in (
        expr_up_to e (right (operator_yield o) (expr_yield e) (left front (operands_yield rest) s)),
        operands_up_to rest (right front (operands_yield rest) s),
      )

bound_up_to : {k n : ℕ} (b : Option Bound) → Stand k n (optional string_bound_yield b) → BoundUpTo n b
bound_up_to None s = tt
bound_up_to (Some b) s =
    expr_up_to b.expr.value (right (mark (codes "<")) (bound_yield b)
    (left (mark (codes "<") ++ bound_yield b) (mark (codes ">")) s))

type_up_to : {k n : ℕ} (t : ConstType) → Stand k n (const_type_yield t) → TypeUpTo n t
type_up_to (ConstTypes.Integer i) s = tt
type_up_to ConstTypes.Char s = tt
type_up_to ConstTypes.Boolean s = tt
type_up_to ConstTypes.Octet s = tt
type_up_to (ConstTypes.String b) s = bound_up_to b (right (keyword (codes "string")) (optional string_bound_yield b) s)
type_up_to (ConstTypes.Name name) s = name_up_to name s

pub names_before : (e : Expr) (k n : ℕ) → AreNumbered k (expr_yield e) → k + length (expr_yield e) ≤ n → NamesUpTo n e
names_before e k n numbered ends = expr_up_to {k = k} e (record { numbered = numbered; ends = ends })

pub type_before : (t : ConstType) (k n : ℕ) → AreNumbered k (const_type_yield t) → k + length (const_type_yield t) ≤ n
    → TypeUpTo n t
type_before t k n numbered ends = type_up_to {k = k} t (record { numbered = numbered; ends = ends })
