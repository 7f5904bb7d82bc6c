-- The operators that tokens begin with, and what can't stand behind an expression.
use Rattle.std.proofs.Common.{◌≡◌, ◌∙◌, ℕ, suc, ◌≤◌, ◌<◌, codes, Bool, true, false, ◌||◌, ◌&&◌, cond, nat_eq, List, [], ◌∷◌, ap, subst, sym, refl, arith}
use Rattle.std.proofs.lemmas.Bool.{and_parts, eqb-true}
use Rattle.idl_lexer.specs.declared.token.Kind.TheVariants.{Punct}
use Rattle.idl_tree.specs.declared.expression.Operator.{Operator}
use Rattle.idl_tree.specs.declared.expression.Operator.TheVariants.{Or, Xor, And, ShiftLeft, ShiftRight, Add, Subtract, Multiply, Divide, Remainder}
use Rattle.idl_tree.specs.declared.expression.Expr.{Expr, Row_of-Operand, end_of-Operand, more_of-Operand}
use Rattle.idl_tree.specs.Grouping.{level_of, is_operator_of, is_of_level, are_of_level}
use Rattle.idl_tree.specs.Pieces.{Seen}
use Rattle.idl_tree.specs.Yields.{operator_yield, operands_yield}
use Rattle.idl_tree.specs.Shapes.{operator_shape}
use Rattle.idl_tree.proofs.Fronts.{Reads, begins, reads_one}
use Rattle.idl_tree.proofs.Same.{Among, Avoids, Any, Leads, Same, leads_first, leads_to, leads_none, piece_among, touching_among, apart}

abbrev pub operator_number : Operator → ℕ
operator_number Or = 60
operator_number Xor = 61
operator_number And = 62
operator_number ShiftLeft = 63
operator_number ShiftRight = 64
operator_number Add = 57
operator_number Subtract = 56
operator_number Multiply = 65
operator_number Divide = 66
operator_number Remainder = 67

operator_at : ℕ → Operator
operator_at n =
    cond (nat_eq n 60) Or (cond (nat_eq n 61) Xor
    (cond (nat_eq n 62) And (cond (nat_eq n 63) ShiftLeft (cond (nat_eq n 64) ShiftRight
    (cond (nat_eq n 57) Add (cond (nat_eq n 56) Subtract
    (cond (nat_eq n 65) Multiply (cond (nat_eq n 66) Divide Remainder))))))))

operator_at_number : (o : Operator) → operator_at (operator_number o) ≡ o
unfolding operator_at
operator_at_number Or = refl
operator_at_number Xor = refl
operator_at_number And = refl
operator_at_number ShiftLeft = refl
operator_at_number ShiftRight = refl
operator_at_number Add = refl
operator_at_number Subtract = refl
operator_at_number Multiply = refl
operator_at_number Divide = refl
operator_at_number Remainder = refl

pub one_operator : (o q : Operator) → operator_number o ≡ operator_number q → o ≡ q
one_operator o q e = sym (operator_at_number o) ∙ ap operator_at e ∙ operator_at_number q

pub operator_begins : (o : Operator) → Leads (operator_yield o) Any (Among (operator_number o ∷ []))
operator_begins ShiftRight = leads_first _ (touching_among (codes ">") _ refl)
operator_begins Or = piece_among Punct (codes "|") _ refl
operator_begins Xor = piece_among Punct (codes "^") _ refl
operator_begins And = piece_among Punct (codes "&") _ refl
operator_begins ShiftLeft = piece_among Punct (codes "<<") _ refl
operator_begins Add = piece_among Punct (codes "+") _ refl
operator_begins Subtract = piece_among Punct (codes "-") _ refl
operator_begins Multiply = piece_among Punct (codes "*") _ refl
operator_begins Divide = piece_among Punct (codes "/") _ refl
operator_begins Remainder = piece_among Punct (codes "%") _ refl

pub among_one : (n : ℕ) (t : List Seen) → Among (n ∷ []) t → begins t ≡ n
among_one n t a = by_test (nat_eq n (begins t)) refl a.is
  where
    by_test : (b : Bool) → nat_eq n (begins t) ≡ b → (b || false) ≡ true → begins t ≡ n
    by_test true e h = sym (eqb-true n (begins t) e)
    by_test false e h = absurd (cc)

same_pieces : (o q : Operator) (t r l : List Seen) → o ≡ q → Reads (operator_yield o) t r → Reads (operator_yield q) t l
    → r ≡ l
same_pieces o q t r l e h k = reads_one h (subst (λ p. Reads (operator_yield p) t l) (sym e) k)

pub same_operator : (o q : Operator) {S : List Seen → Type 0}
    → Same (operator_yield o) (operator_yield q) (operator_shape o ≡ operator_shape q) S
same_operator o q = record {
  by = λ t r l h k s u.
      let a = among_one _ t ((operator_begins o).by t r h tt) in
      let b = among_one _ t ((operator_begins q).by t l k tt) in
      let e = one_operator o q (sym a ∙ b) in
      (ap operator_shape e, same_pieces o q t r l e h k);
}

-- ---- what can't stand behind an expression

pub record ExprEnds (shifts : Bool) (n : ℕ) (t : List Seen) : Type 0 where
  pub names : Avoids (18 ∷ 54 ∷ []) t
  pub operators : (o : Operator) → n ≤ level_of o → is_operator_of shifts (level_of o) o ≡ true
      → Avoids (operator_number o ∷ []) t

pub tighter : (s : Bool) (n m : ℕ) (t : List Seen) → n ≤ m → ExprEnds s n t → ExprEnds s m t
tighter s n m t le ends = record { names = ends.names; operators = λ o h is. ends.operators o (omega arith) is }

low_level : (o : Operator) → level_of o < 6
low_level Or = omega arith
low_level Xor = omega arith
low_level And = omega arith
low_level ShiftLeft = omega arith
low_level ShiftRight = omega arith
low_level Add = omega arith
low_level Subtract = omega arith
low_level Multiply = omega arith
low_level Divide = omega arith
low_level Remainder = omega arith

-- behind an operand stands no operator that could go on with it
pub tightest : (s : Bool) (n : ℕ) (t : List Seen) → ExprEnds s n t → ExprEnds s 7 t
tightest s n t ends = record { names = ends.names; operators = λ o h is. absurd (omega (arith, low_level o)) }

pub level_is : (s : Bool) (k : ℕ) (o : Operator) → is_operator_of s k o ≡ true → level_of o ≡ k
level_is true k o h = eqb-true _ _ h
level_is false k ShiftRight h = absurd (cc)
level_is false k o h = eqb-true _ _ h

pub itself : (s : Bool) (k : ℕ) (o : Operator) → is_operator_of s k o ≡ true → is_operator_of s (level_of o) o ≡ true
itself s k o h = subst (λ n. is_operator_of s n o ≡ true) (sym (level_is s k o h)) h

no_name : (o : Operator) (t : List Seen) → Among (operator_number o ∷ []) t → Avoids (18 ∷ 54 ∷ []) t
no_name Or t a = apart refl a
no_name Xor t a = apart refl a
no_name And t a = apart refl a
no_name ShiftLeft t a = apart refl a
no_name ShiftRight t a = apart refl a
no_name Add t a = apart refl a
no_name Subtract t a = apart refl a
no_name Multiply t a = apart refl a
no_name Divide t a = apart refl a
no_name Remainder t a = apart refl a

differ : (n : ℕ) (t : List Seen) → (begins t ≡ n → ⊥) → Avoids (n ∷ []) t
differ n t h = by_test (nat_eq n (begins t)) refl
  where
    by_test : (b : Bool) → nat_eq n (begins t) ≡ b → Avoids (n ∷ []) t
    by_test true e = absurd (h (sym (eqb-true n (begins t) e)))
    by_test false e = record { is = ap (λ b. b || false) e }

-- an operator of the level ends what is tighter
pub operator_ends : (s : Bool) (k : ℕ) (o : Operator) (t : List Seen) → level_of o ≡ k
    → Among (operator_number o ∷ []) t → ExprEnds s (suc k) t
operator_ends s k o t e a = record {
  names = no_name o t a;
  operators = λ q h is. differ _ t (λ b.
      let same = one_operator o q (sym (among_one _ t a) ∙ b) in
      let levels : level_of o ≡ level_of q = ap level_of same in
      omega arith);
}

-- ---- operators with operands

pub record RowParts (s : Bool) (k : ℕ) (o : Operator) (e : Expr) {n : _} (rest : Row_of-Operand n) : Type 0 where
  pub operator : is_operator_of s k o ≡ true
  pub operand : is_of_level s (suc k) e ≡ true
  pub others : are_of_level s k rest ≡ true

pub row_parts : (s : Bool) (k : ℕ) (o : Operator) (e : Expr) {n : _} (rest : Row_of-Operand n)
    → are_of_level s k (more_of-Operand o e rest) ≡ true → RowParts s k o e rest
row_parts s k o e rest h =
    let two = and_parts (is_operator_of s k o && is_of_level s (suc k) e) (are_of_level s k rest) h in
    let one = and_parts (is_operator_of s k o) (is_of_level s (suc k) e) two.0 in
    record { operator = one.0; operand = one.1; others = two.1 }

pub operands_end : (s : Bool) (k : ℕ) {n : _} (rest : Row_of-Operand n) → are_of_level s k rest ≡ true
    → Leads (operands_yield rest) (ExprEnds s k) (ExprEnds s (suc k))
operands_end s k end_of-Operand h = leads_to (λ t. tighter s k (suc k) t (omega arith)) leads_none
operands_end s k (more_of-Operand o e rest) h =
    let parts = row_parts s k o e rest h in
    leads_first _ (leads_first _
    (leads_to (λ t. operator_ends s k o t (level_is s k o parts.operator)) (operator_begins o)))
