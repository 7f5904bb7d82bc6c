-- Operands and their levels.
use Rattle.std.proofs.Common.{◌≡◌, ℕ, ◌≤◌, Bool, List, [], ◌∷◌, ◌++◌, sym, subst, arith}
use Rattle.std.specs.Prelude.{Result, Ok, Err, IfOk}
use Rattle.idl_tree.specs.declared.expression.Expr.{Expr}
use Rattle.idl_tree.specs.Grouping.{IsOfLevel}
use Rattle.idl_tree.proofs.Chains.{looser}
use Rattle.std.specs.List.{AllByRecursion}

-- one more part of which a fact holds
all_at_end : {T : Type 0} (P : T → Type 0) (xs : List T) (x : T) → AllByRecursion P xs → P x
    → AllByRecursion P (xs ++ x ∷ [])
all_at_end P [] x all one = (one, tt)
all_at_end P (y ∷ ys) x all one = (all.0, all_at_end P ys x all.1 one)

pub all_more : {T : Type 0} (P : T → Type 0) (xs ys : List T) (x : T) → AllByRecursion P xs → P x → ys ≡ xs ++ x ∷ []
    → AllByRecursion P ys
all_more P xs ys x all one e = subst (AllByRecursion P) (sym e) (all_at_end P xs x all one)

-- an operand without a sign is one that may have one
pub unsigned : {E : Type 0} (r : Result Expr E) → IfOk r (λ e. (shifts : Bool) → IsOfLevel shifts 7 e)
    → IfOk r (λ e. (shifts : Bool) → IsOfLevel shifts 6 e)
unsigned (Ok e) h = λ shifts. looser shifts e 6 7 (omega arith) (h shifts)
unsigned (Err e) h = h

-- an operand that may have a sign is of the level behind the last operators
pub tightest : {E : Type 0} (r : Result Expr E) (level : ℕ) (s : Bool) → 6 ≤ level
    → IfOk r (λ e. (shifts : Bool) → IsOfLevel shifts 6 e) → IfOk r (λ e. level ≤ 6 → IsOfLevel s level e)
tightest (Ok e) level s ge h = λ le.
    let same : 6 ≡ level = omega (arith, ge, le) in
    subst (λ n. IsOfLevel s n e) same (h s)
tightest (Err e) level s ge h = h
