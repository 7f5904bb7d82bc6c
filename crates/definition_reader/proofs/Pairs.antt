-- Parts that are handed on, and pieces that are grouped otherwise.
use Rattle.std.proofs.Common.{◌≡◌, ◌++◌, ◌∙◌, ◌≤◌, ◌<◌, ℕ, suc, List, sym, ap, subst, append_assoc, arith}
use Rattle.std.specs.Prelude.{Result, Ok, Err, IfOk}
use Rattle.idl_tree.specs.Pieces.{Seen, Piece}
use Rattle.definition_reader.specs.inner.Reading.{Parsed}
use Rattle.definition_reader.proofs.Parts.{part_then}

-- pieces that are grouped otherwise
pub spelled_as : {a c : List Seen} {x y : List Piece} → x ≡ y → Parsed a x c → Parsed a y c
spelled_as {a = a} {c = c} e p = subst (λ l. Parsed a l c) e p

pub group_two : (p x y : List Piece) → p ++ (x ++ y) ≡ p ++ x ++ y
group_two p x y = sym (append_assoc p x y)

pub group_three : (p x y z : List Piece) → p ++ (x ++ y ++ z) ≡ p ++ x ++ y ++ z
group_three p x y z = group_two p (x ++ y) z ∙ ap (λ l. l ++ z) (group_two p x y)

-- what holds of a part that was read holds of it where it is handed on
pub handed : {T E F : Type 0} (P : T → Type 0) (read : Result T E) (r : Result T F) → IfOk read P
    → IfOk r (λ p. read ≡ Ok p) → IfOk r P
handed P read (Ok p) all same = subst (λ r. IfOk r P) same all
handed P read (Err e) all same = tt

-- ---- a node that was made

pub spelled_by : {T E : Type 0} (a c : List Seen) (yield : T → List Piece) (y : List Piece) (r : Result T E)
    → IfOk r (λ n. yield n ≡ y) → Parsed a y c → IfOk r (λ n. Parsed a (yield n) c)
spelled_by a c yield y (Ok n) is read = spelled_as (sym is) read
spelled_by a c yield y (Err e) is read = tt

pub levels_by : {T E : Type 0} (levels : T → ℕ) (most room : ℕ) (r : Result T E)
    → IfOk r (λ n. levels n ≡ most) → most ≤ room → IfOk r (λ n. levels n ≤ room)
levels_by levels most room (Ok n) is few = omega (arith, is, few)
levels_by levels most room (Err e) is few = tt

-- levels inside another one
pub under_suc : {T E : Type 0} (levels : T → ℕ) (left room : ℕ) (r : Result T E) → suc left ≡ room
    → IfOk r (λ n. levels n ≤ left) → IfOk r (λ n. levels n < room)
under_suc levels left room (Ok n) is few = omega (arith, is, few)
under_suc levels left room (Err e) is few = tt

-- ---- a part behind pieces

pub behind_part : {T E : Type 0} (a b c : List Seen) (front : List Piece) (f : T → List Piece) (read : Result T E)
    → Parsed a front b → IfOk read (λ t. Parsed b (f t) c) → IfOk read (λ t. Parsed a (front ++ f t) c)
behind_part a b c front f (Ok t) p q = part_then p q
behind_part a b c front f (Err e) p q = tt
