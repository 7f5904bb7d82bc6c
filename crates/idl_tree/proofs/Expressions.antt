-- One expression for some tokens.
use Rattle.std.proofs.Common.{◌≡◌, ℕ, suc, ◌≤◌, ◌<◌, codes, Bool, true, false, ◌&&◌, nat_lt, List, [], ◌∷◌, ◌++◌, subst, sym, refl, arith, Global}
use Rattle.std.specs.Prelude.{Box}
use mathlib.Core.Former.{Count}
use Rattle.std.proofs.lemmas.Bool.{and_parts, ltb-true, ltb-false, lt-ltb}
use Rattle.idl_lexer.specs.declared.token.Kind.TheVariants.{Keyword, Punct, CharLit, TextLit, Number as Integer}
use Rattle.idl_tree.specs.declared.names.Leaf.{Leaf}
use Rattle.idl_tree.specs.declared.names.Listed.{Listed}
use Rattle.idl_tree.specs.declared.names.ScopedName.{ScopedName}
use Rattle.idl_tree.specs.declared.expression.Operator.{Operator}
use Rattle.idl_tree.specs.declared.expression.Operator.TheVariants.{Or, Xor, And, ShiftLeft, ShiftRight, Add, Subtract, Multiply, Divide, Remainder}
use Rattle.idl_tree.specs.declared.expression.Sign.{Sign}
use Rattle.idl_tree.specs.declared.expression.Sign.TheVariants.{Plus, Minus}
use Rattle.idl_tree.specs.declared.expression.Expr.{Expr, Name, Number, Character, Text, Boolean, Parenthesized', Signed', Chain', Row_of-Operand, end_of-Operand, more_of-Operand}
use Rattle.idl_tree.specs.declared.const_expr.ConstExpr.{ConstExpr}
use Rattle.idl_tree.specs.declared.const_expr.Bound.{Bound}
use Rattle.idl_tree.specs.Grouping.{level_of, first_level, is_operator_of, is_of_level, are_of_level, IsOfLevel}
use Rattle.idl_tree.specs.Pieces.{Piece, Seen, mark, kept_mark, kept_keyword}
use Rattle.idl_tree.specs.Yields.{operator_yield, text_yield, boolean_text, sign_text, expr_yield, operands_yield, const_expr_yield, bound_yield}
use Rattle.idl_tree.specs.Shapes.{Shape, Nothing, Kind, Both, operator_shape, leaf_shape, expr_shape, operands_shape, const_expr_shape, bound_shape}
use Rattle.idl_tree.proofs.Fronts.{split, number_of}
use Rattle.idl_tree.proofs.Same.{is_in, are_some_of, Among, Avoids, Any, Leads, Same, fixed, so, under, then, ended, next, never, contrary, turned, leads_none, leads_first, leads_to, piece_avoids, kept_among, fewer, leads_any, are_apart, leaves, leaves_of}
use Rattle.idl_tree.proofs.TreeLists.{Row, same_in_order}
use Rattle.idl_tree.proofs.TreeNames.{same_name, name_begins}
use Rattle.idl_tree.proofs.Operators.{ExprEnds, RowParts, row_parts, operator_number, operator_begins, same_operator, operands_end, tighter, tightest, itself, level_is}

-- ---- operands

abbrev pub is_chain : Expr → Bool
is_chain (Chain' p first shape rest) = true
is_chain e = false

-- what an operand begins with
abbrev pub starts_of : Expr → List ℕ
starts_of (Name n) = 17 ∷ 18 ∷ []
starts_of (Number l) = 52 ∷ []
starts_of (Character l) = 53 ∷ []
starts_of (Text ls) = 54 ∷ []
starts_of (Boolean b l) = 50 ∷ 51 ∷ []
starts_of (Parenthesized' l p inner) = 55 ∷ []
starts_of (Signed' m s p inner) = 56 ∷ 57 ∷ []
starts_of (Chain' p first shape rest) = []

boolean_begins : (b : Bool) (l : Leaf) → Leads (kept_keyword (boolean_text b) l) Any (Among (50 ∷ 51 ∷ []))
boolean_begins true l = kept_among Keyword (codes "TRUE") l _ refl
boolean_begins false l = kept_among Keyword (codes "FALSE") l _ refl

sign_begins : (s : Sign) (l : Leaf) → Leads (kept_mark (sign_text s) l) Any (Among (56 ∷ 57 ∷ []))
sign_begins Plus l = kept_among Punct (codes "+") l _ refl
sign_begins Minus l = kept_among Punct (codes "-") l _ refl

pub alone_begins : (e : Expr) → is_chain e ≡ false → Leads (expr_yield e) Any (Among (starts_of e))
alone_begins (Name n) h = name_begins n
alone_begins (Number l) h = kept_among Integer _ l _ refl
alone_begins (Character l) h = kept_among CharLit _ l _ refl
alone_begins (Text ls) h = leads_first _ (kept_among TextLit _ ls.value.first _ refl)
alone_begins (Boolean b l) h = boolean_begins b l
alone_begins (Parenthesized' l p inner) h = leads_first _ (leads_first _ (kept_among Punct (codes "(") l _ refl))
alone_begins (Signed' m s p inner) h = leads_first _ (sign_begins s m)
alone_begins (Chain' p first shape rest) h = absurd (cc)

-- an operand, and one of which it is told that it is no chain
abbrev pub IsOne : Bool → Expr → Type 0
IsOne s a =
    (m : ℕ) (b : Expr) → is_chain b ≡ false → IsOfLevel s m b
    → Same (expr_yield a) (expr_yield b) (expr_shape a ≡ expr_shape b) (ExprEnds s m)

other : (s : Bool) (m : ℕ) (a b : Expr) {P : Type 0} → is_chain a ≡ false → is_chain b ≡ false
    → are_apart (starts_of a) (starts_of b) ≡ true
    → Same (expr_yield a) (expr_yield b) P (ExprEnds s m)
other s m a b h k e = never (starts_of a) (starts_of b) e (leads_any (alone_begins a h)) (leads_any (alone_begins b k))

name_one : (s : Bool) (n : ScopedName) → IsOne s (Name n)
name_one s n m (Name q) h l = so (λ e. cc) (under (λ t ends. fewer refl ends.names) (same_name n q))
name_one s n m b h l = other s m (Name n) b refl h refl

number_one : (s : Bool) (a : Leaf) → IsOne s (Number a)
number_one s a m (Number b) h l = so (λ e. cc) (leaves Integer a b)
number_one s a m b h l = other s m (Number a) b refl h refl

character_one : (s : Bool) (a : Leaf) → IsOne s (Character a)
character_one s a m (Character b) h l = so (λ e. cc) (leaves CharLit a b)
character_one s a m b h l = other s m (Character a) b refl h refl

texts : (s : Bool) (m : ℕ) → Row text_yield leaf_shape (54 ∷ []) Any (ExprEnds s m)
texts s m = record {
  one = λ x y. leaves TextLit x y;
  first = λ x. kept_among TextLit _ x _ refl;
  more = λ t a. tt;
  end = λ t a. tt;
  none = λ t ends. fewer refl ends.names;
}

text_one : (s : Bool) (a : Box (Listed Leaf) Global) → IsOne s (Text a)
text_one s a m (Text b) h l = so (λ e. cc) (same_in_order (texts s m) a.value b.value)
text_one s a m b h l = other s m (Text a) b refl h refl

boolean_one : (s v : Bool) (a : Leaf) → IsOne s (Boolean v a)
boolean_one s v a m (Boolean w b) h l = so (λ e. cc) (leaves_of Keyword _ _ a b)
boolean_one s v a m b h l = other s m (Boolean v a) b refl h refl

-- ---- what stands behind the mark of an expression's end

abbrev pub goes_on : List ℕ
goes_on = 18 ∷ 54 ∷ 56 ∷ 57 ∷ 60 ∷ 61 ∷ 62 ∷ 63 ∷ 64 ∷ 65 ∷ 66 ∷ 67 ∷ []

abbrev pub goes_on_in_bounds : List ℕ
goes_on_in_bounds = 18 ∷ 54 ∷ 56 ∷ 57 ∷ 60 ∷ 61 ∷ 62 ∷ 63 ∷ 65 ∷ 66 ∷ 67 ∷ []

goes : (o : Operator) → are_some_of (operator_number o ∷ []) goes_on ≡ true
goes Or = refl
goes Xor = refl
goes And = refl
goes ShiftLeft = refl
goes ShiftRight = refl
goes Add = refl
goes Subtract = refl
goes Multiply = refl
goes Divide = refl
goes Remainder = refl

goes_in_bounds : (o : Operator) → is_operator_of false (level_of o) o ≡ true
    → are_some_of (operator_number o ∷ []) goes_on_in_bounds ≡ true
goes_in_bounds Or h = refl
goes_in_bounds Xor h = refl
goes_in_bounds And h = refl
goes_in_bounds ShiftLeft h = refl
goes_in_bounds ShiftRight h = absurd (cc)
goes_in_bounds Add h = refl
goes_in_bounds Subtract h = refl
goes_in_bounds Multiply h = refl
goes_in_bounds Divide h = refl
goes_in_bounds Remainder h = refl

pub expr_ended : (s : Bool) (n : ℕ) (t : List Seen) → Avoids goes_on t → ExprEnds s n t
expr_ended s n t a = record { names = fewer refl a; operators = λ o le is. fewer (goes o) a }

pub bound_ended : (n : ℕ) (t : List Seen) → Avoids goes_on_in_bounds t → ExprEnds false n t
bound_ended n t a = record { names = fewer refl a; operators = λ o le is. fewer (goes_in_bounds o is) a }

pub mark_ends : (text : List ℕ) (s : Bool) (n : ℕ) → is_in goes_on (number_of Punct text) ≡ false
    → {S : List Seen → Type 0} → Leads (mark text) S (ExprEnds s n)
mark_ends text s n h = leads_to (expr_ended s n) (piece_avoids Punct text goes_on h)

pub bound_ends : (text : List ℕ) (n : ℕ) → is_in goes_on_in_bounds (number_of Punct text) ≡ false
    → {S : List Seen → Type 0} → Leads (mark text) S (ExprEnds false n)
bound_ends text n h = leads_to (bound_ended n) (piece_avoids Punct text goes_on_in_bounds h)

-- ---- operands in parentheses or with a sign, by what is the same inside

-- an expression, and another one of the level
abbrev pub IsFirst : Bool → ℕ → Expr → Type 0
IsFirst s m a =
    (b : Expr) → IsOfLevel s m b → Same (expr_yield a) (expr_yield b) (expr_shape a ≡ expr_shape b) (ExprEnds s m)

parenthesized_one : (s : Bool) (l : Leaf) (p : Box (Unit {0}) Global) (inner : Expr) → IsFirst true 0 inner
    → IsOne s (Parenthesized' l p inner)
parenthesized_one s l p inner one m (Parenthesized' k q e) h level =
    so (λ e. let a = e.0 in let b = e.1 in cc)
    (ended (mark (codes ")")) (next (leaves_of Punct (codes "(") (codes "(") l k) (one e level))
    (mark_ends (codes ")") true 0 refl))
parenthesized_one s l p inner one m b h level = other s m (Parenthesized' l p inner) b refl h refl

signed_one : (s : Bool) (l : Leaf) (sign : Sign) (p : Box (Unit {0}) Global) (inner : Expr) → IsFirst s 7 inner
    → IsOne s (Signed' l sign p inner)
signed_one s l sign p inner one m (Signed' k other_sign q e) h level =
    let parts = and_parts (nat_lt m 7) (is_of_level s 7 e) level in
    under (tightest s m)
    (so (λ e. let a = e.0 in let b = e.1 in cc) (next (leaves_of Punct _ _ l k) (one e parts.1)))
signed_one s l sign p inner one m b h level = other s m (Signed' l sign p inner) b refl h refl

-- ---- chains

pub record ChainParts (s : Bool) (n : ℕ) (first : Expr) {c : _} (rest : Row_of-Operand c) : Type 0 where
  pub within : n ≤ first_level rest
  pub some : first_level rest < 6
  pub front : IsOfLevel s (suc (first_level rest)) first
  pub others : are_of_level s (first_level rest) rest ≡ true

abbrev chain_test : Bool → ℕ → Expr → {c : _} → Row_of-Operand c → Bool
chain_test s n first rest =
    nat_lt n (suc (first_level rest)) && nat_lt (first_level rest) 6
    && is_of_level s (suc (first_level rest)) first && are_of_level s (first_level rest) rest

pub chain_parts : (s : Bool) (n : ℕ) (first : Expr) {c : _} (rest : Row_of-Operand c) → chain_test s n first rest ≡ true
    → ChainParts s n first rest
chain_parts s n first rest h =
    let level = first_level rest in
    let most = nat_lt level 6 in
    let front = is_of_level s (suc level) first in
    let split = and_parts ((nat_lt n (suc level) && most) && front) (are_of_level s level rest) h in
    let begin = and_parts (nat_lt n (suc level) && most) front split.0 in
    let bounds = and_parts (nat_lt n (suc level)) most begin.0 in
    let within = ltb-true n (suc level) bounds.0 in
    record { within = omega arith; some = ltb-true level 6 bounds.1; front = begin.1; others = split.1 }

both : {a b : Bool} → a ≡ true → b ≡ true → (a && b) ≡ true
both {a = true} e f = f
both {a = false} e f = absurd cc

-- a chain is of each level up to its own
chain_level : (s : Bool) (n m : ℕ) (first : Expr) {c : _} (rest : Row_of-Operand c) → ChainParts s n first rest
    → m ≤ first_level rest → chain_test s m first rest ≡ true
chain_level s n m first rest c le =
    both (both (both (lt-ltb m (suc (first_level rest)) (omega arith)) (lt-ltb (first_level rest) 6 c.some)) c.front)
    c.others

at_level : (s : Bool) (m n : ℕ) (first : Expr) {c : _} (rest : Row_of-Operand c) → ChainParts s m first rest
    → n ≤ first_level rest → ChainParts s n first rest
at_level s m n first rest a le = record { within = le; some = a.some; front = a.front; others = a.others }

-- the operator that tokens begin with
record OperatorAt (s : Bool) (k : ℕ) (t : List Seen) : Type 0 where
  operator : Operator
  level : level_of operator ≡ k
  is : is_operator_of s (level_of operator) operator ≡ true
  at : Among (operator_number operator ∷ []) t

row_begins : (s : Bool) {c : _} (rest : Row_of-Operand c) → first_level rest < 6
    → are_of_level s (first_level rest) rest ≡ true
    → Leads (operands_yield rest) Any (OperatorAt s (first_level rest))
row_begins s end_of-Operand h e = absurd (omega arith)
row_begins s (more_of-Operand o x rest) h e =
    let parts = row_parts s (level_of o) o x rest e in
    leads_first _ (leads_first _
    (leads_to (λ t a. record { operator = o; level = refl; is = parts.operator; at = a }) (operator_begins o)))

not_both : (s : Bool) (n k : ℕ) (t : List Seen) → n ≤ k → OperatorAt s k t → ExprEnds s n t → ⊥
not_both s n k t le o ends =
    let one = o.at.is in
    let none = (ends.operators o.operator (omega (arith, o.level)) o.is).is in
    cc

-- an expression of the level can't be just the front of a chain
pub shorter : (s : Bool) (n : ℕ) (first : Expr) {c : _} (rest : Row_of-Operand c) {x : List Piece} {P Q : Type 0}
    → ChainParts s n first rest
    → Same x (expr_yield first) P (ExprEnds s (suc (first_level rest)))
    → Same x (expr_yield first ++ operands_yield rest) Q (ExprEnds s n)
shorter s n first rest c f = record {
  by = λ t r q h k u v.
      let level = first_level rest in
      let two = split (expr_yield first) (operands_yield rest) t q k in
      let behind = (operands_end s level rest c.others).by two.middle q two.back (tighter s n level q c.within v) in
      let here = (f.by t r two.middle h two.front (tighter s n (suc level) r (omega (arith, c.within)) u) behind).1 in
      let at = (row_begins s rest c.some c.others).by two.middle q two.back tt in
      absurd (not_both s n level r c.within (subst (OperatorAt s level) (sym here) at) u);
}

-- an operand, and any expression
one_alone : (s : Bool) (a : Expr) → IsOne s a → (n : ℕ) → IsFirst s n a
one_alone s a one n (Chain' p first shape rest) h =
    let c = chain_parts s n first rest h in
    shorter s n first rest c (one_alone s a one (suc (first_level rest)) first c.front)
one_alone s a one n b h = one n b refl h

-- an operand is of each level
raised : (s : Bool) (n m : ℕ) (b : Expr) → m < 7 → is_chain b ≡ false → IsOfLevel s n b → IsOfLevel s m b
raised s n m (Signed' l o p inner) le h level = let parts = and_parts (nat_lt n 7) (is_of_level s 7 inner) level in
    both (lt-ltb m 7 le) parts.1
raised s n m (Chain' p first shape rest) le h level = absurd (cc)
raised s n m (Parenthesized' l p inner) le h level = level
raised s n m b le h level = refl

-- a chain is not the front of another one of its level
abbrev chain_shape : Expr → {c : _} → Row_of-Operand c → Shape
chain_shape first rest = Kind (codes "chain") (Both (expr_shape first) (operands_shape rest))

abbrev chain_yield : Expr → {c : _} → Row_of-Operand c → List Piece
chain_yield first rest = expr_yield first ++ operands_yield rest

abbrev pub IsRest : Bool → ℕ → {c : _} → Row_of-Operand c → Type 0
IsRest s k {c} rest =
    (d : Count) (row : Row_of-Operand d) → are_of_level s k row ≡ true
    → Same (operands_yield rest) (operands_yield row) (operands_shape rest ≡ operands_shape row) (ExprEnds s k)

-- the two are chains: of one level, or one of them begins the other, which can't be
chains_by : (s : Bool) (n m : ℕ) (first : Expr) {c : _} (rest : Row_of-Operand c) (front : Expr) {d : _}
    (others : Row_of-Operand d) (lt gt : Bool)
    → nat_lt (first_level rest) (first_level others) ≡ lt → nat_lt (first_level others) (first_level rest) ≡ gt
    → ChainParts s m first rest → ChainParts s n front others → n ≤ first_level rest
    → (first_level rest < first_level others
    → Same (expr_yield first) (chain_yield front others) (expr_shape first ≡ chain_shape front others)
    (ExprEnds s (suc (first_level rest))))
    → (first_level others < first_level rest
    → Same (chain_yield first rest) (expr_yield front) (chain_shape first rest ≡ expr_shape front)
    (ExprEnds s (suc (first_level others))))
    → (first_level others ≡ first_level rest
    → Same (expr_yield first) (expr_yield front) (expr_shape first ≡ expr_shape front)
    (ExprEnds s (suc (first_level rest))))
    → IsRest s (first_level rest) rest
    → Same (chain_yield first rest) (chain_yield front others) (chain_shape first rest ≡ chain_shape front others)
    (ExprEnds s n)
chains_by s n m first rest front others true gt e f a b le below above equal row =
    let lt = ltb-true _ _ e in
    turned (λ h. h) (shorter s n first rest (at_level s m n first rest a le) (turned (λ h. h) (below lt)))
chains_by s n m first rest front others false true e f a b le below above equal row =
    shorter s n front others b (above (ltb-true _ _ f))
chains_by s n m first rest front others false false e f a b le below above equal row =
    let ge = ltb-false _ _ e in
    let lower = ltb-false _ _ f in
    let same : first_level others ≡ first_level rest = omega arith in
    let level = first_level rest in
    let good = subst (λ k. are_of_level s k others ≡ true) same b.others in
    under (λ t. tighter s n level t le)
    (so (λ h. let x = h.0 in let y = h.1 in cc)
    (then (equal same) (operands_end s level rest a.others) (operands_end s level others good) (row _ others good)))

chain_one : (s : Bool) (m : ℕ) (first : Expr) {c : _} (rest : Row_of-Operand c) → ChainParts s m first rest
    → IsFirst s (suc (first_level rest)) first → IsRest s (first_level rest) rest
    → (n : ℕ) → n ≤ first_level rest → (b : Expr) → IsOfLevel s n b
    → Same (chain_yield first rest) (expr_yield b) (chain_shape first rest ≡ expr_shape b) (ExprEnds s n)
chain_one s m first rest a ih row n le (Chain' p front shape others) h =
    let b = chain_parts s n front others h in
    chains_by s n m first rest front others (nat_lt (first_level rest) (first_level others))
    (nat_lt (first_level others) (first_level rest)) refl refl a b le
    (λ (lt : first_level rest < first_level others). ih (Chain' p front shape others)
    (chain_level s n (suc (first_level rest)) front others b (omega arith)))
    (λ (lt : first_level others < first_level rest). chain_one s m first rest a ih row (suc (first_level others))
    (omega arith) front b.front)
    (λ (e : first_level others ≡ first_level rest). ih front (subst (λ k. IsOfLevel s (suc k) front) e b.front))
    row
chain_one s m first rest a ih row n le b h =
    turned (λ h. h) (shorter s n first rest (at_level s m n first rest a le)
    (turned (λ h. h) (ih b (raised s n (suc (first_level rest)) b (omega (arith, a.some)) refl h))))

-- an operator can't be behind the last operand
no_operator : (s : Bool) (k : ℕ) (o : Operator) (x y : List Piece) {P : Type 0} → is_operator_of s k o ≡ true
    → Same [] (operator_yield o ++ x ++ y) P (ExprEnds s k)
no_operator s k o x y is =
    contrary (leads_to (λ t (ends : ExprEnds s k t). ends.operators o (omega (arith, level_is s k o is))
    (itself s k o is)) leads_none)
    (leads_first _ (leads_first _ (operator_begins o)))

same_end : (s : Bool) (k : ℕ) {d : _} (row : Row_of-Operand d) → are_of_level s k row ≡ true
    → Same [] (operands_yield row) (Nothing ≡ operands_shape row) (ExprEnds s k)
same_end s k end_of-Operand h = so (λ u. refl) (fixed [])
same_end s k (more_of-Operand o e rest) h = no_operator s k o _ _ (row_parts s k o e rest h).operator

same_more : (s : Bool) (k : ℕ) (o : Operator) (e : Expr) {c : _} (rest : Row_of-Operand c) → RowParts s k o e rest
    → IsFirst s (suc k) e → IsRest s k rest
    → (d : Count) (row : Row_of-Operand d) → are_of_level s k row ≡ true
    → Same (operator_yield o ++ expr_yield e ++ operands_yield rest) (operands_yield row)
    (Both (Both (operator_shape o) (expr_shape e)) (operands_shape rest) ≡ operands_shape row) (ExprEnds s k)
same_more s k o e rest parts one others d end_of-Operand h = turned (λ h. h) (no_operator s k o _ _ parts.operator)
same_more s k o e rest parts one others d (more_of-Operand q f row) h =
    let theirs = row_parts s k q f row h in
    so (λ h. let x = h.0.0 in let y = h.0.1 in let z = h.1 in cc)
    (then (next (same_operator o q) (one f theirs.operand)) (operands_end s k rest parts.others)
    (operands_end s k row theirs.others) (others _ row theirs.others))

-- ---- any expression

mutual
  -- in front of some tokens stands one expression of the level
  pub same_expr : (s : Bool) (n : ℕ) (a : Expr) → IsOfLevel s n a → IsFirst s n a
  same_expr s n (Name x) h = one_alone s (Name x) (name_one s x) n
  same_expr s n (Number x) h = one_alone s (Number x) (number_one s x) n
  same_expr s n (Character x) h = one_alone s (Character x) (character_one s x) n
  same_expr s n (Text x) h = one_alone s (Text x) (text_one s x) n
  same_expr s n (Boolean v x) h = one_alone s (Boolean v x) (boolean_one s v x) n
  same_expr s n (Parenthesized' l p inner) h =
      one_alone s (Parenthesized' l p inner) (parenthesized_one s l p inner (same_expr true 0 inner h)) n
  same_expr s n (Signed' l o p inner) h =
      let parts = and_parts (nat_lt n 7) (is_of_level s 7 inner) h in
      one_alone s (Signed' l o p inner) (signed_one s l o p inner (same_expr s 7 inner parts.1)) n
  same_expr s n (Chain' p first shape rest) h =
      let c = chain_parts s n first rest h in
      chain_one s n first rest c (same_expr s (suc (first_level rest)) first c.front)
      (same_operands s (first_level rest) rest c.others) n c.within

  same_operands : (s : Bool) (k : ℕ) {c : _} (rest : Row_of-Operand c) → are_of_level s k rest ≡ true → IsRest s k rest
  same_operands s k end_of-Operand h d row e = same_end s k row e
  same_operands s k (more_of-Operand o x rest) h d row e =
      let parts = row_parts s k o x rest h in
      same_more s k o x rest parts (same_expr s (suc k) x parts.operand) (same_operands s k rest parts.others) d row e

-- ---- constant expressions and bounds

pub same_const_expr : (a b : ConstExpr)
    → Same (const_expr_yield a) (const_expr_yield b) (const_expr_shape a ≡ const_expr_shape b) (ExprEnds true 0)
same_const_expr a b = same_expr true 0 a.expr a.groups b.expr b.groups

pub same_bound : (a b : Bound) → Same (bound_yield a) (bound_yield b) (bound_shape a ≡ bound_shape b) (ExprEnds false 0)
same_bound a b = same_expr false 0 a.expr.value a.groups b.expr.value b.groups
