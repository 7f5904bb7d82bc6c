-- The way over an expression leads over each expression of its level.
use Rattle.std.proofs.Common.{◌≡◌, ◌∙◌, ℕ, suc, zero, ◌+◌, ◌-◌, ◌≤◌, codes, Bool, true, false, ◌||◌, ◌&&◌, nat_eq, nat_lt, List, [], ◌∷◌, ◌++◌, Option, Some, None, length, ap, subst, sym, refl, arith, Global, inl, inr, ◌⊎◌}
use Rattle.std.specs.Prelude.{is_some, Box}
use Rattle.std.proofs.lemmas.Bool.{and_parts}
use Rattle.std.proofs.lemmas.Bool.Decides.{Decides-eqb}
use Rattle.idl_lexer.specs.declared.token.Kind.TheVariants.{Keyword, Punct, CharLit, TextLit, Number as Integer}
use mathlib.Core.Former.{Count, this, arity}
use Rattle.std.specs.formers.vec.Vec.{the_former}
use Rattle.idl_tree.specs.declared.names.Leaf.{Leaf}
use Rattle.idl_tree.specs.declared.names.Listed.{Listed}
use Rattle.idl_tree.specs.declared.expression.Operator.{Operator}
use Rattle.idl_tree.specs.declared.expression.Operator.TheVariants.{Or, Xor, And, ShiftLeft, ShiftRight, Add, Subtract, Multiply, Divide, Remainder}
use Rattle.idl_tree.specs.declared.expression.Sign.{Sign}
use Rattle.idl_tree.specs.declared.expression.Sign.TheVariants.{Plus, Minus}
use Rattle.idl_tree.specs.declared.expression.Expr.{Expr, Name, Number, Character, Text, Boolean, Parenthesized', Signed', Chain', Row_of-Operand, end_of-Operand, more_of-Operand}
use Rattle.idl_tree.specs.declared.const_expr.ConstExpr.{ConstExpr}
use Rattle.idl_tree.specs.declared.const_expr.Bound.{Bound}
use Rattle.idl_tree.specs.Grouping.{first_level, is_operator_of, is_of_level, are_of_level, IsOfLevel}
use Rattle.idl_tree.specs.Levels.{expr_levels, operands_levels, const_expr_levels, bound_levels}
use Rattle.idl_tree.specs.Pieces.{Piece, Seen, mark, kept_mark, kept_keyword, touching}
use Rattle.idl_tree.specs.Yields.{operator_yield, in_order, text_yield, boolean_text, sign_text, expr_yield, operands_yield, const_expr_yield, bound_yield}
use Rattle.idl_tree.specs.Descent.{Way, sees, sees_kind, sees_mark, sees_touching, taken, taken_kind, taken_touching, repeated, text_way, boolean_way, atom_way, primary_way, sees_sign, unary_way, sees_shift, operator_seen, if_seen, first_seen, operator_at, operator_way, operand_way, operands_way, level_way, inside_way, expr_way}
use Rattle.idl_tree.proofs.Fronts.{Reads, begins, split, reads_none, touching_first}
use Rattle.idl_tree.proofs.Same.{is_in, Among, Any, leads_first, leads_any, kept_among, fewer}
use Rattle.idl_tree.proofs.Operators.{operator_number, one_operator, operator_begins, ExprEnds, tighter, tightest, itself, level_is, row_parts, operands_end, among_one}
use Rattle.idl_tree.proofs.Expressions.{is_chain, chain_parts, starts_of, alone_begins, mark_ends}
use Rattle.idl_tree.proofs.Takes.{Takes, front, front_next, last, last_next, takes_under, Shows, shows_first, shown_by, unseen, unseen_text, hides, choose, pass, piece_takes, piece_shows, kept_takes, kept_behind, kept_shows, leaf_takes, leaf_shows, kept_kind, Repeats, repeats_lead, takes_repeated, none_high, goes_no, goes_yes, and_then_some, shorter_left, sees_begins, touching_seen, touching_takes}
use Rattle.idl_tree.proofs.NameWays.{takes_name, name_kind}

-- ---- names and literals

pub texts : (s : Bool) (n : ℕ)
    → Repeats text_yield (λ _. 0) 0 (λ t. sees_kind TextLit t) (λ t. taken_kind TextLit t) (54 ∷ []) Any (ExprEnds s n)
texts s n = record {
  takes = λ x few. leaf_takes TextLit x;
  shows = λ x. leaf_shows TextLit x;
  first = λ x. kept_among TextLit _ x _ refl;
  some = refl;
  more = λ t a. tt;
  end = λ t a. tt;
  none = λ t ends. unseen_text (18 ∷ 54 ∷ []) t refl ends.names;
}

takes_texts : (s : Bool) (n : ℕ) (l : Listed Leaf) → Takes (in_order text_yield l) text_way (ExprEnds s n)
takes_texts s n l = last (front (leaf_takes TextLit l.first)) (repeats_lead (texts s n) l.rest.items)
    (takes_repeated (texts s n) l.rest.items (none_high l.rest.items))

takes_boolean : (b : Bool) (l : Leaf) {S : List Seen → Type 0} → Takes (kept_keyword (boolean_text b) l) boolean_way S
takes_boolean true l = choose _ (kept_shows Keyword (codes "TRUE") l) (kept_takes Keyword (codes "TRUE") l)
takes_boolean false l = pass _ (hides Keyword (codes "TRUE") refl (kept_among Keyword (codes "FALSE") l (51 ∷ []) refl))
    (kept_takes Keyword (codes "FALSE") l)

-- an operand that isn't in parentheses and has no sign
abbrev is_atom : Expr → Bool
is_atom (Parenthesized' l p inner) = false
is_atom (Signed' m s p inner) = false
is_atom (Chain' p first shape rest) = false
is_atom e = true

takes_atom : (s : Bool) (n : ℕ) (e : Expr) → is_atom e ≡ true → Takes (expr_yield e) atom_way (ExprEnds s n)
unfolding atom_way
takes_atom s n (Number l) h = choose _ (leaf_shows Integer l) (leaf_takes Integer l)
takes_atom s n (Character l) h =
    pass _ (kept_kind CharLit _ l Integer) (choose _ (leaf_shows CharLit l) (leaf_takes CharLit l))
takes_atom s n (Text ls) h =
    pass _ (shows_first _ (kept_kind TextLit _ ls.value.first Integer))
    (pass _ (shows_first _ (kept_kind TextLit _ ls.value.first CharLit))
    (choose _ (shows_first _ (leaf_shows TextLit ls.value.first)) (takes_texts s n ls.value)))
takes_atom s n (Boolean b l) h =
    pass _ (kept_kind Keyword _ l Integer)
    (pass _ (kept_kind Keyword _ l CharLit) (pass _ (kept_kind Keyword _ l TextLit)
    (choose _ (kept_kind Keyword _ l Keyword) (takes_boolean b l))))
takes_atom s n (Name x) h =
    pass _ (name_kind x Integer refl refl)
    (pass _ (name_kind x CharLit refl refl) (pass _ (name_kind x TextLit refl refl)
    (pass _ (name_kind x Keyword refl refl) (takes_under (λ t ends. fewer refl ends.names) (takes_name x)))))
takes_atom s n (Parenthesized' l p inner) h = absurd (cc)
takes_atom s n (Signed' l o p inner) h = absurd (cc)
takes_atom s n (Chain' p first shape rest) h = absurd (cc)

both : {a b : Bool} → a ≡ true → b ≡ true → (a && b) ≡ true
both {a = true} e f = f
both {a = false} e f = absurd cc

same_number : (n : ℕ) → nat_eq n n ≡ true
same_number n = (Decides-eqb n n).1 refl

-- ---- operators

touching_begins_so : (text : List ℕ) (t : List Seen) → sees_touching text t ≡ true → sees Punct text t ≡ true
unfolding sees_touching sees
touching_begins_so text [] h = absurd (cc)
touching_begins_so text (t ∷ ts) h = (and_parts (sees Punct text (t ∷ ts)) t.touches h).0

shift_begins : (t : List Seen) → sees_shift t ≡ true → begins t ≡ 64
shift_begins [] h = absurd (cc)
shift_begins (t ∷ ts) h =
    let parts = and_parts (sees_touching (codes ">") (t ∷ ts)) (sees_mark (codes ">") ts) h in
    sees_begins Punct (codes ">") (t ∷ ts) (touching_begins_so (codes ">") (t ∷ ts) parts.0)

seen_begins : (o : Operator) (t : List Seen) → operator_seen o t ≡ true → begins t ≡ operator_number o
seen_begins ShiftRight t h = shift_begins t h
seen_begins Or t h = sees_begins Punct (codes "|") t h
seen_begins Xor t h = sees_begins Punct (codes "^") t h
seen_begins And t h = sees_begins Punct (codes "&") t h
seen_begins ShiftLeft t h = sees_begins Punct (codes "<<") t h
seen_begins Add t h = sees_begins Punct (codes "+") t h
seen_begins Subtract t h = sees_begins Punct (codes "-") t h
seen_begins Multiply t h = sees_begins Punct (codes "*") t h
seen_begins Divide t h = sees_begins Punct (codes "/") t h
seen_begins Remainder t h = sees_begins Punct (codes "%") t h

shift_shows : (t r : List Seen) → Reads (touching (codes ">") ++ mark (codes ">")) t r → sees_shift t ≡ true
shift_shows t r h =
    let two = split (touching (codes ">")) (mark (codes ">")) t r h in
    let f = touching_first (codes ">") t two.middle two.front in
    ap sees_shift f.is
    ∙ both (ap (sees_touching (codes ">")) (sym f.is) ∙ touching_seen (codes ">") t two.middle two.front)
    ((piece_shows Punct (codes ">") {S = Any}).by two.middle r two.back tt)

operator_shows : (o : Operator) → Shows (operator_yield o) Any (λ t. operator_seen o t) true
operator_shows ShiftRight = record { by = λ t r h s. shift_shows t r h }
operator_shows Or = piece_shows Punct (codes "|")
operator_shows Xor = piece_shows Punct (codes "^")
operator_shows And = piece_shows Punct (codes "&")
operator_shows ShiftLeft = piece_shows Punct (codes "<<")
operator_shows Add = piece_shows Punct (codes "+")
operator_shows Subtract = piece_shows Punct (codes "-")
operator_shows Multiply = piece_shows Punct (codes "*")
operator_shows Divide = piece_shows Punct (codes "/")
operator_shows Remainder = piece_shows Punct (codes "%")

takes_touching : Takes (touching (codes ">")) (λ t. taken_touching (codes ">") t) Any
takes_touching = touching_takes (codes ">")

takes_operator : (o : Operator) → Takes (operator_yield o) (λ t. operator_way o t) Any
takes_operator ShiftRight = last_next (front takes_touching) (piece_takes Punct (codes ">"))
takes_operator Or = piece_takes Punct (codes "|")
takes_operator Xor = piece_takes Punct (codes "^")
takes_operator And = piece_takes Punct (codes "&")
takes_operator ShiftLeft = piece_takes Punct (codes "<<")
takes_operator Add = piece_takes Punct (codes "+")
takes_operator Subtract = piece_takes Punct (codes "-")
takes_operator Multiply = piece_takes Punct (codes "*")
takes_operator Divide = piece_takes Punct (codes "/")
takes_operator Remainder = piece_takes Punct (codes "%")

abbrev test_of : Bool → ℕ → List Seen → Operator → Bool
test_of s k t o = is_operator_of s k o && operator_seen o t

by_test : (b : Bool) (o : Operator) (other : Option Operator) → b ≡ false → if_seen b o other ≡ other
by_test b o other e = ap (λ c. if_seen c o other) e

first_none : (s : Bool) (k : ℕ) (t : List Seen) (os : List Operator) → ((o : Operator) → test_of s k t o ≡ false)
    → first_seen s k os t ≡ None
first_none s k t [] h = refl
first_none s k t (o ∷ os) h = by_test _ o _ (h o) ∙ first_none s k t os h

-- the operator is one of these
abbrev IsOneOf : Operator → List Operator → Type 0
IsOneOf o [] = ⊥
IsOneOf o (q ∷ qs) = (q ≡ o) ⊎ IsOneOf o qs

others_of : (s : Bool) (k : ℕ) (t : List Seen) (o q : Operator) (qs : List Operator) → test_of s k t o ≡ true
    → test_of s k t q ≡ false → IsOneOf o (q ∷ qs) → IsOneOf o qs
others_of s k t o q qs h e (inl same) =
    absurd (let back : test_of s k t q ≡ test_of s k t o = ap (test_of s k t) same in cc)
others_of s k t o q qs h e (inr more) = more

first_by : (s : Bool) (k : ℕ) (t : List Seen) (o q : Operator) (other : Option Operator) (b : Bool)
    → test_of s k t q ≡ b → (b ≡ true → q ≡ o) → (b ≡ false → other ≡ Some o)
    → if_seen (test_of s k t q) q other ≡ Some o
first_by s k t o q other true e here more = ap (λ c. if_seen c q other) e ∙ ap Some (here refl)
first_by s k t o q other false e here more = by_test _ q _ e ∙ more refl

first_some : (s : Bool) (k : ℕ) (t : List Seen) (o : Operator) (os : List Operator) → test_of s k t o ≡ true
    → ((q : Operator) → test_of s k t q ≡ true → q ≡ o) → IsOneOf o os → first_seen s k os t ≡ Some o
first_some s k t o [] h only here = absurd here
first_some s k t o (q ∷ qs) h only here =
    first_by s k t o q (first_seen s k qs t) (test_of s k t q) refl (λ e. only q e)
    (λ e. first_some s k t o qs h only (others_of s k t o q qs h e here))

abbrev operators : List Operator
operators = Or ∷ Xor ∷ And ∷ ShiftLeft ∷ ShiftRight ∷ Add ∷ Subtract ∷ Multiply ∷ Divide ∷ Remainder ∷ []

one_of_all : (o : Operator) → IsOneOf o operators
one_of_all Or = inl refl
one_of_all Xor = inr (inl refl)
one_of_all And = inr (inr (inl refl))
one_of_all ShiftLeft = inr (inr (inr (inl refl)))
one_of_all ShiftRight = inr (inr (inr (inr (inl refl))))
one_of_all Add = inr (inr (inr (inr (inr (inl refl)))))
one_of_all Subtract = inr (inr (inr (inr (inr (inr (inl refl))))))
one_of_all Multiply = inr (inr (inr (inr (inr (inr (inr (inl refl)))))))
one_of_all Divide = inr (inr (inr (inr (inr (inr (inr (inr (inl refl))))))))
one_of_all Remainder = inr (inr (inr (inr (inr (inr (inr (inr (inr (inl refl)))))))))

no_test : (s : Bool) (k : ℕ) (t : List Seen) (o : Operator) (b : Bool) → test_of s k t o ≡ b → ExprEnds s k t
    → test_of s k t o ≡ false
no_test s k t o true e ends =
    let parts = and_parts (is_operator_of s k o) (operator_seen o t) e in
    let level = level_is s k o parts.0 in
    let none = (ends.operators o (omega (arith, level)) (itself s k o parts.0)).is in
    let number = seen_begins o t parts.1 in
    absurd (let here : is_in (operator_number o ∷ []) (begins t) ≡ is_in (operator_number o ∷ []) (operator_number o) =
    ap (is_in (operator_number o ∷ [])) number in
    let itself' : is_in (operator_number o ∷ []) (operator_number o) ≡ true =
    ap (λ c. c || false) (same_number (operator_number o)) in cc)
no_test s k t o false e ends = e

pub at_none : (s : Bool) (k : ℕ) (t : List Seen) → ExprEnds s k t → operator_at s k t ≡ None
unfolding operator_at
at_none s k t ends = first_none s k t operators (λ o. no_test s k t o (test_of s k t o) refl ends)

pub at_some : (s : Bool) (k : ℕ) (o : Operator) (t r : List Seen) → is_operator_of s k o ≡ true
    → Reads (operator_yield o) t r → operator_at s k t ≡ Some o
unfolding operator_at
at_some s k o t r is h =
    let seen = (operator_shows o).by t r h tt in
    let number = among_one _ t ((operator_begins o).by t r h tt) in
    first_some s k t o operators (both is seen)
    (λ q (e : test_of s k t q ≡ true).
    let parts = and_parts (is_operator_of s k q) (operator_seen q t) e in
    one_operator q o (sym (seen_begins q t parts.1) ∙ number))
    (one_of_all o)

-- ---- levels

no_operators : (tighter' : List Seen → Way) (s : Bool) (k l : ℕ) (fuel t : List Seen) → l ≡ k → ExprEnds s k t
    → repeated (λ u. is_some (operator_at s l u)) (λ u. operand_way tighter' (operator_at s l u) u) fuel t ≡ Some t
no_operators tighter' s k l fuel t e ends =
    goes_no _ _ fuel t (ap is_some (at_none s l t (subst (λ n. ExprEnds s n t) (sym e) ends)))

-- what is tighter is of the level too
raise : (inner : List Seen → Way) (s : Bool) (n g : ℕ) {x : List Piece} → n + suc g ≡ 6
    → Takes x (λ t. level_way inner s g t) (ExprEnds s (suc n))
    → Takes x (λ t. level_way inner s (suc g) t) (ExprEnds s n)
unfolding level_way
raise inner s n g e f = record {
  by = λ t r h ends.
      and_then_some (level_way inner s g t) r (λ u. operands_way (λ v. level_way inner s g v) s (5 - g) u)
      (f.by t r h (tighter s n (suc n) r (omega arith) ends))
      ∙ no_operators (λ v. level_way inner s g v) s n (5 - g) r r (omega (arith, e)) ends;
}

pub raise_to : (inner : List Seen → Way) (s : Bool) (d n g m : ℕ) {x : List Piece} → m ≡ d + g → n + m ≡ 6
    → Takes x (λ t. level_way inner s g t) (ExprEnds s (d + n)) → Takes x (λ t. level_way inner s m t) (ExprEnds s n)
raise_to inner s zero n g m {x = x} e all f =
    let same : g ≡ m = omega (arith, e) in
    let level : zero + n ≡ n = omega arith in
    subst (λ k. Takes x (λ t. level_way inner s k t) (ExprEnds s n)) same
    (subst (λ k. Takes x (λ t. level_way inner s g t) (ExprEnds s k)) level f)
raise_to inner s (suc d) n g zero e all f = absurd (omega (arith, e))
raise_to inner s (suc d) n g (suc m) {x = x} e all f =
    let level : suc d + n ≡ d + suc n = omega arith in
    raise inner s n m all (raise_to inner s d (suc n) g m (omega (arith, e)) (omega (arith, all))
    (subst (λ k. Takes x (λ t. level_way inner s g t) (ExprEnds s k)) level f))

-- ---- operands

-- one that has no sign
abbrev pub is_primary : Expr → Bool
is_primary (Signed' m s p inner) = false
is_primary (Chain' p first shape rest) = false
is_primary e = true

-- what is to be shown of an expression
pub record Taken (e : Expr) : Type 0 where
  pub primary : (room : ℕ) (s : Bool) → is_primary e ≡ true → expr_levels e ≤ room
      → Takes (expr_yield e) (λ t. primary_way (λ u. inside_way room u) t) (ExprEnds s 7)
  pub level : (room : ℕ) (s : Bool) (n g : ℕ) → n + g ≡ 6 → expr_levels e ≤ room → IsOfLevel s n e
      → Takes (expr_yield e) (λ t. level_way (λ u. inside_way room u) s g t) (ExprEnds s n)

at_bottom : (inner : List Seen → Way) (s : Bool) {x : List Piece} {S : List Seen → Type 0}
    → Takes x (λ t. unary_way inner t) S → Takes x (λ t. level_way inner s 0 t) S
unfolding level_way
at_bottom inner s f = f

-- an operand that may have a sign is one of each level
from_unary : (inner : List Seen → Way) (s : Bool) (n g : ℕ) {x : List Piece} → n + g ≡ 6
    → Takes x (λ t. unary_way inner t) (ExprEnds s 6) → Takes x (λ t. level_way inner s g t) (ExprEnds s n)
from_unary inner s n g {x = x} e f =
    let six : 6 ≡ g + n = omega (arith, e) in
    raise_to inner s g n 0 g (omega arith) e
    (subst (λ k. Takes x (λ t. level_way inner s 0 t) (ExprEnds s k)) six (at_bottom inner s f))

from_primary : (e : Expr) → ((t : List Seen) → Among (starts_of e) t → sees_sign t ≡ false) → is_chain e ≡ false
    → ((room : ℕ) (s : Bool) → expr_levels e ≤ room
    → Takes (expr_yield e) (λ t. primary_way (λ u. inside_way room u) t) (ExprEnds s 7)) → Taken e
from_primary e unsigned alone takes = record {
  primary = λ room s h few. takes room s few;
  level = λ room s n g all few is.
      from_unary (λ u. inside_way room u) s n g all
      (pass _ (shown_by (leads_any (alone_begins e alone)) unsigned) (takes_under (tightest s 6) (takes room s few)));
}

atom_taken : (e : Expr) → is_atom e ≡ true → is_chain e ≡ false
    → ((t : List Seen) → Among (starts_of e) t → sees_sign t ≡ false)
    → ((t : List Seen) → Among (starts_of e) t → sees_mark (codes "(") t ≡ false) → Taken e
atom_taken e h alone unsigned bare =
    from_primary e unsigned alone
    (λ room s few. pass _ (shown_by (leads_any (alone_begins e alone)) bare) (takes_atom s 7 e h))

neither : (a b : Bool) → a ≡ false → b ≡ false → (a || b) ≡ false
neither a b e f = cc_or a b e f
  where
    cc_or : (a b : Bool) → a ≡ false → b ≡ false → (a || b) ≡ false
    cc_or true b e f = absurd (cc)
    cc_or false b e f = f

no_sign : (ms : List ℕ) (t : List Seen) → is_in ms 56 ≡ false → is_in ms 57 ≡ false → Among ms t → sees_sign t ≡ false
no_sign ms t h k a = neither _ _ (unseen Punct (codes "-") ms t h a) (unseen Punct (codes "+") ms t k a)

-- in parentheses
inside : (room left : ℕ) {x : List Piece} {S : List Seen → Type 0} → room ≡ suc left
    → Takes x (λ t. level_way (λ u. inside_way left u) true 6 t) S → Takes x (λ t. inside_way room t) S
unfolding inside_way
inside zero left e f = absurd (omega (arith, e))
inside (suc k) left {x = x} {S = S} e f =
    let same : left ≡ k = omega (arith, e) in
    subst (λ m. Takes x (λ t. level_way (λ u. inside_way m u) true 6 t) S) same f

parentheses_taken : (l : Leaf) (p : Box (Unit {0}) Global) (inner : Expr) → IsOfLevel true 0 inner → Taken inner
    → Taken (Parenthesized' l p inner)
parentheses_taken l p inner is taken =
    from_primary (Parenthesized' l p inner) (λ t a. no_sign (55 ∷ []) t refl refl a) refl
    (λ room s few.
    let left = room - 1 in
    let room_is : room ≡ suc left = omega (arith, few) in
    choose _ (shows_first _ (shows_first _ (kept_shows Punct (codes "(") l)))
    (last (front_next (front (kept_takes Punct (codes "(") l))
    (front (inside room left room_is (taken.level left true 0 6 refl (omega (arith, few)) is))))
    (mark_ends (codes ")") true 0 refl) (piece_takes Punct (codes ")"))))

pub or_right : (a b : Bool) → b ≡ true → (a || b) ≡ true
or_right true b e = refl
or_right false b e = e

sign_shows : (s : Sign) (m : Leaf) → Shows (kept_mark (sign_text s) m) Any (λ t. sees_sign t) true
sign_shows Plus m = record {
  by =
      λ t r h s. or_right (sees_mark (codes "-") t) _ ((kept_shows Punct (codes "+") m {S = Any}).by t r h s);
}
sign_shows Minus m = record {
  by =
      λ t r h s. ap (λ b. b || sees_mark (codes "+") t) ((kept_shows Punct (codes "-") m {S = Any}).by t r h s);
}

-- behind a sign stands an operand that has none
no_second : (s : Bool) (e : Expr) → IsOfLevel s 7 e → is_primary e ≡ true
no_second s (Signed' m o p inner) h = absurd (cc)
no_second s (Chain' p first shape rest) h = let c = chain_parts s 7 first rest h in
    absurd (omega (arith, c.within, c.some))
no_second s e h = refl

signed_taken : (m : Leaf) (sign : Sign) (p : Box (Unit {0}) Global) (inner : Expr) → Taken inner
    → Taken (Signed' m sign p inner)
signed_taken m sign p inner taken = record {
  primary = λ room s h few. absurd (cc);
  level = λ room s n g all few is.
      let parts = and_parts (nat_lt n 7) (is_of_level s 7 inner) is in
      from_unary (λ u. inside_way room u) s n g all
      (choose _ (shows_first _ (sign_shows sign m))
      (last_next (front (kept_behind Punct _ m))
      (takes_under (tightest s 6) (taken.primary room s (no_second s inner parts.1) few))));
}

-- ---- chains

-- what is to be shown of operators with operands
pub record RowTaken {c : _} (rest : Row_of-Operand c) : Type 0 where
  pub by : (room : ℕ) (s : Bool) (k g l : ℕ) → suc k + g ≡ 6 → l ≡ k → operands_levels rest ≤ room
      → are_of_level s k rest ≡ true
      → (fuel t r : List Seen) → Reads (operands_yield rest) t r → ExprEnds s k r → length t ≤ length fuel
      → repeated (λ u. is_some (operator_at s l u))
      (λ u. operand_way (λ v. level_way (λ w. inside_way room w) s g v) (operator_at s l u) u) fuel t ≡ Some r

end_taken : RowTaken end_of-Operand
end_taken = record {
  by = λ room s k g l all same few is fuel t r h ends le.
      no_operators _ s k l fuel t same (subst (ExprEnds s k) (sym (reads_none h)) ends) ∙ ap Some (reads_none h);
}

positive : (o : Operator) → is_in (operator_number o ∷ []) 0 ≡ false
positive Or = refl
positive Xor = refl
positive And = refl
positive ShiftLeft = refl
positive ShiftRight = refl
positive Add = refl
positive Subtract = refl
positive Multiply = refl
positive Divide = refl
positive Remainder = refl

more_taken : {c : _} (o : Operator) (e : Expr) (rest : Row_of-Operand c) → Taken e → RowTaken rest
    → RowTaken (more_of-Operand o e rest)
more_taken o e rest one others = record {
  by = λ room s k g l all same few is fuel t r h ends le.
      let parts = row_parts s k o e rest is in
      let two = split (operator_yield o ++ expr_yield e) (operands_yield rest) t r h in
      let m = two.middle in
      let first = split (operator_yield o) (expr_yield e) t m two.front in
      let here : operator_at s l t ≡ Some o =
      at_some s l o t first.middle (subst (λ n. is_operator_of s n o ≡ true) (sym same) parts.operator) first.front
      in
      let behind = (operands_end s k rest parts.others).by m r two.back ends in
      let way = λ (v : List Seen). level_way (λ w. inside_way room w) s g v in
      let took = (last_next (front (takes_operator o))
      (one.level room s (suc k) g all (omega (arith, few)) parts.operand)).by t m two.front behind in
      goes_yes _ _ fuel t m r (ap is_some here) (ap (λ z. operand_way way z t) here ∙ took)
      (shorter_left (positive o) (leads_first _ (operator_begins o)) t m two.front) le
      (λ (left : List Seen) (lt : length m ≤ length left). others.by room s k g l all same (omega (arith, few))
      parts.others left m r two.back ends lt);
}

-- operands with operators of one level
level_chain : (room : ℕ) (s : Bool) (k g : ℕ) (first : Expr) {c : _} (rest : Row_of-Operand c) → suc k + g ≡ 6
    → Taken first → RowTaken rest
    → expr_levels first ≤ room → operands_levels rest ≤ room → IsOfLevel s (suc k) first → are_of_level s k rest ≡ true
    → Takes (expr_yield first ++ operands_yield rest) (λ t. level_way (λ u. inside_way room u) s (suc g) t)
    (ExprEnds s k)
unfolding level_way
level_chain room s k g first rest all one others few few' is are =
    last (front (one.level room s (suc k) g all few is)) (operands_end s k rest are)
    (record {
      by = λ t r h ends. others.by room s k g (5 - g) all (omega (arith, all)) few' are t t r h ends
          (omega arith);
    })

abbrev Shape : Type 0
Shape = (the_former (this {0}) Global).Shape

abbrev parts_of : Shape → Count
parts_of shape = arity (the_former (this {0}) Global) shape

chain_taken : (p : Box (Unit {0}) Global) (first : Expr) (shape : Shape) (rest : Row_of-Operand (parts_of shape))
    → Taken first → RowTaken rest → Taken (Chain' p first shape rest)
chain_taken p first shape rest one others = record {
  primary = λ room s h few. absurd (cc);
  level = λ room s n g all few is.
      let c = chain_parts s n first rest is in
      let k = first_level rest in
      let base = level_chain room s k (5 - k) first rest (omega (arith, c.some)) one others (omega (arith, few))
      (omega (arith, few)) c.front c.others in
      let at : k ≡ (k - n) + n = omega (arith, c.within) in
      raise_to (λ u. inside_way room u) s (k - n) n (suc (5 - k)) g (omega (arith, all, c.within, c.some)) all
      (subst (λ z. Takes (expr_yield first ++ operands_yield rest)
      (λ t. level_way (λ u. inside_way room u) s (suc (5 - k)) t) (ExprEnds s z)) at base);
}

-- ---- all of them

mutual
  pub expr_taken : (e : Expr) (s : Bool) (n : ℕ) → IsOfLevel s n e → Taken e
  expr_taken (Name x) s n h =
      atom_taken (Name x) refl refl (λ t a. no_sign (17 ∷ 18 ∷ []) t refl refl a)
      (λ t a. unseen Punct (codes "(") (17 ∷ 18 ∷ []) t refl a)
  expr_taken (Number x) s n h =
      atom_taken (Number x) refl refl (λ t a. no_sign (52 ∷ []) t refl refl a)
      (λ t a. unseen Punct (codes "(") (52 ∷ []) t refl a)
  expr_taken (Character x) s n h =
      atom_taken (Character x) refl refl (λ t a. no_sign (53 ∷ []) t refl refl a)
      (λ t a. unseen Punct (codes "(") (53 ∷ []) t refl a)
  expr_taken (Text x) s n h =
      atom_taken (Text x) refl refl (λ t a. no_sign (54 ∷ []) t refl refl a)
      (λ t a. unseen Punct (codes "(") (54 ∷ []) t refl a)
  expr_taken (Boolean v x) s n h =
      atom_taken (Boolean v x) refl refl (λ t a. no_sign (50 ∷ 51 ∷ []) t refl refl a)
      (λ t a. unseen Punct (codes "(") (50 ∷ 51 ∷ []) t refl a)
  expr_taken (Parenthesized' l p inner) s n h = parentheses_taken l p inner h (expr_taken inner true 0 h)
  expr_taken (Signed' m o p inner) s n h =
      signed_taken m o p inner (expr_taken inner s 7 (and_parts (nat_lt n 7) (is_of_level s 7 inner) h).1)
  expr_taken (Chain' p first shape rest) s n h =
      let c = chain_parts s n first rest h in
      chain_taken p first shape rest (expr_taken first s (suc (first_level rest)) c.front)
      (row_taken rest s (first_level rest) c.others)

  row_taken : {c : _} (rest : Row_of-Operand c) (s : Bool) (k : ℕ) → are_of_level s k rest ≡ true → RowTaken rest
  row_taken end_of-Operand s k h = end_taken
  row_taken (more_of-Operand o e rest) s k h =
      let parts = row_parts s k o e rest h in
      more_taken o e rest (expr_taken e s (suc k) parts.operand) (row_taken rest s k parts.others)

-- ---- constant expressions and bounds

pub takes_const_expr : (room : ℕ) (c : ConstExpr) → const_expr_levels c ≤ room
    → Takes (const_expr_yield c) (λ t. expr_way true room t) (ExprEnds true 0)
takes_const_expr room c few = (expr_taken c.expr true 0 c.groups).level room true 0 6 refl few c.groups

pub takes_bound : (room : ℕ) (b : Bound) → bound_levels b ≤ room
    → Takes (bound_yield b) (λ t. expr_way false room t) (ExprEnds false 0)
takes_bound room b few = (expr_taken b.expr.value false 0 b.groups).level room false 0 6 refl few b.groups
