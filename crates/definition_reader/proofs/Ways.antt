-- A reader that takes one step after another, and the way that does.
use Rattle.std.proofs.Common.{◌≡◌, ◌∙◌, ℕ, zero, suc, ◌+◌, ◌-◌, ◌<◌, ◌≤◌, ◌⊎◌, inl, inr, Bool, true, false, not, ◌&&◌, ◌==◌, nat_eq, List, [], ◌∷◌, Option, Some, None, codes, length, take, drop, get_or, sym, subst, ap, refl, arith}
use Rattle.std.specs.Prelude.{Result, Ok, Err, IfOk, IfErr, IfNone, IfSome}
use Rattle.std.specs.Bool.{OnTrue, OnFalse}
use Rattle.std.specs.Str.{bytes_eq}
use Rattle.std.proofs.Math.Seq.{take-length}
use Rattle.std.proofs.lemmas.Bool.{and_parts}
use Rattle.std.proofs.lemmas.Bool.Decides.{Decides-eqb}
use Rattle.std.proofs.lemmas.Slice.Eq.{bytes_eq-Decides}
use Rattle.idl_lexer.specs.declared.token.Kind.{Kind}
use Rattle.idl_lexer.specs.declared.token.Token.{Token}
use Rattle.idl_lexer.specs.declared.token.Kind.TheVariants.{Punct}
use Rattle.idl_lexer.specs.Tokens.{end_of}
use Rattle.idl_tree.specs.Pieces.{Seen, kind_code, seen_from, touching}
use Rattle.idl_tree.proofs.Fronts.{same_kind}
use Rattle.idl_tree.specs.declared.expression.Operator.{Operator}
use Rattle.idl_tree.specs.declared.expression.Operator.TheVariants.{Or, Xor, And, ShiftLeft, ShiftRight, Add, Subtract, Multiply, Divide, Remainder}
use Rattle.idl_tree.specs.Grouping.{is_operator_of}
use Rattle.idl_tree.specs.Descent.{Way, sees, sees_kind, sees_touching, sees_shift, sees_word, behind_next, only_if, and_then, where_seen, opened, repeated, if_seen, first_seen, operator_seen, operator_at, operator_way, operand_way, operands_way, level_way, unary_way, inside_way, simple_type_way, param_type_way, enum_way, listed_way, identifier_way, mark_taken, named_way, type_way, struct_way, union_way, sees_mark, rest_way, braced_way, no_brace}
use Rattle.idl_tree.specs.DefinitionDescent.{is_ahead, is_over, attributes_way, definition_way, definitions_way, single_way}
use Rattle.definition_reader.specs.declared.stop.Stop.{Stop}
use Rattle.definition_reader.specs.declared.stop.Stop.TheVariants.{NoMemory}
use Rattle.definition_reader.specs.inner.Reading.{Parsed}
use Rattle.definition_reader.specs.inner.Following.{Ends, Going, Began, Bracing, sequence_way, raising_way, module_way}
use Rattle.definition_reader.specs.Specification.{IsNoSpec}
use Rattle.definition_reader.proofs.Reading.{touching_read}

-- ---- steps

pub goes_past : (o : Way) (more : List Seen → Way) (t : List Seen) → o ≡ Some t → and_then o more ≡ more t
unfolding and_then
goes_past o more t e = ap (λ w. and_then w more) e

pub ends_at : (o : Way) (more : List Seen → Way) (e : Stop) → Ends o e → Ends (and_then o more) e
unfolding and_then
ends_at o more e (inl h) = inl h
ends_at o more e (inr h) = inr (ap (λ w. and_then w more) h)

pub ends_so : (o p : Way) (e : Stop) → p ≡ o → Ends o e → Ends p e
ends_so o p e same h = subst (λ w. Ends w e) (sym same) h

pub ends_past : (o : Way) (more : List Seen → Way) (t : List Seen) (e : Stop) → o ≡ Some t → Ends (more t) e
    → Ends (and_then o more) e
ends_past o more t e same h = ends_so (more t) (and_then o more) e (goes_past o more t same) h

pub where_is : (b : Bool) (on off : Way) → b ≡ true → where_seen b on off ≡ on
unfolding where_seen
where_is b on off e = ap (λ c. where_seen c on off) e

pub where_is_not : (b : Bool) (on off : Way) → b ≡ false → where_seen b on off ≡ off
unfolding where_seen
where_is_not b on off e = ap (λ c. where_seen c on off) e

-- ---- the same with all that a goal shows left out

-- a step that was taken
pub on : {o : Way} {t : List Seen} {v : Way} (more : List Seen → Way) → o ≡ Some t → more t ≡ v → and_then o more ≡ v
on {o = o} {t = t} more e h = goes_past o more t e ∙ h

-- a step that wasn't
pub halts : {o : Way} {e : Stop} (more : List Seen → Way) → Ends o e → Ends (and_then o more) e
halts {o = o} {e = e} more h = ends_at o more e h

-- a step that was taken, before one that wasn't
pub past : {o : Way} {t : List Seen} {e : Stop} (more : List Seen → Way) → o ≡ Some t → Ends (more t) e
    → Ends (and_then o more) e
past {o = o} {t = t} {e = e} more same h = ends_past o more t e same h

pub seen : {b : Bool} {here v : Way} (other : Way) → b ≡ true → here ≡ v → where_seen b here other ≡ v
seen {b = b} {here = here} other e h = where_is b here other e ∙ h

pub unseen : {b : Bool} {other v : Way} (here : Way) → b ≡ false → other ≡ v → where_seen b here other ≡ v
unseen {b = b} {other = other} here e h = where_is_not b here other e ∙ h

pub halts_seen : {b : Bool} {here : Way} {e : Stop} (other : Way) → b ≡ true → Ends here e
    → Ends (where_seen b here other) e
halts_seen {b = b} {here = here} {e = e} other same h =
    ends_so here (where_seen b here other) e (where_is b here other same) h

pub halts_unseen : {b : Bool} {other : Way} {e : Stop} (here : Way) → b ≡ false → Ends other e
    → Ends (where_seen b here other) e
halts_unseen {b = b} {other = other} {e = e} here same h =
    ends_so other (where_seen b here other) e (where_is_not b here other same) h

-- ---- parts one after another

pub going_begins : (goes : List Seen → Bool) (one : List Seen → Way) (t : List Seen) → Going goes one t t
going_begins goes one t = record { fuel = t; enough = omega arith; same = refl }

going_on_over : (goes : List Seen → Bool) (one : List Seen → Way) (start t u : List Seen) (fuel : List Seen)
    → length t ≤ length fuel → repeated goes one start start ≡ repeated goes one fuel t
    → goes t ≡ true → one t ≡ Some u → length u < length t → Going goes one start u
unfolding repeated and_then where_seen
going_on_over goes one start t u [] enough same g o less = absurd (omega arith)
going_on_over goes one start t u (f ∷ fs) enough same g o less = record {
  fuel = fs;
  enough = omega (arith, enough, less);
  same = same ∙ rw (g, o) refl;
}

pub going_on : (goes : List Seen → Bool) (one : List Seen → Way) (start t u : List Seen)
    → Going goes one start t → goes t ≡ true → one t ≡ Some u → length u < length t → Going goes one start u
going_on goes one start t u h g o less = going_on_over goes one start t u h.fuel h.enough h.same g o less

ended_over : (goes : List Seen → Bool) (one : List Seen → Way) (t : List Seen) (fuel : List Seen)
    → goes t ≡ false → repeated goes one fuel t ≡ Some t
unfolding repeated where_seen
ended_over goes one t [] g = rw (g) refl
ended_over goes one t (f ∷ fs) g = rw (g) refl

pub going_ends : (goes : List Seen → Bool) (one : List Seen → Way) (start t : List Seen)
    → Going goes one start t → goes t ≡ false → repeated goes one start start ≡ Some t
going_ends goes one start t h g = h.same ∙ ended_over goes one t h.fuel g

stops_over : (goes : List Seen → Bool) (one : List Seen → Way) (t : List Seen) (fuel : List Seen) (e : Stop)
    → goes t ≡ true → Ends (one t) e → Ends (repeated goes one fuel t) e
unfolding repeated where_seen
stops_over goes one t [] e g h = inr (rw (g) refl)
stops_over goes one t (f ∷ fs) e g h = ends_so _ _ e (rw (g) refl) (ends_at (one t) (λ u. repeated goes one fs u) e h)

pub going_stops : (goes : List Seen → Bool) (one : List Seen → Way) (start t : List Seen) (e : Stop)
    → Going goes one start t → goes t ≡ true → Ends (one t) e → Ends (repeated goes one start start) e
going_stops goes one start t e h g o = ends_so _ _ e h.same (stops_over goes one t h.fuel e g o)

-- ---- single tokens

abbrev this_kind : Kind → Token → Bool
this_kind kind t = nat_eq (kind_code kind) (kind_code t.kind)

abbrev this_token : Kind → List ℕ → Token → Bool
this_token kind text t = this_kind kind t && bytes_eq text t.text.now

abbrev cut : List Token → List Token
cut xs = take (length xs - 1) (drop 1 xs)

pub first_sees : (kind : Kind) (text : List ℕ) (n : ℕ) (xs : List Token) (t : Token) → 0 < length xs → t ≡ get_or xs 0 t
    → sees kind text (seen_from n xs) ≡ this_token kind text t
unfolding sees
first_sees kind text n [] t lt is = absurd (omega arith)
first_sees kind text n (x ∷ xs) t lt is = ap (λ u. this_token kind text u) (sym is)

pub first_sees_kind : (kind : Kind) (n : ℕ) (xs : List Token) (t : Token) → 0 < length xs → t ≡ get_or xs 0 t
    → sees_kind kind (seen_from n xs) ≡ this_kind kind t
unfolding sees_kind
first_sees_kind kind n [] t lt is = absurd (omega arith)
first_sees_kind kind n (x ∷ xs) t lt is = ap (λ u. this_kind kind u) (sym is)

pub none_sees : (kind : Kind) (text : List ℕ) (n : ℕ) (xs : List Token) → length xs ≤ 0
    → sees kind text (seen_from n xs) ≡ false
unfolding sees
none_sees kind text n [] h = refl
none_sees kind text n (x ∷ xs) h = absurd (omega arith)

pub none_sees_kind : (kind : Kind) (n : ℕ) (xs : List Token) → length xs ≤ 0 → sees_kind kind (seen_from n xs) ≡ false
unfolding sees_kind
none_sees_kind kind n [] h = refl
none_sees_kind kind n (x ∷ xs) h = absurd (omega arith)

pub third_sees : (n : ℕ) (xs : List Token) (t : Token) → 2 < length xs → t ≡ get_or xs 2 t
    → is_ahead (seen_from n xs) ≡ this_token Punct (codes ";") t
unfolding is_ahead sees
third_sees n [] t lt is = absurd (omega arith)
third_sees n (x ∷ []) t lt is = absurd (omega arith)
third_sees n (x ∷ y ∷ []) t lt is = absurd (omega arith)
third_sees n (x ∷ y ∷ z ∷ zs) t lt is = ap (λ u. this_token Punct (codes ";") u) (sym is)

pub no_third : (n : ℕ) (xs : List Token) → length xs ≤ 2 → is_ahead (seen_from n xs) ≡ false
unfolding is_ahead sees
no_third n [] h = refl
no_third n (x ∷ []) h = refl
no_third n (x ∷ y ∷ []) h = refl
no_third n (x ∷ y ∷ z ∷ zs) h = absurd (omega arith)

pub first_behind : (n : ℕ) (xs : List Token) → 0 < length xs
    → behind_next (seen_from n xs) ≡ Some (seen_from (n + 1) (cut xs))
unfolding behind_next
first_behind n [] lt = absurd (omega arith)
first_behind n (x ∷ ys) lt =
    let len : length (x ∷ ys) - 1 ≡ length ys = omega arith in
    ap (λ l. Some (seen_from (n + 1) l)) (sym (ap (λ k. take k ys) len ∙ take-length ys))

pub only_true : (b : Bool) (w o : Way) → b ≡ true → w ≡ o → only_if b w ≡ o
unfolding only_if
only_true b w o e h = ap (λ c. only_if c w) e ∙ h

pub only_false : (b : Bool) (w : Way) → b ≡ false → only_if b w ≡ None
unfolding only_if
only_false b w e = ap (λ c. only_if c w) e

-- what a token is that a test found
pub token_is : (kind : Kind) (text : List ℕ) (t : Token) → this_token kind text t ≡ true
    → (t.kind ≡ kind) × (t.text.now ≡ text)
token_is kind text t h =
    let both = and_parts (this_kind kind t) (bytes_eq text t.text.now) h in
    (sym (same_kind kind t.kind both.0), sym ((bytes_eq-Decides text t.text.now).0 both.1))

pub kind_is : (kind : Kind) (t : Token) → this_kind kind t ≡ true → t.kind ≡ kind
kind_is kind t h = sym (same_kind kind t.kind h)

-- ---- two tokens of which the first touches the second

and_then_true : (a b e : Bool) → (a && b) ≡ true → (a && b && e) ≡ e
and_then_true true true e h = refl
and_then_true true false e h = absurd cc
and_then_true false b e h = absurd cc

and_then_false : (a b e : Bool) → (a && b) ≡ false → (a && b && e) ≡ false
and_then_false true true e h = absurd cc
and_then_false true false e h = refl
and_then_false false b e h = refl

no_touch : (a b : Bool) → (a && b && false) ≡ false
no_touch true true = refl
no_touch true false = refl
no_touch false true = refl
no_touch false false = refl

touches_so : (text : List ℕ) (n : ℕ) (xs : List Token) (t u : Token) → t ≡ get_or xs 0 t → 1 < length xs
    → u ≡ get_or xs 1 u
    → sees_touching text (seen_from n xs) ≡ (this_kind Punct t && bytes_eq text t.text.now && nat_eq (end_of t) u.start)
unfolding sees_touching
touches_so text n [] t u is lt more = absurd (omega arith)
touches_so text n (x ∷ []) t u is lt more = absurd (omega arith)
touches_so text n (x ∷ y ∷ ys) t u is lt more = rw (is, more) refl

pub touches : (text : List ℕ) (n : ℕ) (xs : List Token) (t u : Token) → t ≡ get_or xs 0 t → 1 < length xs
    → u ≡ get_or xs 1 u
    → this_token Punct text t ≡ true → sees_touching text (seen_from n xs) ≡ nat_eq (end_of t) u.start
touches text n xs t u is lt more h =
    touches_so text n xs t u is lt more
    ∙ and_then_true (this_kind Punct t) (bytes_eq text t.text.now) (nat_eq (end_of t) u.start) h

pub touches_not : (text : List ℕ) (n : ℕ) (xs : List Token) (t u : Token) → t ≡ get_or xs 0 t → 1 < length xs
    → u ≡ get_or xs 1 u
    → this_token Punct text t ≡ false → sees_touching text (seen_from n xs) ≡ false
touches_not text n xs t u is lt more h =
    touches_so text n xs t u is lt more
    ∙ and_then_false (this_kind Punct t) (bytes_eq text t.text.now) (nat_eq (end_of t) u.start) h

pub one_touches_not : (text : List ℕ) (n : ℕ) (xs : List Token) → length xs ≤ 1
    → sees_touching text (seen_from n xs) ≡ false
unfolding sees_touching
one_touches_not text n [] h = refl
one_touches_not text n (x ∷ []) h = no_touch (this_kind Punct x) (bytes_eq text x.text.now)
one_touches_not text n (x ∷ y ∷ ys) h = absurd (omega arith)

pub some_touch : (text : List ℕ) (n : ℕ) (xs : List Token) → sees_touching text (seen_from n xs) ≡ true → 1 < length xs
some_touch text n [] h = absurd (cc (one_touches_not text n [] (omega arith)))
some_touch text n (x ∷ []) h = absurd (cc (one_touches_not text n (x ∷ []) (omega arith)))
some_touch text n (x ∷ y ∷ ys) h = omega arith

all_three : (a b e : Bool) → (a && b && e) ≡ true → (a ≡ true) × (b ≡ true) × (e ≡ true)
all_three true true true h = (refl, refl, refl)
all_three true true false h = absurd cc
all_three true false e h = absurd cc
all_three false b e h = absurd cc

pub touching_taken : (text : List ℕ) (n : ℕ) (xs : List Token) → sees_touching text (seen_from n xs) ≡ true
    → Parsed (seen_from n xs) (touching text) (seen_from (n + 1) (cut xs))
unfolding sees_touching
touching_taken text n [] h = absurd (cc (one_touches_not text n [] (omega arith)))
touching_taken text n (x ∷ []) h = absurd (cc (one_touches_not text n (x ∷ []) (omega arith)))
touching_taken text n (x ∷ y ∷ ys) h =
    let all = all_three (this_kind Punct x) (bytes_eq text x.text.now) (nat_eq (end_of x) y.start) h in
    touching_read n (x ∷ y ∷ ys) x y text refl (omega arith) refl (sym (same_kind Punct x.kind all.0))
    (sym ((bytes_eq-Decides text x.text.now).0 all.1)) ((Decides-eqb (end_of x) y.start).0 all.2)

pub shift_seen : (n : ℕ) (xs : List Token) (u : Token) → sees_touching (codes ">") (seen_from n xs) ≡ true
    → 1 < length xs → u ≡ get_or xs 1 u
    → sees_shift (seen_from n xs) ≡ this_token Punct (codes ">") u
unfolding sees
shift_seen n [] u h lt is = absurd (omega arith)
shift_seen n (x ∷ []) u h lt is = absurd (omega arith)
shift_seen n (x ∷ y ∷ ys) u h lt is =
    ap (λ b. b && this_token Punct (codes ">") y) h ∙ ap (λ v. this_token Punct (codes ">") v) (sym is)

pub shift_unseen : (t : List Seen) → sees_touching (codes ">") t ≡ false → sees_shift t ≡ false
shift_unseen [] h = refl
shift_unseen (t ∷ ts) h = ap (λ b. b && sees Punct (codes ">") ts) h

-- ---- a level

pub closed : (room : ℕ) (inside : ℕ → Way) → room ≡ 0 → opened room inside ≡ None
unfolding opened
closed room inside e = ap (λ n. opened n inside) e

pub open_at : (left room : ℕ) (inside : ℕ → Way) → suc left ≡ room → opened room inside ≡ inside left
unfolding opened
open_at left room inside e = ap (λ n. opened n inside) (sym e)

pub ends_inside : (room : ℕ) (inside : ℕ → Way) (e : Stop) → ((left : ℕ) → suc left ≡ room → Ends (inside left) e)
    → Ends (opened room inside) e
unfolding opened
ends_inside zero inside e h = inr refl
ends_inside (suc left) inside e h = h left refl

-- ---- a reader that ends with another

pub tail_way : {T : Type 0} (o : Way) (more : List Seen → Way) (t u : List Seen) (r : Result T Stop)
    → o ≡ Some t → IfOk r (λ x. more t ≡ Some u) → IfOk r (λ x. and_then o more ≡ Some u)
tail_way o more t u (Ok x) e h = goes_past o more t e ∙ h
tail_way o more t u (Err s) e h = tt

pub tail_stops : {T : Type 0} (o : Way) (more : List Seen → Way) (t : List Seen) (r : Result T Stop)
    → o ≡ Some t → IfErr r (Ends (more t)) → IfErr r (Ends (and_then o more))
tail_stops o more t (Ok x) e h = tt
tail_stops o more t (Err s) e h = ends_past o more t s e h

pub stops_closed : {T : Type 0} (room : ℕ) (inside : ℕ → Way) (r : Result T Stop)
    → IfErr r (λ s. room ≡ 0) → IfErr r (Ends (opened room inside))
stops_closed room inside (Ok x) h = tt
stops_closed room inside (Err s) h = inr (closed room inside h)

-- ---- a token that may be there

pub maybe_taken : {L : Type 0} (b : Bool) (taken : Way) (old new : List Seen) (r : Option L)
    → IfNone r (b ≡ false) → IfNone r (new ≡ old) → IfSome r (λ l. b ≡ true) → IfSome r (λ l. taken ≡ Some new)
    → where_seen b taken (Some old) ≡ Some new
maybe_taken b taken old new None f same t way = unseen taken f (ap Some (sym same))
maybe_taken b taken old new (Some l) f same t way = seen (Some old) t way

-- ---- levels

pub open_on : {left room : ℕ} {v : Way} (inside : ℕ → Way) → suc left ≡ room → inside left ≡ v → opened room inside ≡ v
open_on {left = left} {room = room} inside e h = open_at left room inside e ∙ h

pub ends_open : {left room : ℕ} {e : Stop} (inside : ℕ → Way) → suc left ≡ room → Ends (inside left) e
    → Ends (opened room inside) e
ends_open {left = left} {room = room} {e = e} inside same h =
    ends_so (inside left) (opened room inside) e (open_at left room inside same) h

-- a step inside a level that wasn't taken
pub open_halts : {e : Stop} (room : ℕ) (o : Way) (more : ℕ → List Seen → Way) → Ends (opened room (λ left. o)) e
    → Ends (opened room (λ left. and_then o (more left))) e
unfolding opened
open_halts {e = e} zero o more h = inr refl
open_halts {e = e} (suc left) o more h = ends_at o (more left) e h

-- a step that was taken before a level that isn't there
pub open_past : {t : List Seen} {e : Stop} (room : ℕ) (o : Way) (more : ℕ → List Seen → Way) → o ≡ Some t
    → Ends (opened room (λ left. more left t)) e → Ends (opened room (λ left. and_then o (more left))) e
unfolding opened
open_past {t = t} {e = e} zero o more same h = inr refl
open_past {t = t} {e = e} (suc left) o more same h = ends_past o (more left) t e same h

pub tail_open_past : {T : Type 0} (room : ℕ) (o : Way) (more : ℕ → List Seen → Way) (t : List Seen) (r : Result T Stop)
    → o ≡ Some t
    → IfErr r (Ends (opened room (λ left. more left t))) → IfErr r (Ends (opened room (λ left. and_then o (more left))))
tail_open_past room o more t (Ok x) same h = tt
tail_open_past room o more t (Err s) same h = open_past room o more same h

-- a level that was opened by a step behind another
pub opened_on : {v : Way} (o : Way) (step : List Seen → Way) (left room : ℕ) → suc left ≡ room → and_then o step ≡ v
    → and_then o (λ u. opened room (λ l. step u)) ≡ v
unfolding opened
opened_on {v = v} o step left room e h = subst (λ n. and_then o (λ u. opened n (λ l. step u)) ≡ v) e h

-- ---- what a reader makes of parts

pub okay : {T P : Type 0} (r : Result T Stop) → P → IfOk r (λ x. P)
okay (Ok x) p = p
okay (Err s) p = tt

pub full_stops : {T : Type 0} (way : Way) (r : Result T Stop) → IfErr r (λ s. s ≡ NoMemory) → IfErr r (Ends way)
full_stops way (Ok x) h = tt
full_stops way (Err s) h = inl h

pub ok_so : {T : Type 0} {o : Way} (p : Way) (u : List Seen) (r : Result T Stop) → p ≡ o → IfOk r (λ x. o ≡ Some u)
    → IfOk r (λ x. p ≡ Some u)
ok_so p u (Ok x) e h = e ∙ h
ok_so p u (Err s) e h = tt

pub err_so : {T : Type 0} {o : Way} (p : Way) (r : Result T Stop) → p ≡ o → IfErr r (Ends o) → IfErr r (Ends p)
err_so p (Ok x) e h = tt
err_so {o = o} p (Err s) e h = ends_so o p s e h

-- ---- choices whose reader is the last

pub tail_seen : {T : Type 0} {b : Bool} (here other : Way) (u : List Seen) (r : Result T Stop) → b ≡ true
    → IfOk r (λ x. here ≡ Some u) → IfOk r (λ x. where_seen b here other ≡ Some u)
tail_seen {b = b} here other u r e h = ok_so (where_seen b here other) u r (where_is b here other e) h

pub tail_unseen : {T : Type 0} {b : Bool} (here other : Way) (u : List Seen) (r : Result T Stop) → b ≡ false
    → IfOk r (λ x. other ≡ Some u) → IfOk r (λ x. where_seen b here other ≡ Some u)
tail_unseen {b = b} here other u r e h = ok_so (where_seen b here other) u r (where_is_not b here other e) h

pub tail_halts_seen : {T : Type 0} {b : Bool} (here other : Way) (r : Result T Stop) → b ≡ true
    → IfErr r (Ends here) → IfErr r (Ends (where_seen b here other))
tail_halts_seen {b = b} here other r e h = err_so (where_seen b here other) r (where_is b here other e) h

pub tail_halts_unseen : {T : Type 0} {b : Bool} (here other : Way) (r : Result T Stop) → b ≡ false
    → IfErr r (Ends other) → IfErr r (Ends (where_seen b here other))
tail_halts_unseen {b = b} here other r e h = err_so (where_seen b here other) r (where_is_not b here other e) h

-- ---- signs and operators

pub took : (b : Bool) (w : Way) (u : List Seen) → b ≡ true → only_if b w ≡ Some u → w ≡ Some u
unfolding only_if
took b w u e h = sym (ap (λ c. only_if c w) e) ∙ h

pub first_case : (b : Bool) (o : Operator) (other : Option Operator) → b ≡ true → Some o ≡ if_seen b o other
first_case b o other e = sym (ap (λ c. if_seen c o other) e)

pub other_case : (b : Bool) (o : Operator) (other found : Option Operator) → b ≡ false → found ≡ other
    → found ≡ if_seen b o other
other_case b o other found e h = h ∙ sym (ap (λ c. if_seen c o other) e)

pub or_at : (shifts : Bool) (t : List Seen) → operator_at shifts 0 t ≡ if_seen (operator_seen Or t) Or None
unfolding operator_at
or_at true t = refl
or_at false t = refl

pub xor_at : (shifts : Bool) (t : List Seen) → operator_at shifts 1 t ≡ if_seen (operator_seen Xor t) Xor None
unfolding operator_at
xor_at true t = refl
xor_at false t = refl

pub and_at : (shifts : Bool) (t : List Seen) → operator_at shifts 2 t ≡ if_seen (operator_seen And t) And None
unfolding operator_at
and_at true t = refl
and_at false t = refl

pub shift_at : (shifts : Bool) (t : List Seen) → operator_at shifts 3 t
    ≡ if_seen (operator_seen ShiftLeft t) ShiftLeft (if_seen (shifts && operator_seen ShiftRight t) ShiftRight None)
unfolding operator_at
shift_at true t = refl
shift_at false t = refl

pub sum_at : (shifts : Bool) (t : List Seen) → operator_at shifts 4 t
    ≡ if_seen (operator_seen Add t) Add (if_seen (operator_seen Subtract t) Subtract None)
unfolding operator_at
sum_at true t = refl
sum_at false t = refl

pub product_at : (shifts : Bool) (t : List Seen) → operator_at shifts 5 t
    ≡ if_seen (operator_seen Multiply t) Multiply
    (if_seen (operator_seen Divide t) Divide (if_seen (operator_seen Remainder t) Remainder None))
unfolding operator_at
product_at true t = refl
product_at false t = refl

pub and_on : (a b : Bool) → a ≡ true → (a && b) ≡ b
and_on true b e = refl
and_on false b e = absurd cc

pub and_off : (a b : Bool) → a ≡ false → (a && b) ≡ false
and_off true b e = absurd cc
and_off false b e = refl

-- ---- the operator that is found is one of its level

of_test : (b : Bool) (p o : Operator) (other : Option Operator) (P : Operator → Type 0) → (b ≡ true → P p)
    → (other ≡ Some o → P o)
    → if_seen b p other ≡ Some o → P o
of_test true p o other P f g h = let same : p ≡ o = cc in subst P same (f refl)
of_test false p o other P f g h = g h

found_among : (shifts : Bool) (level : ℕ) (os : List Operator) (t : List Seen) (o : Operator)
    → first_seen shifts level os t ≡ Some o
    → is_operator_of shifts level o ≡ true
found_among shifts level [] t o h = absurd cc
found_among shifts level (p ∷ os) t o h =
    of_test _ p o _ (λ x. is_operator_of shifts level x ≡ true)
    (λ e. (and_parts (is_operator_of shifts level p) (operator_seen p t) e).0)
    (λ e. found_among shifts level os t o e) h

pub operator_found : (shifts : Bool) (level : ℕ) (t : List Seen) (o : Operator) → Some o ≡ operator_at shifts level t
    → is_operator_of shifts level o ≡ true
unfolding operator_at
operator_found shifts level t o h =
    found_among shifts level (Or ∷ Xor ∷ And ∷ ShiftLeft ∷ ShiftRight ∷ Add ∷ Subtract ∷ Multiply ∷ Divide ∷ Remainder
    ∷ []) t o (sym h)

pub operand_is : (tighter : List Seen → Way) (found : Option Operator) (o : Operator) (t : List Seen) → Some o ≡ found
    → operand_way tighter found t ≡ and_then (operator_way o t) (λ u. tighter u)
operand_is tighter found o t e = sym (ap (λ x. operand_way tighter x t) e)

-- ---- expressions by their levels

pub unary_level : (inner : List Seen → Way) (shifts : Bool) (level : ℕ) (t : List Seen) → 6 ≤ level
    → level_way inner shifts (6 - level) t ≡ unary_way inner t
unfolding level_way
unary_level inner shifts level t h = let none : 6 - level ≡ 0 = omega arith in ap (λ n. level_way inner shifts n t) none

level_suc : (inner : List Seen → Way) (shifts : Bool) (n : ℕ) (t : List Seen) → level_way inner shifts (suc n) t
    ≡ and_then (level_way inner shifts n t) (λ u. operands_way (λ v. level_way inner shifts n v) shifts (5 - n) u)
unfolding level_way
level_suc inner shifts n t = refl

pub level_is : (inner : List Seen → Way) (shifts : Bool) (level : ℕ) (t : List Seen) → level < 6
    → level_way inner shifts (6 - level) t
    ≡ and_then (level_way inner shifts (5 - level) t)
    (λ u. operands_way (λ v. level_way inner shifts (5 - level) v) shifts level u)
level_is inner shifts level t h =
    let more : 6 - level ≡ suc (5 - level) = omega arith in
    let back : 5 - (5 - level) ≡ level = omega arith in
    ap (λ n. level_way inner shifts n t) more ∙ level_suc inner shifts (5 - level) t
    ∙ ap (λ n. and_then (level_way inner shifts (5 - level) t)
    (λ u. operands_way (λ v. level_way inner shifts (5 - level) v) shifts n u)) back

pub inside_none : (room : ℕ) (t : List Seen) → room ≡ 0 → inside_way room t ≡ None
unfolding inside_way
inside_none room t e = ap (λ n. inside_way n t) e

pub inside_at : (left room : ℕ) (t : List Seen) → suc left ≡ room
    → inside_way room t ≡ level_way (λ u. inside_way left u) true 6 t
unfolding inside_way
inside_at left room t e = ap (λ n. inside_way n t) (sym e)

-- ---- types by their levels

pub simple_is : (room : ℕ) (t : List Seen) → simple_type_way room t
    ≡ where_seen (sees_word (codes "sequence") t) (sequence_way room t) (param_type_way room t)
unfolding simple_type_way opened
simple_is zero t = refl
simple_is (suc left) t = refl

-- ---- a level that begins behind a word and a name

pub two_on : {v : Way} (o : Way) (step more : List Seen → Way) (t : List Seen) → and_then o step ≡ Some t → more t ≡ v
    → and_then o (λ u. and_then (step u) more) ≡ v
unfolding and_then
two_on None step more t e h = absurd cc
two_on (Some u) step more t e h = goes_past (step u) more t e ∙ h

pub two_past : {e : Stop} (o : Way) (step more : List Seen → Way) (t : List Seen) → and_then o step ≡ Some t
    → Ends (more t) e
    → Ends (and_then o (λ u. and_then (step u) more)) e
unfolding and_then
two_past None step more t same h = absurd cc
two_past {e = e} (Some u) step more t same h = ends_past (step u) more t e same h

pub two_halts : (e : Stop) (o : Way) (step more : List Seen → Way) → Ends (and_then o step) e
    → Ends (and_then o (λ u. and_then (step u) more)) e
unfolding and_then
two_halts e None step more h = inr refl
two_halts e (Some u) step more h = ends_at (step u) more e h

-- a level whose beginning isn't there, or that is one too many
pub level_halts : {e : Stop} (room : ℕ) (o : Way) (step : List Seen → Way) (more : ℕ → List Seen → Way)
    → Ends (and_then o (λ u. opened room (λ l. step u))) e
    → Ends (opened room (λ left. and_then o (λ u. and_then (step u) (more left)))) e
unfolding opened
level_halts {e = e} zero o step more h = inr refl
level_halts {e = e} (suc left) o step more h = two_halts e o step (more left) h

pub inside_stops : {e : Stop} (left room : ℕ) (inside : ℕ → Way) → suc left ≡ room → Ends (opened room inside) e
    → Ends (inside left) e
inside_stops {e = e} left room inside same h =
    ends_so (opened room inside) (inside left) e (sym (open_at left room inside same)) h

pub open_all : {v : List Seen} (room : ℕ) (other inside : ℕ → Way) → opened room other ≡ Some v
    → ((left : ℕ) → suc left ≡ room → other left ≡ Some v → inside left ≡ Some v) → opened room inside ≡ Some v
unfolding opened
open_all zero other inside h f = absurd cc
open_all (suc left) other inside h f = f left refl h

-- ---- parts between braces

pub part_braced : (part : List Seen → Way) (start now next : List Seen) → Bracing part start now → part now ≡ Some next
    → length next < length now → Began part start next
part_braced part start now next (inl same) is less =
    record { first = next; is = ap part (sym same) ∙ is; going = going_begins no_brace part next }
part_braced part start now next (inr began) is less =
    record {
      first = began.0.first;
      is = began.0.is;
      going =
          going_on no_brace part began.0.first now next began.0.going began.1 is less;
    }

not_brace : (b : Bool) → b ≡ false → not b ≡ true
not_brace b e = ap not e

is_brace : (b : Bool) → b ≡ true → not b ≡ false
is_brace b e = ap not e

pub brace_off : (t : List Seen) → sees_mark (codes "}") t ≡ false → no_brace t ≡ true
brace_off t e = not_brace (sees_mark (codes "}") t) e

pub brace_on : (t : List Seen) → sees_mark (codes "}") t ≡ true → no_brace t ≡ false
brace_on t e = is_brace (sees_mark (codes "}") t) e

pub stays_braced : (part : List Seen → Way) (start now : List Seen) → Began part start now
    → sees_mark (codes "}") now ≡ false → Bracing part start now
stays_braced part start now began e = inr (began, brace_off now e)

pub closes_braced : (part : List Seen → Way) (start now next : List Seen) → Began part start now
    → sees_mark (codes "}") now ≡ true
    → mark_taken (codes "}") now ≡ Some next → braced_way part start ≡ Some next
closes_braced part start now next began e is =
    on _ began.is (on _ (going_ends no_brace part began.first now began.going (brace_on now e)) is)

pub stops_braced : (part : List Seen → Way) (start now : List Seen) (e : Stop) → Bracing part start now
    → Ends (part now) e → Ends (braced_way part start) e
stops_braced part start now e (inl same) h = halts _ (ends_so (part now) (part start) e (ap part (sym same)) h)
stops_braced part start now e (inr began) h =
    past _ began.0.is (halts _ (going_stops no_brace part began.0.first now e began.0.going began.1 h))

-- ---- types, attributes and definitions by what they begin with

and_none : (o : Way) → and_then o (λ u. None) ≡ None
unfolding and_then
and_none None = refl
and_none (Some u) = refl

no_enum : (t : List Seen) → enum_way 0 t ≡ None
unfolding opened and_then
no_enum t = ap (λ w. and_then w (λ u. and_then (listed_way (λ v. identifier_way v) u) (λ v. mark_taken (codes "}") v)))
    (and_none (named_way (codes "enum") t))

pub type_is : (room : ℕ) (t : List Seen) → type_way room t
    ≡ where_seen (sees_word (codes "struct") t) (opened room (λ left. struct_way (λ u. type_way left u) left t))
    (where_seen (sees_word (codes "union") t) (opened room (λ left. union_way (λ u. type_way left u) left t))
    (where_seen (sees_word (codes "enum") t) (enum_way room t) (simple_type_way room t)))
unfolding type_way opened
type_is zero t =
    ap (λ w. where_seen (sees_word (codes "struct") t) None (where_seen (sees_word (codes "union") t) None
    (where_seen (sees_word (codes "enum") t) w (simple_type_way 0 t)))) (sym (no_enum t))
type_is (suc left) t = refl

pub attributes_are : (b : Bool) (t : List Seen) → attributes_way b t
    ≡ and_then (identifier_way t)
    (λ u. where_seen (sees_mark (codes ",") u) (rest_way (λ v. identifier_way v) u) (raising_way b u))
unfolding attributes_way
attributes_are true t = refl
attributes_are false t = refl

pub definition_is : (room : ℕ) (t : List Seen) → definition_way room t
    ≡ where_seen (sees_word (codes "module") t) (opened room (λ left. module_way left t)) (single_way room t)
unfolding definition_way opened
definition_is zero t = refl
definition_is (suc left) t = refl

-- ---- a word that may be there

pub maybe_word : (b : Bool) (taken : Way) (old new : List Seen) (r : Bool)
    → OnFalse r (b ≡ false) → OnFalse r (new ≡ old) → OnTrue r (b ≡ true) → OnTrue r (taken ≡ Some new)
    → where_seen b taken (Some old) ≡ Some new
maybe_word b taken old new false f same t way = unseen taken f (ap Some (sym same))
maybe_word b taken old new true f same t way = seen (Some old) t way

pub word_is : (b r : Bool) → OnFalse r (b ≡ false) → OnTrue r (b ≡ true) → r ≡ b
word_is b false f t = sym f
word_is b true f t = sym t

-- ---- the end

pub no_spec : (room : ℕ) (t u : List Seen) → definitions_way room t ≡ Some u → is_over u ≡ false → IsNoSpec room t
no_spec room t [] e h whole = absurd cc
no_spec room t (u ∷ us) e h whole = absurd cc

pub no_spec_so : (room : ℕ) (t : List Seen) → definitions_way room t ≡ None → IsNoSpec room t
no_spec_so room t e whole = absurd cc

none_of : (b : Bool) → (b ≡ true → ⊥) → false ≡ b
none_of true h = absurd (h refl)
none_of false h = refl

pub over_is : (n : ℕ) (xs : List Token) → is_over (seen_from n xs) ≡ (length xs == 0)
over_is n [] = refl
over_is n (x ∷ xs) =
    none_of (length (x ∷ xs) == 0) (λ h. let none : length (x ∷ xs) ≡ 0 = (Decides-eqb (length (x ∷ xs)) 0).0 h in
    absurd (omega (arith, none)))

-- ---- what an attribute raises behind its identifier

tail_raises : (b value : Bool) (t mid : List Seen) → b ≡ value → identifier_way t ≡ Some mid
    → sees_mark (codes ",") mid ≡ false
    → attributes_way b t ≡ raising_way value mid
tail_raises b value t mid e way other =
    attributes_are b t
    ∙ goes_past (identifier_way t)
    (λ u. where_seen (sees_mark (codes ",") u) (rest_way (λ v. identifier_way v) u) (raising_way b u)) mid way
    ∙ where_is_not (sees_mark (codes ",") mid) (rest_way (λ v. identifier_way v) mid) (raising_way b mid) other
    ∙ ap (λ x. raising_way x mid) e

pub tail_raising : {T : Type 0} (b value : Bool) (t mid u : List Seen) (r : Result T Stop) → b ≡ value
    → identifier_way t ≡ Some mid
    → sees_mark (codes ",") mid ≡ false → IfOk r (λ x. raising_way value mid ≡ Some u)
    → IfOk r (λ x. attributes_way b t ≡ Some u)
tail_raising b value t mid u r e way other h = ok_so (attributes_way b t) u r (tail_raises b value t mid e way other) h

pub tail_raising_stops : {T : Type 0} (b value : Bool) (t mid : List Seen) (r : Result T Stop) → b ≡ value
    → identifier_way t ≡ Some mid
    → sees_mark (codes ",") mid ≡ false → IfErr r (Ends (raising_way value mid)) → IfErr r (Ends (attributes_way b t))
tail_raising_stops b value t mid r e way other h =
    err_so (attributes_way b t) r (tail_raises b value t mid e way other) h
