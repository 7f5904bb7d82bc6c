-- How the pieces of tokens are read one after another.
use Rattle.std.proofs.Common.{◌≡◌, ℕ, ◌+◌, ◌-◌, ◌<◌, ◌≤◌, max, Bool, true, false, ◌&&◌, arith, List, [], ◌∷◌, ◌++◌, Option, Some, None, length, take, drop, get_or, refl, sym, ap, subst, ◌∙◌}
use Rattle.std.specs.Prelude.{nat_eq, is_some, codes}
use Rattle.idl_tree.specs.Yields.{identifier, optional, root_yield}
use Rattle.std.proofs.Math.Seq.{take-length}
use Rattle.std.specs.Str.{bytes_eq}
use Rattle.std.specs.List.{flat_map}
use Rattle.std.proofs.lemmas.List.{append_assoc, append-nil}
use Rattle.std.proofs.lemmas.Slice.Eq.{bytes_eq-Decides}
use Rattle.std.proofs.lemmas.Bool.Decides.{Decides-eqb}
use Rattle.idl_lexer.specs.declared.token.Kind.{Kind}
use Rattle.idl_lexer.specs.declared.token.Kind.TheVariants.{Punct}
use Rattle.idl_lexer.specs.declared.token.Token.{Token}
use Rattle.idl_lexer.specs.Tokens.{TokenParts, end_of, parts_of}
use Rattle.idl_tree.specs.declared.names.Leaf.{Leaf}
use Rattle.idl_tree.specs.Levels.{highest}
use Rattle.idl_tree.specs.Pieces.{Seen, Piece, are_same, past, behind, is_piece, kind_code, seen_from, touches_next, piece, kept, touching, mark}
use Rattle.definition_reader.specs.inner.Reading.{Parsed, Continued}

both : {a b : Bool} → a ≡ true → b ≡ true → (a && b) ≡ true
both {a = true} e f = f
both {a = false} e f = absurd cc

-- what stands behind pieces that are read one after another
pub past_append : (xs ys : List Piece) (tokens : Option (List Seen)) → past (xs ++ ys) tokens ≡ past ys (past xs tokens)
unfolding past
past_append [] ys tokens = refl
past_append (x ∷ xs) ys tokens = past_append xs ys (behind x tokens)

pub past_none : (tokens : Option (List Seen)) → past [] tokens ≡ tokens
unfolding past
past_none tokens = refl

pub highest_more : {T : Type 0} (levels : T → ℕ) (xs : List T) (x : T)
    → highest levels (xs ++ x ∷ []) ≡ max (highest levels xs) (levels x)
highest_more levels [] x = omega arith
highest_more levels (y ∷ ys) x = omega (arith, highest_more levels ys x)

-- ---- single tokens

behind_this : (p : Piece) (t : Seen) (ts : List Seen) → is_piece p t ≡ true → behind p (Some (t ∷ ts)) ≡ Some ts
behind_this p t ts e = ap (λ b. elim b as (λ _. Option (List Seen)) [ true ↦ Some ts | false ↦ None ]) e

abbrev plain_piece : Kind → List ℕ → Bool → Piece
plain_piece kind text touches = record { kind = kind; text = text; token = None; touches = touches }

abbrev kept_piece : Kind → List ℕ → Leaf → Piece
kept_piece kind text l =
    record { kind = kind; text = text; token = Some (l.number, parts_of l.token); touches = false }

abbrev see : ℕ → Token → List Token → Seen
see n t ts = record { kind = t.kind; text = t.text.now; token = (n, parts_of t); touches = touches_next t ts }

this_kind : (t : Token) (kind : Kind) → t.kind ≡ kind → nat_eq (kind_code kind) (kind_code t.kind) ≡ true
this_kind t kind k = (Decides-eqb (kind_code kind) (kind_code t.kind)).1 (ap kind_code (sym k))

this_text : (t : Token) (text : List ℕ) → t.text.now ≡ text → bytes_eq text t.text.now ≡ true
this_text t text e = (bytes_eq-Decides text t.text.now).1 (sym e)

-- a token that isn't kept
first_plain : (n : ℕ) (t : Token) (ts : List Token) (kind : Kind) (text : List ℕ) → t.kind ≡ kind → t.text.now ≡ text
    → Parsed (seen_from n (t ∷ ts)) (piece kind text) (seen_from (n + 1) ts)
unfolding piece past
first_plain n t ts kind text k e = record {
  spells = behind_this (plain_piece kind text false) (see n t ts) (seen_from (n + 1) ts)
      (both (both (both (this_kind t kind k) (this_text t text e)) refl) refl);
  on = omega arith;
}

-- what a slice from 1 on has
abbrev cut : List Token → List Token
cut xs = take (length xs - 1) (drop 1 xs)

cut_first : (x : Token) (ys : List Token) → cut (x ∷ ys) ≡ ys
cut_first x ys =
    let len : length (x ∷ ys) - 1 ≡ length ys = omega arith in
    ap (λ n. take n ys) len ∙ take-length ys

pub plain_read : (n : ℕ) (xs : List Token) (t : Token) (kind : Kind) (text : List ℕ)
    → 0 < length xs → t ≡ get_or xs 0 t → t.kind ≡ kind → t.text.now ≡ text
    → Parsed (seen_from n xs) (piece kind text) (seen_from (n + 1) (take (length xs - 1) (drop 1 xs)))
plain_read n [] t kind text lt is k e = absurd (omega arith)
plain_read n (x ∷ ys) t kind text lt is k e =
    subst (λ l. Parsed (seen_from n (x ∷ ys)) (piece kind text) (seen_from (n + 1) l)) (sym (cut_first x ys))
    (first_plain n x ys kind text (sym (ap (λ u. u.kind) is) ∙ k) (sym (ap (λ u. u.text.now) is) ∙ e))

-- a token is the same as itself
same_itself : (t : TokenParts) → are_same t t ≡ true
same_itself t =
    both (both (both (both ((Decides-eqb (kind_code t.kind) (kind_code t.kind)).1 refl)
    ((bytes_eq-Decides t.text t.text).1 refl))
    ((Decides-eqb t.start t.start).1 refl)) ((Decides-eqb t.«end» t.«end»).1 refl)) ((Decides-eqb t.line t.line).1 refl)

-- a token that is kept
first_kept : (n : ℕ) (t : Token) (ts : List Token) (kind : Kind) (text : List ℕ) (l : Leaf)
    → t.kind ≡ kind → t.text.now ≡ text → l.number ≡ n → l.token ≡ t
    → Parsed (seen_from n (t ∷ ts)) (kept kind text l) (seen_from (n + 1) ts)
unfolding kept past
first_kept n t ts kind text l k e num tok = record {
  spells = behind_this (kept_piece kind text l) (see n t ts) (seen_from (n + 1) ts)
      (both (both (both (this_kind t kind k) (this_text t text e))
      (both ((Decides-eqb l.number n).1 num)
      (subst (λ u. are_same (parts_of u) (parts_of t) ≡ true) (sym tok) (same_itself (parts_of t))))) refl);
  on = omega arith;
}

pub kept_read : (n : ℕ) (xs : List Token) (kind : Kind) (text : List ℕ) (l : Leaf)
    → 0 < length xs → l.token ≡ get_or xs 0 l.token → l.token.kind ≡ kind → l.token.text.now ≡ text → l.number ≡ n
    → Parsed (seen_from n xs) (kept kind text l) (seen_from (n + 1) (take (length xs - 1) (drop 1 xs)))
kept_read n [] kind text l lt is k e num = absurd (omega arith)
kept_read n (x ∷ ys) kind text l lt is k e num =
    subst (λ r. Parsed (seen_from n (x ∷ ys)) (kept kind text l) (seen_from (n + 1) r)) (sym (cut_first x ys))
    (first_kept n x ys kind text l (sym (ap (λ u. u.kind) is) ∙ k) (sym (ap (λ u. u.text.now) is) ∙ e) num is)

-- a mark that the next token touches
first_touching : (n : ℕ) (t u : Token) (us : List Token) (text : List ℕ) → t.kind ≡ Punct → t.text.now ≡ text
    → end_of t ≡ u.start
    → Parsed (seen_from n (t ∷ u ∷ us)) (touching text) (seen_from (n + 1) (u ∷ us))
unfolding touching past
first_touching n t u us text k e touch = record {
  spells = behind_this (plain_piece Punct text true) (see n t (u ∷ us)) (seen_from (n + 1) (u ∷ us))
      (both (both (both (this_kind t Punct k) (this_text t text e)) refl) ((Decides-eqb (end_of t) u.start).1 touch));
  on = omega arith;
}

pub touching_read : (n : ℕ) (xs : List Token) (t u : Token) (text : List ℕ)
    → t ≡ get_or xs 0 t → 1 < length xs → u ≡ get_or xs 1 u → t.kind ≡ Punct → t.text.now ≡ text → end_of t ≡ u.start
    → Parsed (seen_from n xs) (touching text) (seen_from (n + 1) (take (length xs - 1) (drop 1 xs)))
touching_read n [] t u text is lt more k e touch = absurd (omega arith)
touching_read n (x ∷ []) t u text is lt more k e touch = absurd (omega arith)
touching_read n (x ∷ y ∷ ys) t u text is lt more k e touch =
    subst (λ r. Parsed (seen_from n (x ∷ y ∷ ys)) (touching text) (seen_from (n + 1) r)) (sym (cut_first x (y ∷ ys)))
    (first_touching n x y ys text (sym (ap (λ v. v.kind) is) ∙ k) (sym (ap (λ v. v.text.now) is) ∙ e)
    (sym (ap (λ v. end_of v) is) ∙ touch ∙ ap (λ v. v.start) more))

-- ---- lists

yields_more : {T : Type 0} (yield : T → List Piece) (xs : List T) (x : T)
    → flat_map yield (xs ++ x ∷ []) ≡ flat_map yield xs ++ yield x
yields_more yield [] x = append-nil (yield x)
yields_more yield (y ∷ ys) x = ap (λ l. yield y ++ l) (yields_more yield ys x)
    ∙ sym (append_assoc (yield y) (flat_map yield ys) (yield x))

pub then_read : (a b c : List Seen) (xs ys : List Piece) → Parsed a xs b → Parsed b ys c → Parsed a (xs ++ ys) c
then_read a b c xs ys front back = record {
  spells = past_append xs ys (Some a) ∙ ap (past ys) front.spells ∙ back.spells;
  on = omega (arith, front.on, back.on);
}

-- one more part is read behind others
pub one_more : {T : Type 0} (yield : T → List Piece) (a b c : List Seen) (xs ys : List T) (x : T)
    → Continued a (flat_map yield xs) b → Parsed b (yield x) c → ys ≡ xs ++ x ∷ [] → Continued a (flat_map yield ys) c
one_more yield a b c xs ys x front part e = record {
  spells = ap (λ l. past (flat_map yield l) (Some a)) e ∙ ap (λ l. past l (Some a)) (yields_more yield xs x)
      ∙ past_append (flat_map yield xs) (yield x) (Some a) ∙ ap (past (yield x)) front.spells ∙ part.spells;
  on = omega (arith, front.on, part.on);
}

pub one_more_level : {T : Type 0} (levels : T → ℕ) (room : ℕ) (xs ys : List T) (x : T)
    → highest levels xs ≤ room → levels x ≤ room → ys ≡ xs ++ x ∷ [] → highest levels ys ≤ room
one_more_level levels room xs ys x most one e = rw (e, highest_more) (omega (arith, most, one))

-- a name of one identifier
pub alone_read : (root : Option Leaf) (first : Leaf) (more : List Leaf) (a b c d : List Seen)
    → is_some root ≡ false → length more ≡ 0
    → Continued a (optional root_yield root) b → Parsed b (identifier first) c
    → Continued c (flat_map (λ x. mark (codes "::") ++ identifier x) more) d → Parsed a (identifier first) d
alone_read (Some r) first more a b c d none empty p q r' = absurd cc
alone_read None first (x ∷ xs) a b c d none empty p q r = absurd (omega arith)
alone_read None first [] a b c d none empty p q r = record {
  spells = ap (past (identifier first)) (sym (past_none (Some a)) ∙ p.spells) ∙ q.spells ∙ sym (past_none (Some c))
      ∙ r.spells;
  on = omega (arith, p.on, q.on, r.on);
}

-- ---- an empty list

pub none_read : {T : Type 0} (yield : T → List Piece) (xs : List T) (tokens : List Seen) → xs ≡ []
    → Continued tokens (flat_map yield xs) tokens
none_read yield [] tokens e = record { spells = past_none (Some tokens); on = omega arith }
none_read yield (x ∷ xs) tokens e = absurd cc

pub none_high : {T : Type 0} (levels : T → ℕ) (room : ℕ) (xs : List T) → xs ≡ [] → highest levels xs ≤ room
none_high levels room [] e = omega arith
none_high levels room (x ∷ xs) e = absurd cc
