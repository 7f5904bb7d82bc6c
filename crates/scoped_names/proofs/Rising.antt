-- Along the steps of a specification the numbers of tokens rise.
use Rattle.std.proofs.Common.{◌≡◌, ℕ, suc, ◌+◌, ◌<◌, ◌≤◌, ◌^◌, List, [], ◌∷◌, ◌++◌, Option, Some, None, codes, length, length-append, append-nil, append_assoc, subst, arith}
use Rattle.idl_lexer.specs.declared.token.Kind.{Kind}
use Rattle.idl_lexer.specs.declared.token.Kind.TheVariants.{Ident, Punct, Number as Integer, CharLit, TextLit, Keyword, Pragma}
use Rattle.idl_tree.specs.declared.names.Leaf.{Leaf}
use Rattle.idl_tree.specs.declared.names.ScopedName.{ScopedName}
use Rattle.idl_tree.specs.declared.names.ScopedName.TheVariants as Names
use Rattle.idl_tree.specs.declared.expression.Expr.{Expr, Name, Number, Character, Text, Boolean, Parenthesized', Signed', Chain'}
use Rattle.idl_tree.specs.declared.definitions.Const.{Const}
use Rattle.idl_tree.specs.declared.spec.Spec.{Spec}
use Rattle.idl_tree.specs.Pieces.{Piece, kept, mark, piece}
use Rattle.idl_tree.specs.Forms.{AreNumbered}
use Rattle.idl_tree.specs.Yields.{boolean_text, const_expr_yield, expr_yield, identifier, name_yield, operands_yield, optional, root_yield, sign_text}
use Rattle.idl_tree.specs.Starts.{expr_start, name_start, root_or}
use Rattle.idl_tree.proofs.SpelledForms.{AreNumbered-append, Spec-length, Spec-numbers, kept_number}
use Rattle.idl_tree.specs.declared.kinds.EntryKind.{EntryKind}
use Rattle.name_steps.specs.Asked.{pieces_of}
use Rattle.scoped_names.specs.Meanings.{const_end}
use Rattle.scoped_names.specs.inner.Rising.{Follows, Rises, reached}
use Rattle.name_steps.specs.Steps.{Step, Declares, DeclaresEnum, DeclaresEnumerator, DeclaresTypedef, IsNew, DeclaresConst, DeclaresFeature, HasMember, IsUndefined, HasBase, Enters, Defines, Leaves, NamesType, NamesException, HasWorth, IsSize, Says, steps_of}
use Rattle.name_steps.proofs.Asks.{Asks, IsPlain, all_ask, none, silent as unasked, joined as both_asked, plain, base, valued, declared, featured, undefined, inside, defines}

-- ---- steps that rise from a token rise from one before it

pub Follows-mono : (m k : ℕ) (step : Step) → m ≤ k → Follows k step → Follows m step × (reached m step ≤ reached k step)
Follows-mono m k (HasBase l name) le f = omega arith
Follows-mono m k step le f = omega arith

pub Rises-mono : (m k : ℕ) (steps : List Step) → m ≤ k → Rises k steps → Rises m steps
Rises-mono m k [] le r = tt
Rises-mono m k (step ∷ steps) le r =
    let both = Follows-mono m k step le r.0 in
    (both.0, Rises-mono (reached m step) (reached k step) steps both.1 r.1)

-- ---- steps along pieces

-- the first piece has the number n
record Sits (n : ℕ) (ps : List Piece) : Type 0 where
  numbered : AreNumbered n ps
  small : n + length ps < 2 ^ 64

left : {n : ℕ} (ps qs : List Piece) → Sits n (ps ++ qs) → Sits n ps
left {n} ps qs s =
    let all = length-append ps qs in
    let small = s.small in
    record { numbered = (AreNumbered-append ps qs n s.numbered).0; small = omega arith }

right : {n : ℕ} (ps qs : List Piece) → Sits n (ps ++ qs) → Sits (n + length ps) qs
right {n} ps qs s =
    let all = length-append ps qs in
    let small = s.small in
    record { numbered = (AreNumbered-append ps qs n s.numbered).1; small = omega arith }

-- the steps rise, wherever the pieces stand, if what follows them rises behind the pieces
record Along (ps : List Piece) (xs : List Step) : Type 0 where
  go : (n : ℕ) → Sits n ps → (rest : List Step) → Rises (n + length ps) rest → Rises n (xs ++ rest)

silent : (ps : List Piece) → Along ps []
silent ps = record { go = λ n s rest r. Rises-mono n (n + length ps) rest (omega arith) r }

joined : {ps qs : List Piece} {xs ys : List Step} → Along ps xs → Along qs ys → Along (ps ++ qs) (xs ++ ys)
joined {ps} {qs} {xs} {ys} a b = record {
  go = λ n s rest r.
      let all = length-append ps qs in
      let end : n + length (ps ++ qs) ≡ n + length ps + length qs = omega arith in
      let behind = b.go (n + length ps) (right ps qs s) rest (subst (λ k. Rises k rest) end r) in
      rw append_assoc (a.go n (left ps qs s) (ys ++ rest) behind);
}

entering : {ps : List Piece} {xs : List Step} (l : Leaf) → Along ps xs → Along ps (Enters l ∷ xs)
entering l a = record { go = λ n s rest r. let small = s.small in (omega arith, a.go n s rest r) }

defining : {ps : List Piece} {xs : List Step} (l : Leaf) → Along ps xs → Along ps (Defines l ∷ xs)
defining l a = record { go = λ n s rest r. let small = s.small in (omega arith, a.go n s rest r) }

-- what is entered for one name is left behind it
left_at_once : {ps : List Piece} {xs : List Step} → Along ps xs → Along ps (xs ++ Leaves ∷ [])
left_at_once {ps} {xs} a = record {
  go = λ n s rest r.
      let small = s.small in
      rw append_assoc (a.go n s (Leaves ∷ rest) (omega arith, r));
}

-- ---- steps at a token

-- the leaf is the first of the pieces
record Begins (l : Leaf) (ps : List Piece) : Type 0 where
  at : (n : ℕ) → AreNumbered n ps → l.number ≡ n
  some : 0 < length ps

Begins-kept : (kind : Kind) (text : List ℕ) (l : Leaf) → Begins l (kept kind text l)
unfolding kept
Begins-kept kind text l = record { at = λ n h. kept_number kind text l n h; some = omega arith }

Begins-more : {l : Leaf} {ps : List Piece} → Begins l ps → (qs : List Piece) → Begins l (ps ++ qs)
Begins-more {l} {ps} b qs =
    let all = length-append ps qs in
    let some = b.some in
    record { at = λ n h. b.at n (AreNumbered-append ps qs n h).0; some = omega arith }

Begins-path : (root : Option Leaf) (first : Leaf)
    → Begins (root_or root first) (optional root_yield root ++ identifier first)
Begins-path None first = Begins-kept Ident first.token.text.now first
Begins-path (Some root) first = Begins-more (Begins-kept Punct (codes "::") root) (identifier first)

Begins-name : (name : ScopedName) → Begins (name_start name) (name_yield name)
Begins-name (Names.Plain l) = Begins-kept Ident l.token.text.now l
Begins-name (Names.Scoped p) = Begins-more (Begins-path p.value.root p.value.first) _

Begins-expr : (e : Expr) → Begins (expr_start e) (expr_yield e)
Begins-expr (Name name) = Begins-name name
Begins-expr (Number l) = Begins-kept Integer l.token.text.now l
Begins-expr (Character l) = Begins-kept CharLit l.token.text.now l
Begins-expr (Text ls) = Begins-more (Begins-kept TextLit ls.value.first.token.text.now ls.value.first) _
Begins-expr (Boolean b word) = Begins-kept Keyword (boolean_text b) word
Begins-expr (Parenthesized' l p inner) =
    Begins-more (Begins-more (Begins-kept Punct (codes "(") l) (expr_yield inner)) _
Begins-expr (Signed' m s p inner) = Begins-more (Begins-kept Punct (sign_text s) m) (expr_yield inner)
Begins-expr (Chain' p first shape rest) = Begins-more (Begins-expr first) (operands_yield rest)

stands : {l : Leaf} {ps : List Piece} (step : Step) → Begins l ps
    → ((n : ℕ) → l.number ≡ n → n < 2 ^ 64 → Follows n step × (reached n step ≤ suc n)) → Along ps (step ∷ [])
stands {l} {ps} step b here = record {
  go = λ n s rest r.
      let small = s.small in
      let some = b.some in
      let there = here n (b.at n s.numbered) (omega arith) in
      let at_most = there.1 in
      (there.0, Rises-mono (reached n step) (n + length ps) rest (omega arith) r);
}

is_named : (l : Leaf) → Begins l (identifier l)
is_named l = Begins-kept Ident l.token.text.now l

plain_along : (s : Step) → IsPlain s → Along (pieces_of s) (s ∷ [])
plain_along (Declares kind l) is = stands (Declares kind l) (is_named l) (λ n at lt. omega arith)
plain_along (DeclaresEnum l) is = stands (DeclaresEnum l) (is_named l) (λ n at lt. omega arith)
plain_along (DeclaresEnumerator l) is = stands (DeclaresEnumerator l) (is_named l) (λ n at lt. omega arith)
plain_along (DeclaresTypedef t d) is = stands (DeclaresTypedef t d) (is_named d.identifier) (λ n at lt. omega arith)
plain_along (DeclaresFeature kind l) is = stands (DeclaresFeature kind l) (is_named l) (λ n at lt. omega arith)
plain_along (HasMember l) is = stands (HasMember l) (is_named l) (λ n at lt. omega arith)
plain_along (NamesType name) is = stands (NamesType name) (Begins-name name) (λ n at lt. omega arith)
plain_along (NamesException name) is = stands (NamesException name) (Begins-name name) (λ n at lt. omega arith)
plain_along (HasWorth e) is = stands (HasWorth e) (Begins-expr e) (λ n at lt. omega arith)
plain_along (IsSize e) is = stands (IsSize e) (Begins-expr e) (λ n at lt. omega arith)
plain_along (Says l) is = stands (Says l) (Begins-kept Pragma l.token.text.now l) (λ n at lt. omega arith)
plain_along s is = absurd is

-- a base stands behind its mark
base_along : (text : List ℕ) (id : Leaf) (name : ScopedName)
    → Along (mark text ++ name_yield name) (HasBase id name ∷ [])
unfolding piece
base_along text id name = record {
  go = λ n s rest r.
      let small = s.small in
      let begins = Begins-name name in
      let some = begins.some in
      let is = begins.at (n + 1) s.numbered.1 in
      (omega arith, Rises-mono (name_start name).number _ rest (omega arith) r);
}

valued_along : (c : Const) → Along ((identifier c.identifier ++ mark (codes "=")) ++ const_expr_yield c.value)
    (IsNew c.identifier ∷ DeclaresConst c ∷ [])
unfolding kept piece
valued_along c = record {
  go = λ n s rest r.
      let small = s.small in
      let begins = Begins-more (Begins-more (is_named c.identifier) (mark (codes "="))) (const_expr_yield c.value) in
      let is = begins.at n s.numbered in
      (omega arith, (omega arith, Rises-mono (const_end c) _ rest (omega arith) r));
}

-- a declaration of what has no definition yet
undefined_along : (kind : EntryKind) (id : Leaf) → Along (identifier id) (Declares kind id ∷ IsUndefined id ∷ [])
undefined_along kind id = record {
  go = λ n s rest r.
      let begins = is_named id in
      let small = s.small in
      let some = begins.some in
      let is = begins.at n s.numbered in
      (omega arith, (omega arith, Rises-mono id.number _ rest (omega arith) r));
}

along : {ls : List Leaf} {ps : List Piece} {xs : List Step} → Asks ls ps xs → Along ps xs
along none = silent []
along (unasked p is) = silent (p ∷ [])
along (both_asked a b) = joined (along a) (along b)
along (plain s is) = plain_along s is
along (base text id name) = base_along text id name
along (valued c a) = joined (along a) (valued_along c)
along (declared kind id a) = joined (plain_along (Declares kind id) tt) (along a)
along (featured kind id a) = joined (plain_along (DeclaresFeature kind id) tt) (along a)
along (undefined kind id a) = joined (undefined_along kind id) (along a)
along (inside id a) = entering id (left_at_once (along a))
along (defines id a) = defining id (along a)

-- ---- a whole specification

pub rising : (spec : Spec) → Rises 0 (steps_of spec.definitions.items)
rising spec =
    let all = along (all_ask spec.definitions.items) in
    let few = Spec-length spec in
    rw (← append-nil (steps_of spec.definitions.items))
    (all.go 0 (record { numbered = Spec-numbers spec; small = omega arith }) [] tt)
