-- What is spelled by tokens has the forms of their kinds, their numbers, and is as many.
use Rattle.std.proofs.Common.{◌≡◌, ◌∙◌, ℕ, suc, ◌+◌, codes, Bool, true, false, not, ◌||◌, ◌&&◌, ◌==◌, cond, nat_eq, List, [], ◌∷◌, ◌++◌, Option, Some, None, length, length-append, add-zero, ap, subst, sym, refl, arith}
use Rattle.std.specs.Prelude.{◌^◌, ◌<◌}
use Rattle.std.specs.List.{AllByRecursion-prop}
use Rattle.std.specs.Coded.{×_prop, Unit-prop, le_prop}
use Rattle.std.proofs.Math.Logic.{∥∥₁_elim, ∥∥₁_prop}
use Rattle.std.proofs.Props.{props}
use Rattle.std.specs.Str.{bytes_eq}
use Rattle.std.proofs.lemmas.Bool.{and_parts, eqb-true}
use Rattle.std.proofs.lemmas.Slice.Eq.{bytes_eq-Decides}
use Rattle.idl_lexer.specs.declared.token.Kind.{Kind}
use Rattle.idl_lexer.specs.declared.token.Kind.TheVariants.{Ident, Keyword, Punct, Number, CharLit, TextLit, Pragma}
use Rattle.idl_lexer.specs.declared.token.Token.{Token}
use Rattle.idl_lexer.specs.Forms.{HasForm}
use Rattle.idl_lexer.specs.Tokens.{TokenParts, parts_of}
use Rattle.idl_tree.specs.declared.spec.Spec.{Spec}
use Rattle.idl_tree.specs.Pieces.{Piece, piece, kept, keyword, mark, leaf, Seen, are_same, is_end, is_piece, is_kept, kind_code, past, seen_from, Spell}
use Rattle.idl_tree.specs.declared.definitions.Const.{Const}
use Rattle.idl_tree.specs.Yields.{identifier, const_expr_yield}
use Rattle.idl_tree.specs.TypeYields.{const_type_yield}
use Rattle.idl_tree.specs.Forms.{HaveForms, AreNumbered, IsNumbered, IsLeafOf}
use Rattle.idl_tree.specs.declared.names.Leaf.{Leaf}
use Rattle.idl_tree.specs.DefinitionYields.{definitions_spelled, const_yield}

-- ---- a piece and its token

kind_of : ℕ → Kind
kind_of n =
    cond (n == 0) Ident (cond (n == 1) Keyword
    (cond (n == 2) Punct (cond (n == 3) Number (cond (n == 4) CharLit (cond (n == 5) TextLit Pragma)))))

kind_of-kind_code : (k : Kind) → kind_of (kind_code k) ≡ k
unfolding kind_of
kind_of-kind_code Ident = refl
kind_of-kind_code Keyword = refl
kind_of-kind_code Punct = refl
kind_of-kind_code Number = refl
kind_of-kind_code CharLit = refl
kind_of-kind_code TextLit = refl
kind_of-kind_code Pragma = refl

same_kind : (a b : Kind) → nat_eq (kind_code a) (kind_code b) ≡ true → a ≡ b
same_kind a b h =
    sym (kind_of-kind_code a) ∙ ap kind_of (eqb-true (kind_code a) (kind_code b) h) ∙ kind_of-kind_code b

record Fits (p : Piece) (t : Seen) : Type 0 where
  kind : p.kind ≡ t.kind
  text : p.text ≡ t.text
  token : is_kept p.token t.token ≡ true

fits : (p : Piece) (t : Seen) → is_piece p t ≡ true → Fits p t
fits p t h =
    let kinds = nat_eq (kind_code p.kind) (kind_code t.kind) in
    let texts = bytes_eq p.text t.text in
    let tokens = is_kept p.token t.token in
    let all = and_parts (kinds && texts && tokens) (not p.touches || t.touches) h in
    let three = and_parts (kinds && texts) tokens all.0 in
    let two = and_parts kinds texts three.0 in
    record { kind = same_kind p.kind t.kind two.0; text = (bytes_eq-Decides p.text t.text).0 two.1; token = three.1 }

-- ---- pieces one behind another

past_none : (ps : List Piece) → past ps None ≡ None
unfolding past
past_none [] = refl
past_none (p ∷ ps) = past_none ps

abbrev taken : Bool → List Seen → Option (List Seen)
taken b ts = elim b [ true ↦ Some ts | false ↦ None ]

by_test : (b : Bool) (p : Piece) (ps : List Piece) (t : Seen) (ts : List Seen) → is_piece p t ≡ b
    → is_end (past ps (taken b ts)) ≡ true → Fits p t × (is_end (past ps (Some ts)) ≡ true)
by_test true p ps t ts e h = (fits p t e, h)
by_test false p ps t ts e h = let end : is_end (past ps None) ≡ false = ap is_end (past_none ps) in cc

-- the first piece is the first token
first_fits : (p : Piece) (ps : List Piece) (t : Seen) (ts : List Seen) → is_end (past (p ∷ ps) (Some (t ∷ ts))) ≡ true
    → Fits p t × (is_end (past ps (Some ts)) ≡ true)
unfolding past
first_fits p ps t ts h = by_test (is_piece p t) p ps t ts refl h

no_more : (p : Piece) (ps : List Piece) → is_end (past (p ∷ ps) (Some [])) ≡ true → ⊥
unfolding past
no_more p ps h = let end : is_end (past ps None) ≡ false = ap is_end (past_none ps) in cc

all_spelled : (tokens : List Token) (n : ℕ) → is_end (past [] (Some (seen_from n tokens))) ≡ true → length tokens ≡ 0
unfolding past
all_spelled [] n h = refl
all_spelled (t ∷ ts) n h = cc

forms : (ps : List Piece) (n : ℕ) (tokens : List Token) → is_end (past ps (Some (seen_from n tokens))) ≡ true
    → HaveForms ps
forms [] n tokens h = tt
forms (p ∷ ps) n [] h = absurd (no_more p ps h)
forms (p ∷ ps) n (t ∷ ts) h =
    let first = first_fits p ps _ (seen_from (n + 1) ts) h in (
      subst (λ k. HasForm k p.text) (sym first.0.kind) (subst (HasForm t.kind) (sym first.0.text) t.form),
      forms ps (n + 1) ts first.1,
    )

numbers : (ps : List Piece) (n : ℕ) (tokens : List Token) → is_end (past ps (Some (seen_from n tokens))) ≡ true
    → AreNumbered n ps
numbers [] n tokens h = tt
numbers (p ∷ ps) n [] h = absurd (no_more p ps h)
numbers (p ∷ ps) n (t ∷ ts) h =
    let first = first_fits p ps _ (seen_from (n + 1) ts) h in
    (numbered p.token n (parts_of t) first.0.token, numbers ps (n + 1) ts first.1)
  where
    numbered : (token : Option (ℕ × TokenParts)) (n : ℕ) (seen : TokenParts) → is_kept token (n, seen) ≡ true
        → IsNumbered n token
    numbered None n seen h = tt
    numbered (Some k) n seen h = eqb-true k.0 n (and_parts (nat_eq k.0 n) (are_same k.1 seen) h).0

lengths : (ps : List Piece) (n : ℕ) (tokens : List Token) → is_end (past ps (Some (seen_from n tokens))) ≡ true
    → length ps ≡ length tokens
lengths [] n tokens h = sym (all_spelled tokens n h)
lengths (p ∷ ps) n [] h = absurd (no_more p ps h)
lengths (p ∷ ps) n (t ∷ ts) h = ap suc (lengths ps (n + 1) ts (first_fits p ps _ (seen_from (n + 1) ts) h).1)

-- ---- what tokens spell

pub Spell-forms : (ps : List Piece) (tokens : List Token) → Spell ps tokens → HaveForms ps
Spell-forms ps tokens h = forms ps 0 tokens h

pub Spell-numbers : (ps : List Piece) (tokens : List Token) → Spell ps tokens → AreNumbered 0 ps
Spell-numbers ps tokens h = numbers ps 0 tokens h

pub Spell-length : (ps : List Piece) (tokens : List Token) → Spell ps tokens → length ps ≡ length tokens
Spell-length ps tokens h = lengths ps 0 tokens h

-- a token has the form of its kind, so a test of its kind tells its form
pub IsLeafOf-kind : (l : Leaf) (kind : Kind) → l.token.kind ≡ kind → IsLeafOf kind l
IsLeafOf-kind l kind h = subst (λ k. HasForm k l.token.text.now) h l.token.form

-- ---- parts of what is spelled

pub HaveForms-append : (ps qs : List Piece) → HaveForms (ps ++ qs) → HaveForms ps × HaveForms qs
HaveForms-append [] qs h = (tt, h)
HaveForms-append (p ∷ ps) qs h = let parts = HaveForms-append ps qs h.1 in ((h.0, parts.0), parts.1)

pub AreNumbered-append : (ps qs : List Piece) (n : ℕ) → AreNumbered n (ps ++ qs)
    → AreNumbered n ps × AreNumbered (n + length ps) qs
AreNumbered-append [] qs n h = (tt, rw add-zero h)
AreNumbered-append (p ∷ ps) qs n h =
    let parts = AreNumbered-append ps qs (n + 1) h.1 in
    let there : n + 1 + length ps ≡ n + suc (length ps) = omega arith in
    ((h.0, parts.0), subst (λ k. AreNumbered k qs) there parts.1)

-- ---- a whole specification

IsNumbered-prop : (n : ℕ) (token : Option (ℕ × TokenParts)) → IsProp (IsNumbered n token)
IsNumbered-prop n None = Unit-prop
IsNumbered-prop n (Some token) = hlevel props

AreNumbered-prop : (n : ℕ) (ps : List Piece) → IsProp (AreNumbered n ps)
AreNumbered-prop n [] = Unit-prop
AreNumbered-prop n (p ∷ ps) = ×_prop (IsNumbered-prop n p.token) (AreNumbered-prop (n + 1) ps)

pub Spec-forms : (s : Spec) → HaveForms (definitions_spelled s.definitions.items)
Spec-forms s =
    let ps = definitions_spelled s.definitions.items in
    ∥∥₁_elim s.spells (AllByRecursion-prop _ (λ p. ∥∥₁_prop) ps) (λ of. Spell-forms ps of.tokens of.spelled)

pub Spec-numbers : (s : Spec) → AreNumbered 0 (definitions_spelled s.definitions.items)
Spec-numbers s =
    let ps = definitions_spelled s.definitions.items in
    ∥∥₁_elim s.spells (AreNumbered-prop 0 ps) (λ of. Spell-numbers ps of.tokens of.spelled)

pub Spec-length : (s : Spec) → length (definitions_spelled s.definitions.items) < 2 ^ 64
Spec-length s =
    let ps = definitions_spelled s.definitions.items in
    ∥∥₁_elim s.spells le_prop (λ of. let same = Spell-length ps of.tokens of.spelled in let few = of.few in omega arith)

-- ---- leaves

pub leaf_form : (kind : Kind) (l : Leaf) → HaveForms (leaf kind l) → IsLeafOf kind l
unfolding kept
leaf_form kind l h = h.0

pub kept_number : (kind : Kind) (text : List ℕ) (l : Leaf) (n : ℕ) → AreNumbered n (kept kind text l) → l.number ≡ n
unfolding kept
kept_number kind text l n h = h.0

-- the semicolon of a constant stands behind its identifier, `=` and its value
pub const_end : (c : Const) (n : ℕ) → AreNumbered n (const_yield c)
    → n + length (const_yield c) ≡ c.identifier.number + 2 + length (const_expr_yield c.value)
unfolding kept piece
const_end c n h =
    let front = keyword (codes "const") ++ const_type_yield c.const_type in
    let named = front ++ identifier c.identifier in
    let equal = named ++ mark (codes "=") in
    let without_value = AreNumbered-append equal (const_expr_yield c.value) n h in
    let without_mark = AreNumbered-append named (mark (codes "=")) n without_value.0 in
    let placed = AreNumbered-append front (identifier c.identifier) n without_mark.0 in
    let number = kept_number Ident c.identifier.token.text.now c.identifier (n + length front) placed.1 in
    omega (
      arith,
      number,
      length-append equal (const_expr_yield c.value),
      length-append named (mark (codes "=")),
      length-append front (identifier c.identifier),
    )
