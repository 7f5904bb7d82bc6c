-- Pieces in front of tokens: what stands behind the first of them, and which token is the first.
use Rattle.std.proofs.Common.{◌≡◌, ◌∙◌, ℕ, codes, Bool, true, false, not, ◌||◌, ◌&&◌, cond, nat_eq, List, [], ◌∷◌, ◌++◌, Option, Some, None, ap, sym, refl, subst}
use Rattle.std.specs.Str.{bytes_eq}
use Rattle.std.proofs.lemmas.Bool.{and_parts, eqb-true}
use Rattle.std.proofs.lemmas.Slice.Eq.{bytes_eq-Decides}
use Rattle.idl_lexer.specs.declared.token.Kind.{Kind}
use Rattle.idl_lexer.specs.declared.token.Kind.TheVariants.{Ident, Keyword, Punct, Number, CharLit, TextLit, Pragma}
use Rattle.idl_tree.specs.declared.names.Leaf.{Leaf}
use Rattle.idl_lexer.specs.Tokens.{TokenParts, parts_of}
use Rattle.idl_tree.specs.Pieces.{Piece, Seen, are_same, behind, is_piece, is_kept, kind_code, kept, past, piece, touching}

-- the pieces are the first tokens, and the others stand behind them
pub record Reads (x : List Piece) (tokens left : List Seen) : Type 0 where
  pub is : past x (Some tokens) ≡ Some left

-- ---- one behind another

past_append : (xs ys : List Piece) (tokens : Option (List Seen)) → past (xs ++ ys) tokens ≡ past ys (past xs tokens)
unfolding past
past_append [] ys tokens = refl
past_append (x ∷ xs) ys tokens = past_append xs ys (behind x tokens)

past_none : (ps : List Piece) → past ps None ≡ None
unfolding past
past_none [] = refl
past_none (p ∷ ps) = past_none ps

pub record Split (x y : List Piece) (tokens left : List Seen) : Type 0 where
  pub middle : List Seen
  pub front : Reads x tokens middle
  pub back : Reads y middle left

split_at : (x y : List Piece) (t r : List Seen) (o : Option (List Seen)) → past x (Some t) ≡ o → past y o ≡ Some r
    → Split x y t r
split_at x y t r None e h = let none = past_none y in absurd (cc)
split_at x y t r (Some m) e h = record { middle = m; front = record { is = e }; back = record { is = h } }

pub split : (x y : List Piece) (t r : List Seen) → Reads (x ++ y) t r → Split x y t r
split x y t r h = split_at x y t r (past x (Some t)) refl (sym (past_append x y (Some t)) ∙ h.is)

pub reads_none : {t r : List Seen} → Reads [] t r → t ≡ r
unfolding past
reads_none h = cc (h.is)

pub reads_nothing : (t : List Seen) → Reads [] t t
unfolding past
reads_nothing t = record { is = refl }

-- pieces leave the same tokens
pub reads_one : {x : List Piece} {t r q : List Seen} → Reads x t r → Reads x t q → r ≡ q
reads_one h k = let both = sym h.is ∙ k.is in cc

-- ---- the first token

-- the numbers of what tokens can begin with; 0 for those that stand in front of no part
abbrev pub numbered : List ℕ → List (List ℕ × ℕ) → ℕ
numbered text [] = 0
numbered text (w ∷ ws) = cond (bytes_eq text w.0) w.1 (numbered text ws)

abbrev pub word_number : List ℕ → ℕ
word_number text = numbered text (
    (codes "short", 10) ∷ (codes "long", 11) ∷ (codes "unsigned", 12) ∷ (codes "char", 13) ∷ (codes "boolean", 14)
    ∷ (codes "octet", 15) ∷ (codes "string", 16) ∷ (codes "Object", 19) ∷ (codes "sequence", 20) ∷ (codes "struct", 21)
    ∷ (codes "union", 22) ∷ (codes "enum", 23) ∷ (codes "typedef", 24) ∷ (codes "const", 25) ∷ (codes "exception", 26)
    ∷ (codes "void", 27) ∷ (codes "oneway", 28) ∷ (codes "readonly", 30) ∷ (codes "attribute", 31)
    ∷ (codes "interface", 33) ∷ (codes "module", 34) ∷ (codes "case", 40) ∷ (codes "default", 41) ∷ (codes "in", 42)
    ∷ (codes "out", 43) ∷ (codes "inout", 44) ∷ (codes "raises", 45) ∷ (codes "getraises", 46) ∷ (codes "setraises", 47)
    ∷ (codes "switch", 48) ∷ (codes "TRUE", 50) ∷ (codes "FALSE", 51) ∷ [])

abbrev pub mark_number : List ℕ → ℕ
mark_number text = numbered text (
    (codes "::", 18) ∷ (codes "(", 55) ∷ (codes "-", 56) ∷ (codes "+", 57) ∷ (codes "|", 60) ∷ (codes "^", 61)
    ∷ (codes "&", 62) ∷ (codes "<<", 63) ∷ (codes ">", 64) ∷ (codes "*", 65) ∷ (codes "/", 66) ∷ (codes "%", 67)
    ∷ (codes ";", 70) ∷ (codes ",", 71) ∷ (codes "{", 72) ∷ (codes "}", 73) ∷ (codes ")", 74) ∷ (codes ":", 75)
    ∷ (codes "=", 76) ∷ (codes "[", 77) ∷ (codes "]", 78) ∷ (codes "<", 79) ∷ [])

abbrev pub number_of : Kind → List ℕ → ℕ
number_of Ident text = 17
number_of Keyword text = word_number text
number_of Punct text = mark_number text
number_of Number text = 52
number_of CharLit text = 53
number_of TextLit text = 54
number_of Pragma text = 32

-- what the tokens begin with
unfoldable pub begins : List Seen → ℕ
begins [] = 0
begins (t ∷ ts) = number_of t.kind t.text

kind_of : ℕ → Kind
kind_of n =
    cond (nat_eq n 0) Ident (cond (nat_eq n 1) Keyword
    (cond (nat_eq n 2) Punct
    (cond (nat_eq n 3) Number (cond (nat_eq n 4) CharLit (cond (nat_eq n 5) TextLit Pragma)))))

kind_of-kind_code : (k : Kind) → kind_of (kind_code k) ≡ k
unfolding kind_of
kind_of-kind_code Ident = refl
kind_of-kind_code Keyword = refl
kind_of-kind_code Punct = refl
kind_of-kind_code Number = refl
kind_of-kind_code CharLit = refl
kind_of-kind_code TextLit = refl
kind_of-kind_code Pragma = refl

pub same_kind : (a b : Kind) → nat_eq (kind_code a) (kind_code b) ≡ true → a ≡ b
same_kind a b h =
    sym (kind_of-kind_code a) ∙ ap kind_of (eqb-true (kind_code a) (kind_code b) h) ∙ kind_of-kind_code b

abbrev of_parts : Kind → List ℕ → ℕ → ℕ → ℕ → TokenParts
of_parts kind text start stop line = record { kind = kind; text = text; start = start; «end» = stop; line = line }

-- tokens that are told to be the same are
pub same_parts : (a b : TokenParts) → are_same a b ≡ true → a ≡ b
same_parts a b h =
    let kinds = nat_eq (kind_code a.kind) (kind_code b.kind) in
    let texts = bytes_eq a.text b.text in
    let starts = nat_eq a.start b.start in
    let ends = nat_eq a.«end» b.«end» in
    let five = and_parts (kinds && texts && starts && ends) (nat_eq a.line b.line) h in
    let four = and_parts (kinds && texts && starts) ends five.0 in
    let three = and_parts (kinds && texts) starts four.0 in
    let two = and_parts kinds texts three.0 in
    ap (λ k. of_parts k a.text a.start a.«end» a.line) (same_kind a.kind b.kind two.0)
    ∙ ap (λ t. of_parts b.kind t a.start a.«end» a.line) ((bytes_eq-Decides a.text b.text).0 two.1)
    ∙ ap (λ n. of_parts b.kind b.text n a.«end» a.line) (eqb-true a.start b.start three.1)
    ∙ ap (λ n. of_parts b.kind b.text b.start n a.line) (eqb-true a.«end» b.«end» four.1)
    ∙ ap (of_parts b.kind b.text b.start b.«end») (eqb-true a.line b.line five.1)

parts_of_test : (p : Piece) (s : Seen) → is_piece p s ≡ true → (p.kind ≡ s.kind) × (p.text ≡ s.text)
    × (is_kept p.token s.token ≡ true)
parts_of_test p s h =
    let kinds = nat_eq (kind_code p.kind) (kind_code s.kind) in
    let texts = bytes_eq p.text s.text in
    let tokens = is_kept p.token s.token in
    let all = and_parts (kinds && texts && tokens) (not p.touches || s.touches) h in
    let three = and_parts (kinds && texts) tokens all.0 in
    let two = and_parts kinds texts three.0 in
    (same_kind p.kind s.kind two.0, (bytes_eq-Decides p.text s.text).0 two.1, three.1)

-- the first token, and that it is what the piece says
pub record First (p : Piece) (t r : List Seen) : Type 0 where
  pub token : Seen
  pub is : t ≡ token ∷ r
  pub kind : p.kind ≡ token.kind
  pub text : p.text ≡ token.text
  pub kept : is_kept p.token token.token ≡ true

abbrev taken : Bool → List Seen → Option (List Seen)
taken b ts = elim b [ true ↦ Some ts | false ↦ None ]

first_by : (b : Bool) (p : Piece) (s : Seen) (ts r : List Seen) → is_piece p s ≡ b → past [] (taken b ts) ≡ Some r
    → First p (s ∷ ts) r
unfolding past
first_by true p s ts r e h =
    let parts = parts_of_test p s e in
    let rest : ts ≡ r = cc in
    record { token = s; is = ap (λ l. s ∷ l) rest; kind = parts.0; text = parts.1; kept = parts.2 }
first_by false p s ts r e h = absurd (cc)

first_of : (p : Piece) (t r : List Seen) → past (p ∷ []) (Some t) ≡ Some r → First p t r
unfolding past
first_of p [] r h = absurd (cc)
first_of p (s ∷ ts) r h = first_by (is_piece p s) p s ts r refl h

first_begins : (p : Piece) (t r : List Seen) → First p t r → begins t ≡ number_of p.kind p.text
unfolding begins
first_begins p t r f = ap begins f.is ∙ ap (λ k. number_of k f.token.text) (sym f.kind)
    ∙ ap (number_of p.kind) (sym f.text)

pub one_first : (p : Piece) (t r : List Seen) → Reads (p ∷ []) t r → First p t r
one_first p t r h = first_of p t r h.is

pub piece_first : (k : Kind) (text : List ℕ) (t r : List Seen) → Reads (piece k text) t r
    → First (record { kind = k; text = text; token = None; touches = false }) t r
unfolding piece
piece_first k text t r h = first_of _ t r h.is

pub kept_first : (k : Kind) (text : List ℕ) (l : Leaf) (t r : List Seen) → Reads (kept k text l) t r
    → First (record { kind = k; text = text; token = Some (l.number, parts_of l.token); touches = false }) t r
unfolding kept
kept_first k text l t r h = first_of _ t r h.is

-- where the next token has to touch the first
abbrev pub touching_piece : List ℕ → Piece
touching_piece text = record { kind = Punct; text = text; token = None; touches = true }

pub touching_first : (text : List ℕ) (t r : List Seen) → Reads (touching text) t r → First (touching_piece text) t r
unfolding touching
touching_first text t r h = first_of _ t r h.is

touches_by : (b : Bool) (p : Piece) (s : Seen) (ts r : List Seen) → is_piece p s ≡ b → p.touches ≡ true
    → past [] (taken b ts) ≡ Some r → s.touches ≡ true
unfolding past
touches_by true p s ts r e k h =
    let kinds = nat_eq (kind_code p.kind) (kind_code s.kind) in
    let all = and_parts (kinds && bytes_eq p.text s.text && is_kept p.token s.token) (not p.touches || s.touches) e in
    let no : (not p.touches || s.touches) ≡ s.touches = ap (λ b. not b || s.touches) k in
    sym no ∙ all.1
touches_by false p s ts r e k h = absurd (cc)

touches_at : (p : Piece) (t r : List Seen) (s : Seen) (ts : List Seen) → t ≡ s ∷ ts → past (p ∷ []) (Some t) ≡ Some r
    → p.touches ≡ true → s.touches ≡ true
unfolding past
touches_at p t r s ts e h k =
    touches_by (is_piece p s) p s ts r refl k (subst (λ z. past (p ∷ []) (Some z) ≡ Some r) e h)

pub touching_touches : (text : List ℕ) (t r : List Seen) (s : Seen) (ts : List Seen) → t ≡ s ∷ ts
    → Reads (touching text) t r → s.touches ≡ true
unfolding touching
touching_touches text t r s ts e h = touches_at (touching_piece text) t r s ts e h.is refl

-- ---- which number the first token has

pub piece_begins : (k : Kind) (text : List ℕ) (t r : List Seen) → Reads (piece k text) t r → begins t ≡ number_of k text
unfolding piece
piece_begins k text t r h = first_begins _ t r (first_of _ t r h.is)

pub kept_begins : (k : Kind) (text : List ℕ) (l : Leaf) (t r : List Seen) → Reads (kept k text l) t r
    → begins t ≡ number_of k text
unfolding kept
kept_begins k text l t r h = first_begins _ t r (first_of _ t r h.is)

pub touching_begins : (text : List ℕ) (t r : List Seen) → Reads (touching text) t r → begins t ≡ number_of Punct text
unfolding touching
touching_begins text t r h = first_begins _ t r (first_of _ t r h.is)

-- ---- kept tokens in front of the same tokens are the same

abbrev kept_piece : Kind → List ℕ → Leaf → Piece
kept_piece k text l = record { kind = k; text = text; token = Some (l.number, parts_of l.token); touches = false }

pub record SameKept (a b : Leaf) (x y : List ℕ) (r q : List Seen) : Type 0 where
  pub text : x ≡ y
  pub number : a.number ≡ b.number
  pub token : parts_of a.token ≡ parts_of b.token
  pub left : r ≡ q

same_firsts : (k : Kind) (x y : List ℕ) (a b : Leaf) (t r q : List Seen) → First (kept_piece k x a) t r
    → First (kept_piece k y b) t q → SameKept a b x y r q
same_firsts k x y a b t r q f g =
    let lists : f.token ∷ r ≡ g.token ∷ q = sym f.is ∙ g.is in
    let token : f.token ≡ g.token = cc in
    let pf = and_parts (nat_eq a.number f.token.token.0) (are_same (parts_of a.token) f.token.token.1) f.kept in
    let pg = and_parts (nat_eq b.number g.token.token.0) (are_same (parts_of b.token) g.token.token.1) g.kept in
    record {
      text = f.text ∙ ap (λ s. s.text) token ∙ sym g.text;
      number = eqb-true _ _ pf.0 ∙ ap (λ s. s.token.0) token ∙ sym (eqb-true _ _ pg.0);
      token = same_parts _ _ pf.1 ∙ ap (λ s. s.token.1) token ∙ sym (same_parts _ _ pg.1);
      left = cc;
    }

pub same_kept : (k : Kind) (x y : List ℕ) (a b : Leaf) (t r q : List Seen) → Reads (kept k x a) t r
    → Reads (kept k y b) t q → SameKept a b x y r q
unfolding kept
same_kept k x y a b t r q h g = same_firsts k x y a b t r q (first_of _ t r h.is) (first_of _ t q g.is)
