-- Two lists of pieces in front of the same tokens: what is the same of them, and that they leave the same tokens.
use Rattle.std.proofs.Common.{◌≡◌, ◌∙◌, ℕ, Bool, true, false, ◌||◌, ◌&&◌, not, nat_eq, List, [], ◌∷◌, ◌++◌, ap, subst, sym, refl}
use Rattle.std.proofs.lemmas.Bool.{and_parts, eqb-true}
use Rattle.idl_lexer.specs.declared.token.Kind.{Kind}
use Rattle.idl_lexer.specs.declared.token.Kind.TheVariants.{Punct}
use Rattle.idl_tree.specs.declared.names.Leaf.{Leaf}
use Rattle.idl_tree.specs.Pieces.{Piece, Seen, kept, leaf, piece, touching}
use Rattle.idl_tree.specs.Shapes.{token_shape, leaf_shape}
use Rattle.idl_tree.proofs.Fronts.{Reads, split, reads_none, reads_one, begins, number_of, piece_begins, kept_begins, touching_begins, same_kept}

-- ---- what tokens begin with

abbrev pub is_in : List ℕ → ℕ → Bool
is_in [] n = false
is_in (m ∷ ms) n = nat_eq m n || is_in ms n

-- no number of the one list is in the other
abbrev pub are_apart : List ℕ → List ℕ → Bool
are_apart [] ns = true
are_apart (m ∷ ms) ns = not (is_in ns m) && are_apart ms ns

pub record Among (ns : List ℕ) (t : List Seen) : Type 0 where
  pub is : is_in ns (begins t) ≡ true

pub record Avoids (ns : List ℕ) (t : List Seen) : Type 0 where
  pub is : is_in ns (begins t) ≡ false

abbrev pub Any : List Seen → Type 0
Any t = Unit {0}

not_true : (b : Bool) → not b ≡ true → b ≡ false
not_true true h = absurd (cc)
not_true false h = refl

apart_by : (m : ℕ) (ms ns : List ℕ) (n : ℕ) (b : Bool) → nat_eq m n ≡ b → not (is_in ns m) ≡ true
    → (is_in ms n ≡ true → is_in ns n ≡ false)
    → (b || is_in ms n) ≡ true → is_in ns n ≡ false
apart_by m ms ns n true e here others k = subst (λ z. is_in ns z ≡ false) (eqb-true m n e) (not_true (is_in ns m) here)
apart_by m ms ns n false e here others k = others k

apart_at : (ms ns : List ℕ) (n : ℕ) → are_apart ms ns ≡ true → is_in ms n ≡ true → is_in ns n ≡ false
apart_at [] ns n h e = absurd (cc)
apart_at (m ∷ ms) ns n h e =
    let parts = and_parts (not (is_in ns m)) (are_apart ms ns) h in
    apart_by m ms ns n (nat_eq m n) refl parts.0 (apart_at ms ns n parts.1) e

-- what begins with one of some numbers begins with none of others
pub apart : {ms ns : List ℕ} {t : List Seen} → are_apart ms ns ≡ true → Among ms t → Avoids ns t
apart {ms = ms} {ns = ns} {t = t} h a = record { is = apart_at ms ns (begins t) h a.is }

-- fewer numbers are avoided too
abbrev pub are_some_of : List ℕ → List ℕ → Bool
are_some_of [] ns = true
are_some_of (m ∷ ms) ns = is_in ns m && are_some_of ms ns

is_some_by : (m n : ℕ) (ns : List ℕ) (b : Bool) → nat_eq m n ≡ b → is_in ns m ≡ true → is_in ns n ≡ false → b ≡ false
is_some_by m n ns true e h k = let here : is_in ns m ≡ is_in ns n = ap (is_in ns) (eqb-true m n e) in cc
is_some_by m n ns false e h k = refl

fewer_at : (ms ns : List ℕ) (n : ℕ) → are_some_of ms ns ≡ true → is_in ns n ≡ false → is_in ms n ≡ false
fewer_at [] ns n h k = refl
fewer_at (m ∷ ms) ns n h k =
    let parts = and_parts (is_in ns m) (are_some_of ms ns) h in
    let here = is_some_by m n ns (nat_eq m n) refl parts.0 k in
    let others = fewer_at ms ns n parts.1 k in
    ap (λ b. b || is_in ms n) here ∙ others

pub fewer : {ms ns : List ℕ} {t : List Seen} → are_some_of ms ns ≡ true → Avoids ns t → Avoids ms t
fewer {ms = ms} {ns = ns} {t = t} h a = record { is = fewer_at ms ns (begins t) h a.is }

more_at : (ms ns : List ℕ) (n : ℕ) → are_some_of ms ns ≡ true → is_in ms n ≡ true → is_in ns n ≡ true
more_at [] ns n h k = absurd (cc)
more_at (m ∷ ms) ns n h k =
    let parts = and_parts (is_in ns m) (are_some_of ms ns) h in
    more_by m ms ns n (nat_eq m n) refl parts.0 (more_at ms ns n parts.1) k
  where
    more_by : (m : ℕ) (ms ns : List ℕ) (n : ℕ) (b : Bool) → nat_eq m n ≡ b → is_in ns m ≡ true
        → (is_in ms n ≡ true → is_in ns n ≡ true) → (b || is_in ms n) ≡ true → is_in ns n ≡ true
    more_by m ms ns n true e here others k = sym (ap (is_in ns) (eqb-true m n e)) ∙ here
    more_by m ms ns n false e here others k = others k

pub wider : {ms ns : List ℕ} {t : List Seen} → are_some_of ms ns ≡ true → Among ms t → Among ns t
wider {ms = ms} {ns = ns} {t = t} h a = record { is = more_at ms ns (begins t) h a.is }

-- ---- what pieces lead to

-- where the pieces are in front of tokens and a fact holds behind them, another one holds of the tokens
pub record Leads (x : List Piece) (S E : List Seen → Type 0) : Type 0 where
  pub by : (t r : List Seen) → Reads x t r → S r → E t

pub leads_none : {S : List Seen → Type 0} → Leads [] S S
leads_none {S = S} = record { by = λ t r h s. subst S (sym (reads_none h)) s }

pub leads_on : {x y : List Piece} {S E F : List Seen → Type 0} → Leads x E F → Leads y S E → Leads (x ++ y) S F
leads_on {x = x} {y = y} f g = record {
  by = λ t r h s. let two = split x y t r h in f.by t two.middle two.front (g.by two.middle r two.back s);
}

pub leads_any : {x : List Piece} {E F : List Seen → Type 0} → Leads x Any F → Leads x E F
leads_any f = record { by = λ t r h s. f.by t r h tt }

-- by the first pieces
pub leads_first : {x : List Piece} (y : List Piece) {S F : List Seen → Type 0} → Leads x Any F → Leads (x ++ y) S F
leads_first y f = leads_on f (record { by = λ t r h s. tt })

pub leads_to : {x : List Piece} {S E F : List Seen → Type 0} → ((t : List Seen) → E t → F t) → Leads x S E → Leads x S F
leads_to w f = record { by = λ t r h s. w t (f.by t r h s) }

pub piece_among : (k : Kind) (text : List ℕ) (ns : List ℕ) → is_in ns (number_of k text) ≡ true
    → {S : List Seen → Type 0} → Leads (piece k text) S (Among ns)
piece_among k text ns h = record { by = λ t r e s. record { is = ap (is_in ns) (piece_begins k text t r e) ∙ h } }

pub piece_avoids : (k : Kind) (text : List ℕ) (ns : List ℕ) → is_in ns (number_of k text) ≡ false
    → {S : List Seen → Type 0} → Leads (piece k text) S (Avoids ns)
piece_avoids k text ns h = record { by = λ t r e s. record { is = ap (is_in ns) (piece_begins k text t r e) ∙ h } }

pub kept_among : (k : Kind) (text : List ℕ) (l : Leaf) (ns : List ℕ) → is_in ns (number_of k text) ≡ true
    → {S : List Seen → Type 0} → Leads (kept k text l) S (Among ns)
kept_among k text l ns h = record { by = λ t r e s. record { is = ap (is_in ns) (kept_begins k text l t r e) ∙ h } }

pub kept_avoids : (k : Kind) (text : List ℕ) (l : Leaf) (ns : List ℕ) → is_in ns (number_of k text) ≡ false
    → {S : List Seen → Type 0} → Leads (kept k text l) S (Avoids ns)
kept_avoids k text l ns h = record { by = λ t r e s. record { is = ap (is_in ns) (kept_begins k text l t r e) ∙ h } }

pub touching_among : (text : List ℕ) (ns : List ℕ) → is_in ns (number_of Punct text) ≡ true → {S : List Seen → Type 0}
    → Leads (touching text) S (Among ns)
touching_among text ns h = record { by = λ t r e s. record { is = ap (is_in ns) (touching_begins text t r e) ∙ h } }

-- ---- what is the same

pub record Same (x y : List Piece) (P : Type 0) (S : List Seen → Type 0) : Type 0 where
  pub by : (t r q : List Seen) → Reads x t r → Reads y t q → S r → S q → P × (r ≡ q)

pub fixed : (x : List Piece) {S : List Seen → Type 0} → Same x x (Unit {0}) S
fixed x = record { by = λ t r q h k s u. (tt, reads_one h k) }

pub so : {x y : List Piece} {P Q : Type 0} {S : List Seen → Type 0} → (P → Q) → Same x y P S → Same x y Q S
so f p = record { by = λ t r q h k s u. let got = p.by t r q h k s u in (f got.0, got.1) }

pub under : {x y : List Piece} {P : Type 0} {S E : List Seen → Type 0} → ((t : List Seen) → S t → E t) → Same x y P E
    → Same x y P S
under f p = record { by = λ t r q h k s u. p.by t r q h k (f r s) (f q u) }

pub then : {x x' y y' : List Piece} {P Q : Type 0} {S E : List Seen → Type 0} → Same x x' P E → Leads y S E
    → Leads y' S E → Same y y' Q S → Same (x ++ y) (x' ++ y') (P × Q) S
then {x = x} {x' = x'} {y = y} {y' = y'} f l l' g = record {
  by = λ t r q h k s u.
      let a = split x y t r h in
      let b = split x' y' t q k in
      let front = f.by t a.middle b.middle a.front b.front (l.by a.middle r a.back s) (l'.by b.middle q b.back u) in
      let back = g.by a.middle r q a.back (subst (λ m. Reads y' m q) (sym front.1) b.back) s u in
      ((front.0, back.0), back.1);
}

-- pieces that are the same on both sides, behind others and before others
pub ended : {x x' : List Piece} (y : List Piece) {P : Type 0} {S E : List Seen → Type 0} → Same x x' P E → Leads y S E
    → Same (x ++ y) (x' ++ y) P S
ended y f l = so (λ h. h.0) (then f l l (fixed y))

pub begun : (x : List Piece) {y y' : List Piece} {P : Type 0} {S : List Seen → Type 0} → Same y y' P S
    → Same (x ++ y) (x ++ y') P S
begun x f = so (λ h. h.1) (then (fixed x {S = Any}) (record { by = λ t r h s. tt }) (record { by = λ t r h s. tt }) f)

-- where any tokens may stand behind the first
pub next : {x x' y y' : List Piece} {P Q : Type 0} {S : List Seen → Type 0} → Same x x' P Any → Same y y' Q S
    → Same (x ++ y) (x' ++ y') (P × Q) S
next f g = then f (record { by = λ t r h s. tt }) (record { by = λ t r h s. tt }) g

pub closed : {x x' : List Piece} (y : List Piece) {P : Type 0} {S : List Seen → Type 0} → Same x x' P Any
    → Same (x ++ y) (x' ++ y) P S
closed y f = so (λ h. h.0) (next f (fixed y))

-- they can't both be there
pub never : {x y : List Piece} {P : Type 0} {S : List Seen → Type 0} (ms ns : List ℕ) → are_apart ms ns ≡ true
    → Leads x S (Among ms) → Leads y S (Among ns) → Same x y P S
never ms ns h f g = record {
  by = λ t r q a b s u.
      let one : is_in ns (begins t) ≡ true = (g.by t q b u).is in
      let none : is_in ns (begins t) ≡ false = apart_at ms ns (begins t) h (f.by t r a s).is in
      absurd (cc);
}

pub contrary : {x y : List Piece} {P : Type 0} {S : List Seen → Type 0} {ns : List ℕ} → Leads x S (Avoids ns)
    → Leads y S (Among ns) → Same x y P S
contrary {ns = ns} f g = record {
  by = λ t r q a b s u.
      let one : is_in ns (begins t) ≡ true = (g.by t q b u).is in
      let none : is_in ns (begins t) ≡ false = (f.by t r a s).is in
      absurd (cc);
}

-- pieces that are there too can't be more
pub longer : {x z : List Piece} {P Q : Type 0} {S : List Seen → Type 0} {ns : List ℕ} (y : List Piece)
    → ((t : List Seen) → S t → Avoids ns t) → Same x z P Any → Leads y S (Among ns)
    → Same x (z ++ y) Q S
longer {z = z} {ns = ns} y none f g = record {
  by = λ t r q a b s u.
      let two = split z y t q b in
      let here = (f.by t r two.middle a two.front tt tt).1 in
      let one : is_in ns (begins two.middle) ≡ true = (g.by two.middle q two.back u).is in
      let no : is_in ns (begins r) ≡ false = (none r s).is in
      absurd (cc);
}

-- the other way round
pub turned : {x y : List Piece} {P Q : Type 0} {S : List Seen → Type 0} → (P → Q) → Same x y P S → Same y x Q S
turned f p = record { by = λ t r q h k s u. let got = p.by t q r k h u s in (f got.0, sym got.1) }

-- ---- pieces that can't both be in front, whatever stands behind the second

pub record Clash (x z : List Piece) (S : List Seen → Type 0) : Type 0 where
  pub by : (t r q : List Seen) → Reads x t r → S r → Reads z t q → ⊥

pub clash : {x z : List Piece} {P : Type 0} {S : List Seen → Type 0} → Clash x z S → Same x z P S
clash f = record { by = λ t r q h k s u. absurd (f.by t r q h s k) }

pub clash_on : {x z : List Piece} {S : List Seen → Type 0} (y : List Piece) → Clash x z S → Clash x (z ++ y) S
clash_on {z = z} y f = record { by = λ t r q h s k. let two = split z y t q k in f.by t r two.middle h s two.front }

-- behind what is the same, the ones can't end where the others go on
pub clash_over : {x z o : List Piece} {P : Type 0} {S E : List Seen → Type 0} {ns : List ℕ} (y : List Piece)
    → ((t : List Seen) → S t → Avoids ns t) → Same x z P Any
    → Leads o E (Among ns) → Leads y Any E → Clash x (z ++ o ++ y) S
clash_over {z = z} {o = o} {ns = ns} y none f over g = record {
  by = λ t r q a s b.
      let last = split (z ++ o) y t q b in
      let two = split z o t last.middle last.front in
      let here = (f.by t r two.middle a two.front tt tt).1 in
      let one : is_in ns (begins two.middle) ≡ true =
      (over.by two.middle last.middle two.back (g.by last.middle q last.back tt)).is in
      let no : is_in ns (begins r) ≡ false = (none r s).is in
      cc;
}

pub clash_longer : {x z : List Piece} {P : Type 0} {S : List Seen → Type 0} {ns : List ℕ} (y : List Piece)
    → ((t : List Seen) → S t → Avoids ns t) → Same x z P Any
    → Leads y Any (Among ns) → Clash x (z ++ y) S
clash_longer {z = z} {ns = ns} y none f g = record {
  by = λ t r q a s b.
      let two = split z y t q b in
      let here = (f.by t r two.middle a two.front tt tt).1 in
      let one : is_in ns (begins two.middle) ≡ true = (g.by two.middle q two.back tt).is in
      let no : is_in ns (begins r) ≡ false = (none r s).is in
      cc;
}

-- behind what is the same stand tokens that begin otherwise
pub clash_behind : {x z y w : List Piece} {P : Type 0} {S : List Seen → Type 0} (ms ns : List ℕ)
    → are_apart ms ns ≡ true → Same x z P Any
    → Leads y S (Among ms) → Leads w Any (Among ns) → Clash (x ++ y) (z ++ w) S
clash_behind {x = x} {z = z} {y = y} {w = w} ms ns e f g h = record {
  by = λ t r q a s b.
      let one = split x y t r a in
      let two = split z w t q b in
      let here = (f.by t one.middle two.middle one.front two.front tt tt).1 in
      let no : is_in ns (begins one.middle) ≡ false =
      apart_at ms ns (begins one.middle) e (g.by one.middle r one.back s).is in
      let yes : is_in ns (begins two.middle) ≡ true = (h.by two.middle q two.back tt).is in
      cc;
}

-- what is the same of the first pieces tells of the second
pub then_so : {x x' y y' : List Piece} {P Q : Type 0} {S E : List Seen → Type 0} → Same x x' P E → Leads y S E
    → Leads y' S E → (P → Same y y' Q S) → Same (x ++ y) (x' ++ y') (P × Q) S
then_so {x = x} {x' = x'} {y = y} {y' = y'} f l l' g = record {
  by = λ t r q h k s u.
      let a = split x y t r h in
      let b = split x' y' t q k in
      let front = f.by t a.middle b.middle a.front b.front (l.by a.middle r a.back s) (l'.by b.middle q b.back u) in
      let back = (g front.0).by a.middle r q a.back (subst (λ m. Reads y' m q) (sym front.1) b.back) s u in
      ((front.0, back.0), back.1);
}

-- ---- tokens that are kept

pub leaves_of : (k : Kind) (x y : List ℕ) (a b : Leaf) {S : List Seen → Type 0}
    → Same (kept k x a) (kept k y b) (token_shape x a ≡ token_shape y b) S
leaves_of k x y a b = record {
  by = λ t r q h e s u.
      let one = same_kept k x y a b t r q h e in
      let text = one.text in
      let number = one.number in
      let token = one.token in
      (cc, one.left);
}

pub leaves : (k : Kind) (a b : Leaf) {S : List Seen → Type 0}
    → Same (leaf k a) (leaf k b) (leaf_shape a ≡ leaf_shape b) S
leaves k a b = leaves_of k _ _ a b
