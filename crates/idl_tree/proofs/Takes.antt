-- Pieces in front of tokens, and a way over them.
use Rattle.std.proofs.Common.{◌≡◌, ◌∙◌, ℕ, ◌≤◌, ◌<◌, ◌+◌, codes, Bool, true, false, ◌||◌, ◌&&◌, nat_eq, List, [], ◌∷◌, ◌++◌, Option, Some, None, length, ap, subst, sym, refl, arith}
use Rattle.std.specs.Str.{bytes_eq}
use Rattle.std.proofs.lemmas.Bool.{and_parts}
use Rattle.std.proofs.lemmas.Bool.Decides.{Decides-eqb}
use Rattle.std.proofs.lemmas.Slice.Eq.{bytes_eq-Decides}
use Rattle.std.specs.List.{flat_map}
use Rattle.idl_lexer.specs.declared.token.Kind.{Kind}
use Rattle.idl_lexer.specs.declared.token.Kind.TheVariants.{Punct, TextLit, Pragma}
use Rattle.idl_tree.specs.declared.names.Leaf.{Leaf}
use Rattle.idl_tree.specs.Pieces.{Piece, Seen, past, kept, mark, leaf, piece, touching, kind_code}
use Rattle.idl_tree.specs.declared.names.Listed.{Listed}
use Rattle.idl_tree.specs.Levels.{highest, highest_listed}
use Rattle.idl_tree.specs.Yields.{listed, optional}
use Rattle.idl_tree.specs.Descent.{listed_way, rest_way, sees_mark, mark_taken, Way, sees, sees_kind, sees_touching, behind_next, only_if, taken, taken_kind, taken_touching, and_then, where_seen, repeated}
use Rattle.idl_tree.proofs.Fronts.{Reads, First, split, reads_none, reads_nothing, begins, number_of, one_first, touching_first, touching_touches, piece_first, kept_first, same_kind}
use Rattle.idl_tree.proofs.Same.{is_in, Among, Avoids, Any, Leads, leads_none, leads_first, leads_to, piece_among}

-- the way leads over the pieces, where S holds of what is left
pub record Takes (x : List Piece) (way : List Seen → Way) (S : List Seen → Type 0) : Type 0 where
  pub by : (t r : List Seen) → Reads x t r → S r → way t ≡ Some r

-- so do these ways, whatever stands behind
pub record Front (x : List Piece) (way : (List Seen → Way) → List Seen → Way) (E : List Seen → Type 0) : Type 0 where
  pub by : (t m : List Seen) → Reads x t m → E m → (more : List Seen → Way) → way more t ≡ more m

pub and_then_some : (o : Way) (m : List Seen) (more : List Seen → Way) → o ≡ Some m → and_then o more ≡ more m
unfolding and_then
and_then_some o m more e = ap (λ w. and_then w more) e

pub front : {x : List Piece} {p : List Seen → Way} {E : List Seen → Type 0} → Takes x p E
    → Front x (λ more t. and_then (p t) (λ u. more u)) E
front {p = p} f = record { by = λ t m h e more. and_then_some (p t) m more (f.by t m h e) }

pub front_on : {x y : List Piece} {F G : (List Seen → Way) → List Seen → Way} {D E : List Seen → Type 0} → Front x F D
    → Leads y E D → Front y G E → Front (x ++ y) (λ more t. F (λ u. G more u) t) E
front_on {x = x} {y = y} {G = G} f l g = record {
  by = λ t m h e more.
      let two = split x y t m h in
      f.by t two.middle two.front (l.by two.middle m two.back e) (λ u. G more u) ∙ g.by two.middle m two.back e more;
}

pub last : {x y : List Piece} {F : (List Seen → Way) → List Seen → Way} {q : List Seen → Way} {E S : List Seen → Type 0}
    → Front x F E → Leads y S E → Takes y q S → Takes (x ++ y) (λ t. F (λ u. q u) t) S
last {x = x} {y = y} {q = q} f l g = record {
  by = λ t r h s.
      let two = split x y t r h in
      f.by t two.middle two.front (l.by two.middle r two.back s) (λ u. q u) ∙ g.by two.middle r two.back s;
}

-- where any tokens may stand behind the first
anything : {y : List Piece} {S : List Seen → Type 0} → Leads y S Any
anything = record { by = λ t r h s. tt }

pub front_next : {x y : List Piece} {F G : (List Seen → Way) → List Seen → Way} {E : List Seen → Type 0} → Front x F Any
    → Front y G E → Front (x ++ y) (λ more t. F (λ u. G more u) t) E
front_next f g = front_on f anything g

pub last_next : {x y : List Piece} {F : (List Seen → Way) → List Seen → Way} {q : List Seen → Way}
    {S : List Seen → Type 0} → Front x F Any → Takes y q S → Takes (x ++ y) (λ t. F (λ u. q u) t) S
last_next f g = last f anything g

-- and nothing behind
pub alone_takes : {x : List Piece} {p q : List Seen → Way} {E : List Seen → Type 0} → Takes x p Any → Takes [] q E
    → Takes x (λ t. and_then (p t) (λ u. q u)) E
alone_takes {p = p} {q = q} f g =
    record { by = λ t r h s. and_then_some (p t) r (λ u. q u) (f.by t r h tt) ∙ g.by r r (reads_nothing r) s }

pub takes_under : {x : List Piece} {p : List Seen → Way} {E S : List Seen → Type 0} → ((t : List Seen) → S t → E t)
    → Takes x p E → Takes x p S
takes_under f p = record { by = λ t r h s. p.by t r h (f r s) }

pub takes_any : {x : List Piece} {p : List Seen → Way} {S : List Seen → Type 0} → Takes x p Any → Takes x p S
takes_any p = takes_under (λ t s. tt) p

pub takes_none : {S : List Seen → Type 0} → Takes [] (λ t. Some t) S
takes_none = record { by = λ t r h s. ap Some (reads_none h) }

-- ---- tests of what is next

-- the pieces in front make the test come out so
pub record Shows (x : List Piece) (S : List Seen → Type 0) (test : List Seen → Bool) (value : Bool) : Type 0 where
  pub by : (t r : List Seen) → Reads x t r → S r → test t ≡ value

pub shows_none : {test : List Seen → Bool} {v : Bool} {S : List Seen → Type 0} → ((t : List Seen) → S t → test t ≡ v)
    → Shows [] S test v
shows_none {test = test} {v = v} f = record { by = λ t r h s. subst (λ z. test z ≡ v) (sym (reads_none h)) (f r s) }

pub shows_so : {x : List Piece} {test : List Seen → Bool} {v w : Bool} {S : List Seen → Type 0} → v ≡ w
    → Shows x S test v → Shows x S test w
shows_so e f = record { by = λ t r h s. f.by t r h s ∙ e }

pub shows_first : {x : List Piece} (y : List Piece) {test : List Seen → Bool} {v : Bool} {S : List Seen → Type 0}
    → Shows x Any test v → Shows (x ++ y) S test v
shows_first {x = x} y f = record { by = λ t r h s. let two = split x y t r h in f.by t two.middle two.front tt }

pub sees_begins : (k : Kind) (text : List ℕ) (t : List Seen) → sees k text t ≡ true → begins t ≡ number_of k text
unfolding sees begins
sees_begins k text [] h = absurd (cc)
sees_begins k text (t ∷ ts) h =
    let parts = and_parts (nat_eq (kind_code k) (kind_code t.kind)) (bytes_eq text t.text) h in
    ap (λ z. number_of z t.text) (sym (same_kind k t.kind parts.0))
    ∙ ap (number_of k) (sym ((bytes_eq-Decides text t.text).0 parts.1))

unseen_by : (k : Kind) (text : List ℕ) (t : List Seen) (b : Bool) → sees k text t ≡ b
    → (begins t ≡ number_of k text → ⊥) → sees k text t ≡ false
unseen_by k text t true e h = absurd (h (sees_begins k text t e))
unseen_by k text t false e h = e

pub unseen : (k : Kind) (text : List ℕ) (ms : List ℕ) (t : List Seen) → is_in ms (number_of k text) ≡ false → Among ms t
    → sees k text t ≡ false
unseen k text ms t h a =
    unseen_by k text t (sees k text t) refl (λ e. let no : is_in ms (begins t) ≡ false = ap (is_in ms) e ∙ h in
    let yes' = a.is in cc)

pub avoided : (k : Kind) (text : List ℕ) (ns : List ℕ) (t : List Seen) → is_in ns (number_of k text) ≡ true
    → Avoids ns t → sees k text t ≡ false
avoided k text ns t h a =
    unseen_by k text t (sees k text t) refl (λ e. let yes' : is_in ns (begins t) ≡ true = ap (is_in ns) e ∙ h in
    let no = a.is in cc)

pub shown_by : {x : List Piece} {ms : List ℕ} {test : List Seen → Bool} {v : Bool} {S : List Seen → Type 0}
    → Leads x S (Among ms) → ((t : List Seen) → Among ms t → test t ≡ v) → Shows x S test v
shown_by f h = record { by = λ t r a s. h t (f.by t r a s) }

pub hides : (k : Kind) (text : List ℕ) {x : List Piece} {ms : List ℕ} {S : List Seen → Type 0}
    → is_in ms (number_of k text) ≡ false → Leads x S (Among ms) → Shows x S (λ t. sees k text t) false
hides k text {ms = ms} h f = record { by = λ t r a s. unseen k text ms t h (f.by t r a s) }

text_begins : (t : List Seen) → sees_kind TextLit t ≡ true → begins t ≡ 54
unfolding sees_kind begins
text_begins [] h = absurd (cc)
text_begins (t ∷ ts) h = ap (λ k. number_of k t.text) (sym (same_kind TextLit t.kind h))

text_by : (ns : List ℕ) (t : List Seen) (b : Bool) → is_in ns 54 ≡ true → is_in ns (begins t) ≡ false
    → sees_kind TextLit t ≡ b → b ≡ false
text_by ns t true h k e = let here : is_in ns (begins t) ≡ is_in ns 54 = ap (is_in ns) (text_begins t e) in cc
text_by ns t false h k e = refl

pub unseen_text : (ns : List ℕ) (t : List Seen) → is_in ns 54 ≡ true → Avoids ns t → sees_kind TextLit t ≡ false
unseen_text ns t h a = text_by ns t (sees_kind TextLit t) h a.is refl

-- ---- choices

pub where_on : (b : Bool) (on off : Way) → b ≡ true → where_seen b on off ≡ on
unfolding where_seen
where_on b on off e = ap (λ c. where_seen c on off) e

pub where_off : (b : Bool) (on off : Way) → b ≡ false → where_seen b on off ≡ off
unfolding where_seen
where_off b on off e = ap (λ c. where_seen c on off) e

pub choose : {x : List Piece} {S : List Seen → Type 0} {test : List Seen → Bool} {p : List Seen → Way}
    (q : List Seen → Way) → Shows x S test true → Takes x p S → Takes x (λ t. where_seen (test t) (p t) (q t)) S
choose {test = test} {p = p} q b f =
    record { by = λ t r h s. where_on (test t) (p t) (q t) (b.by t r h s) ∙ f.by t r h s }

pub pass : {x : List Piece} {S : List Seen → Type 0} {test : List Seen → Bool} {q : List Seen → Way}
    (p : List Seen → Way) → Shows x S test false → Takes x q S → Takes x (λ t. where_seen (test t) (p t) (q t)) S
pass {test = test} {q = q} p b f =
    record { by = λ t r h s. where_off (test t) (p t) (q t) (b.by t r h s) ∙ f.by t r h s }

or_true : (a b : Bool) → b ≡ true → (a || b) ≡ true
or_true true b e = refl
or_true false b e = e

pub or_false : (a b : Bool) → a ≡ false → b ≡ false → (a || b) ≡ false
or_false true b e f = absurd (cc)
or_false false b e f = f

pub shows_left : {x : List Piece} {test : List Seen → Bool} {S : List Seen → Type 0} (other : List Seen → Bool)
    → Shows x S test true → Shows x S (λ t. test t || other t) true
shows_left other f = record { by = λ t r h s. ap (λ b. b || other t) (f.by t r h s) }

pub shows_right : {x : List Piece} {test : List Seen → Bool} {S : List Seen → Type 0} (other : List Seen → Bool)
    → Shows x S test true → Shows x S (λ t. other t || test t) true
shows_right other f = record { by = λ t r h s. or_true (other t) _ (f.by t r h s) }

pub shows_neither : {x : List Piece} {one other : List Seen → Bool} {S : List Seen → Type 0} → Shows x S one false
    → Shows x S other false → Shows x S (λ t. one t || other t) false
shows_neither f g = record { by = λ t r h s. or_false _ _ (f.by t r h s) (g.by t r h s) }

-- ---- single tokens

both : {a b : Bool} → a ≡ true → b ≡ true → (a && b) ≡ true
both {a = true} e f = f
both {a = false} e f = absurd cc

kind_is : (p : Piece) (t r : List Seen) → First p t r → sees_kind p.kind t ≡ true
unfolding sees_kind
kind_is p t r f = ap (sees_kind p.kind) f.is
    ∙ (Decides-eqb (kind_code p.kind) (kind_code f.token.kind)).1 (ap kind_code f.kind)

sees_is : (p : Piece) (t r : List Seen) → First p t r → sees p.kind p.text t ≡ true
unfolding sees
sees_is p t r f =
    ap (sees p.kind p.text) f.is
    ∙ both ((Decides-eqb (kind_code p.kind) (kind_code f.token.kind)).1 (ap kind_code f.kind))
    ((bytes_eq-Decides p.text f.token.text).1 f.text)

behind_is : (p : Piece) (t r : List Seen) → First p t r → behind_next t ≡ Some r
unfolding behind_next
behind_is p t r f = ap behind_next f.is

only : (b : Bool) (o : Way) (r : List Seen) → b ≡ true → o ≡ Some r → only_if b o ≡ Some r
unfolding only_if
only b o r e h = ap (λ c. only_if c o) e ∙ h

pub piece_takes : (k : Kind) (text : List ℕ) {S : List Seen → Type 0} → Takes (piece k text) (λ t. taken k text t) S
piece_takes k text = record {
  by = λ t r h s. let f = piece_first k text t r h in
      only _ _ r (sees_is _ t r f) (behind_is _ t r f);
}

pub piece_shows : (k : Kind) (text : List ℕ) {S : List Seen → Type 0} → Shows (piece k text) S (λ t. sees k text t) true
piece_shows k text = record { by = λ t r h s. sees_is _ t r (piece_first k text t r h) }

pub kept_takes : (k : Kind) (text : List ℕ) (l : Leaf) {S : List Seen → Type 0}
    → Takes (kept k text l) (λ t. taken k text t) S
kept_takes k text l = record {
  by = λ t r h s. let f = kept_first k text l t r h in
      only _ _ r (sees_is _ t r f) (behind_is _ t r f);
}

pub kept_behind : (k : Kind) (text : List ℕ) (l : Leaf) {S : List Seen → Type 0}
    → Takes (kept k text l) (λ t. behind_next t) S
kept_behind k text l = record { by = λ t r h s. behind_is _ t r (kept_first k text l t r h) }

pub kept_shows : (k : Kind) (text : List ℕ) (l : Leaf) {S : List Seen → Type 0}
    → Shows (kept k text l) S (λ t. sees k text t) true
kept_shows k text l = record { by = λ t r h s. sees_is _ t r (kept_first k text l t r h) }

pub leaf_takes : (k : Kind) (l : Leaf) {S : List Seen → Type 0} → Takes (leaf k l) (λ t. taken_kind k t) S
leaf_takes k l = record {
  by = λ t r h s. let f = kept_first k _ l t r h in
      only _ _ r (kind_is _ t r f) (behind_is _ t r f);
}

pub leaf_shows : (k : Kind) (l : Leaf) {S : List Seen → Type 0} → Shows (leaf k l) S (λ t. sees_kind k t) true
leaf_shows k l = record { by = λ t r h s. kind_is _ t r (kept_first k _ l t r h) }

kind_shown : (p : Piece) (k : Kind) (t r : List Seen) → First p t r
    → sees_kind k t ≡ nat_eq (kind_code k) (kind_code p.kind)
unfolding sees_kind
kind_shown p k t r f = ap (sees_kind k) f.is ∙ ap (λ z. nat_eq (kind_code k) (kind_code z)) (sym f.kind)

pub kept_kind : (k : Kind) (text : List ℕ) (l : Leaf) (other : Kind) {S : List Seen → Type 0}
    → Shows (kept k text l) S (λ t. sees_kind other t) (nat_eq (kind_code other) (kind_code k))
kept_kind k text l other = record { by = λ t r h s. kind_shown _ other t r (kept_first k text l t r h) }

pub touching_seen : (text : List ℕ) (t r : List Seen) → Reads (touching text) t r → sees_touching text t ≡ true
unfolding sees_touching
touching_seen text t r h =
    let f = touching_first text t r h in
    ap (sees_touching text) f.is
    ∙ both (both ((Decides-eqb (kind_code Punct) (kind_code f.token.kind)).1 (ap kind_code f.kind))
    ((bytes_eq-Decides text f.token.text).1 f.text))
    (touching_touches text t r f.token r f.is h)

pub touching_takes : (text : List ℕ) {S : List Seen → Type 0} → Takes (touching text) (λ t. taken_touching text t) S
touching_takes text = record {
  by =
      λ t r h s. only _ _ r (touching_seen text t r h) (behind_is _ t r (touching_first text t r h));
}

-- ---- lengths

pub reads_length : (x : List Piece) (t r : List Seen) → Reads x t r → length t ≡ length x + length r
reads_length [] t r h = let e = reads_none h in ap length e ∙ omega arith
reads_length (p ∷ ps) t r h =
    let two = split (p ∷ []) ps t r h in
    let f = one_first p t two.middle two.front in
    let more = reads_length ps two.middle r two.back in
    let e : length t ≡ length (f.token ∷ two.middle) = ap length f.is in
    omega (arith, e, more)

empty_begins : (ms : List ℕ) → is_in ms 0 ≡ false → Leads [] Any (Among ms) → ⊥
unfolding begins past
empty_begins ms h f = let yes' : is_in ms 0 ≡ true = (f.by [] [] (record { is = refl }) tt).is in cc

some_pieces : (x : List Piece) (ms : List ℕ) → is_in ms 0 ≡ false → Leads x Any (Among ms) → 0 < length x
some_pieces [] ms h f = absurd (empty_begins ms h f)
some_pieces (p ∷ ps) ms h f = omega arith

pub shorter_left : {x : List Piece} {ms : List ℕ} → is_in ms 0 ≡ false → Leads x Any (Among ms) → (t r : List Seen)
    → Reads x t r → length r < length t
shorter_left {x = x} {ms = ms} h f t r a = omega (arith, reads_length x t r a, some_pieces x ms h f)

-- ---- parts one behind another

pub goes_no : (goes : List Seen → Bool) (one : List Seen → Way) (fuel t : List Seen) → goes t ≡ false
    → repeated goes one fuel t ≡ Some t
unfolding repeated
goes_no goes one [] t h = where_off _ _ _ h
goes_no goes one (f ∷ fuel) t h = where_off _ _ _ h

pub goes_yes : (goes : List Seen → Bool) (one : List Seen → Way) (fuel t m r : List Seen) → goes t ≡ true
    → one t ≡ Some m → length m < length t → length t ≤ length fuel
    → ((rest : List Seen) → length m ≤ length rest → repeated goes one rest m ≡ Some r)
    → repeated goes one fuel t ≡ Some r
unfolding repeated
goes_yes goes one [] t m r h e lt le more = absurd (omega arith)
goes_yes goes one (f ∷ fuel) t m r h e lt le more = where_on _ _ _ h
    ∙ and_then_some (one t) m (λ u. repeated goes one fuel u) e ∙ more fuel (omega arith)

-- parts of which each has no more levels than there is room for
pub record Repeats {T : Type 0} (f : T → List Piece) (levels : T → ℕ) (room : ℕ) (goes : List Seen → Bool)
    (one : List Seen → Way) (ms : List ℕ) (E S : List Seen → Type 0) : Type 0 where
  pub takes : (x : T) → levels x ≤ room → Takes (f x) one E
  pub shows : (x : T) → Shows (f x) Any goes true
  pub first : (x : T) → Leads (f x) Any (Among ms)
  pub some : is_in ms 0 ≡ false
  pub more : (t : List Seen) → Among ms t → E t
  pub end : (t : List Seen) → S t → E t
  pub none : (t : List Seen) → S t → goes t ≡ false

pub repeats_lead : {T : Type 0} {f : T → List Piece} {levels : T → ℕ} {room : ℕ} {goes : List Seen → Bool}
    {one : List Seen → Way} {ms : List ℕ} {E S : List Seen → Type 0}
    → Repeats f levels room goes one ms E S → (xs : List T) → Leads (flat_map f xs) S E
repeats_lead row [] = leads_to row.end leads_none
repeats_lead row (x ∷ xs) = leads_first _ (leads_to row.more (row.first x))

repeats_by : {T : Type 0} {f : T → List Piece} {levels : T → ℕ} {room : ℕ} {goes : List Seen → Bool}
    {one : List Seen → Way} {ms : List ℕ} {E S : List Seen → Type 0}
    → Repeats f levels room goes one ms E S → (xs : List T) → highest levels xs ≤ room → (fuel t r : List Seen)
    → Reads (flat_map f xs) t r → S r → length t ≤ length fuel → repeated goes one fuel t ≡ Some r
repeats_by {goes = goes} {one = one} row [] few fuel t r h s le =
    goes_no goes one fuel t (subst (λ z. goes z ≡ false) (sym (reads_none h)) (row.none r s)) ∙ ap Some (reads_none h)
repeats_by {f = f} {goes = goes} {one = one} row (x ∷ xs) few fuel t r h s le =
    let two = split (f x) (flat_map f xs) t r h in
    let m = two.middle in
    let here = (row.takes x (omega arith)).by t m two.front ((repeats_lead row xs).by m r two.back s) in
    goes_yes goes one fuel t m r ((row.shows x).by t m two.front tt) here
    (shorter_left row.some (row.first x) t m two.front) le
    (λ (rest : List Seen) (lt : length m ≤ length rest). repeats_by row xs (omega arith) rest m r two.back s lt)

pub takes_repeated : {T : Type 0} {f : T → List Piece} {levels : T → ℕ} {room : ℕ} {goes : List Seen → Bool}
    {one : List Seen → Way} {ms : List ℕ} {E S : List Seen → Type 0}
    → Repeats f levels room goes one ms E S → (xs : List T) → highest levels xs ≤ room
    → Takes (flat_map f xs) (λ t. repeated goes one t t) S
takes_repeated row xs few = record { by = λ t r h s. repeats_by row xs few t t r h s (omega arith) }

pub none_high : {T : Type 0} (xs : List T) → highest (λ _. 0) xs ≤ 0
none_high [] = omega arith
none_high (x ∷ xs) = omega (arith, none_high xs)

-- ---- lists with commas

pub record Listings {T : Type 0} (f : T → List Piece) (levels : T → ℕ) (room : ℕ) (part : List Seen → Way)
    (E S : List Seen → Type 0) : Type 0 where
  pub takes : (x : T) → levels x ≤ room → Takes (f x) part E
  pub more : (t : List Seen) → Among (71 ∷ []) t → E t
  pub end : (t : List Seen) → S t → E t
  pub none : (t : List Seen) → S t → Avoids (71 ∷ []) t

commas_repeat : {T : Type 0} {f : T → List Piece} {levels : T → ℕ} {room : ℕ} {part : List Seen → Way}
    {E S : List Seen → Type 0} → Listings f levels room part E S
    → Repeats (λ x. mark (codes ",") ++ f x) levels room (sees_mark (codes ","))
    (λ u. and_then (mark_taken (codes ",") u) (λ v. part v)) (71 ∷ []) E S
commas_repeat list = record {
  takes = λ x few. last_next (front (piece_takes Punct (codes ","))) (list.takes x few);
  shows = λ x. shows_first _ (piece_shows Punct (codes ","));
  first = λ x. leads_first _ (piece_among Punct (codes ",") _ refl);
  some = refl;
  more = list.more;
  end = list.end;
  none = λ t s. avoided Punct (codes ",") (71 ∷ []) t refl (list.none t s);
}

pub takes_listed : {T : Type 0} {f : T → List Piece} {levels : T → ℕ} {room : ℕ} {part : List Seen → Way}
    {E S : List Seen → Type 0} → Listings f levels room part E S
    → (l : Listed T) → highest_listed levels l ≤ room → Takes (listed f l) (λ t. listed_way part t) S
takes_listed list l few =
    let row = commas_repeat list in
    last (front (list.takes l.first (omega arith))) (repeats_lead row l.rest.items)
    (takes_repeated row l.rest.items (omega arith))

pub takes_rest : {T : Type 0} {f : T → List Piece} {levels : T → ℕ} {room : ℕ} {part : List Seen → Way}
    {E S : List Seen → Type 0} → Listings f levels room part E S
    → (xs : List T) → highest levels xs ≤ room
    → Takes (flat_map (λ x. mark (codes ",") ++ f x) xs) (λ t. rest_way part t) S
takes_rest list xs few = takes_repeated (commas_repeat list) xs few

pragma_begins : (t : List Seen) → sees_kind Pragma t ≡ true → begins t ≡ 32
unfolding sees_kind begins
pragma_begins [] h = absurd (cc)
pragma_begins (t ∷ ts) h = ap (λ k. number_of k t.text) (sym (same_kind Pragma t.kind h))

pragma_by : (ms : List ℕ) (t : List Seen) (b : Bool) → is_in ms 32 ≡ false → is_in ms (begins t) ≡ true
    → sees_kind Pragma t ≡ b → b ≡ false
pragma_by ms t true h k e = let here : is_in ms (begins t) ≡ is_in ms 32 = ap (is_in ms) (pragma_begins t e) in cc
pragma_by ms t false h k e = refl

pub no_pragma : (ms : List ℕ) (t : List Seen) → is_in ms 32 ≡ false → Among ms t → sees_kind Pragma t ≡ false
no_pragma ms t h a = pragma_by ms t (sees_kind Pragma t) h a.is refl
