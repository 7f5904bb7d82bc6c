-- No two types, exceptions and frames of a file have one name.
use Rattle.std.proofs.Common.{◌≡◌, ◌≢◌, ◌∙◌, ◌<◌, ◌≤◌, ◌+◌, ℕ, zero, suc, true, List, [], ◌∷◌, ◌++◌, length, slice_get, Option, Some, None, append_assoc, refl, sym, ap, subst, arith}
use Rattle.std.specs.List.{AllByRecursion, flat_map, list_all, range_with_len}
use Rattle.std.proofs.lemmas.Bool.{and_from}
use Rattle.std.proofs.lemmas.List.Elements.{All-from_recursion}
use Rattle.std.proofs.lemmas.List.Folds.{list_all-append}
use Rattle.std.proofs.lemmas.List.Kept.{AllPairs-cons}
use Rattle.idl_lexer.specs.Octets.{is_word}
use Rattle.type_model.specs.Names.{AreDistinct}
use Rattle.name_table.specs.Entry.{Entry, around, name_in, named, scope_in}
use Rattle.scoped_names.specs.RepositoryIds.{names_to}
use Rattle.scoped_names.proofs.Introducing.{all_map}
use Rattle.lowered_types.specs.declared.place.Place.{Place}
use Rattle.lowered_types.specs.declared.place.Place.TheVariants.{Typed, Raised, Called, Got, GotAndSet}
use Rattle.lowered_types.specs.Lowered.{Lowered, place_of}
use Rattle.lowered_operations.specs.declared.signature.Role.{Role}
use Rattle.lowered_operations.specs.declared.signature.Role.TheVariants.{Operation, Getting, Setting}
use Rattle.model_builder.specs.Naming.{called, mark_of, marked, names_at, names_of, names_of_place, scopes_of, with_colons}
use Rattle.model_builder.proofs.EntryWords.{AreProper, IsNameWord}
use Rattle.model_builder.proofs.Joined.{IsFree, Ending, Bare, Request, Reply, colons_apart, ending, ending_colons, endings_apart, free_both, mark_word, marks_apart, word_colons, word_slashes}

-- ---- entries

entry_there : (es : List Entry) (k : ℕ) → k < length es → (x : Entry) × (slice_get es k ≡ Some x)
entry_there [] k lt = absurd (omega arith)
entry_there (y ∷ ys) zero lt = (y, refl)
entry_there (y ∷ ys) (suc k) lt = entry_there ys k (omega arith)

around_low : (es : List Entry) → AreProper es → (e : ℕ) → around es (suc e) ≤ e
around_low es proper e = by (slice_get es e) refl
  where
    by : (o : Option Entry) → slice_get es e ≡ o → scope_in o ≤ e
    by None h = omega arith
    by (Some x) h = proper.nested e x h

-- one name in one scope is one entry
same_entry : (es : List Entry) → AreProper es → (e f : ℕ) → e < length es → f < length es
    → around es (suc e) ≡ around es (suc f)
    → name_in (slice_get es e) ≡ name_in (slice_get es f) → e ≡ f
same_entry es proper e f low low' scopes names =
    let (x, at) = entry_there es e low in
    let (y, there) = entry_there es f low' in
    let scoped : x.scope ≡ y.scope = sym (ap scope_in at) ∙ scopes ∙ ap scope_in there in
    let called_so : x.name ≡ y.name = sym (ap name_in at) ∙ names ∙ ap name_in there in
    let both : Some e ≡ Some f =
    sym (proper.own e x at) ∙ ap (λ s. named es s x.name) scoped ∙ ap (named es y.scope) called_so
    ∙ proper.own f y there in
    cc

last_apart : {X : Type 0} (xs ys : List X) (a b : X) → xs ++ a ∷ [] ≡ ys ++ b ∷ [] → (xs ≡ ys) × (a ≡ b)
last_apart [] [] a b h = (refl, cc)
last_apart [] (y ∷ []) a b h = absurd cc
last_apart [] (y ∷ z ∷ ys) a b h = absurd cc
last_apart (x ∷ []) [] a b h = absurd cc
last_apart (x ∷ z ∷ xs) [] a b h = absurd cc
last_apart (x ∷ xs) (y ∷ ys) a b h =
    let head : x ≡ y = cc in
    let tail : xs ++ a ∷ [] ≡ ys ++ b ∷ [] = cc in
    let (same, last) = last_apart xs ys a b tail in
    (ap (λ z. z ∷ xs) head ∙ ap (λ zs. y ∷ zs) same, last)

none_last : {X : Type 0} (xs : List X) (a : X) → xs ++ a ∷ [] ≡ [] → ⊥
none_last [] a h = absurd cc
none_last (x ∷ xs) a h = absurd cc

-- the names of scopes are one only where the scopes are
same_scope : (es : List Entry) → AreProper es → (k j s t : ℕ) → s ≤ k → t ≤ j → s ≤ length es → t ≤ length es
    → names_to es k s ≡ names_to es j t → s ≡ t
same_scope es proper k j zero zero a b c d h = refl
same_scope es proper zero j (suc e) t a b c d h = absurd (omega arith)
same_scope es proper k zero s (suc f) a b c d h = absurd (omega arith)
same_scope es proper zero (suc j) zero (suc f) a b c d h =
    absurd (none_last (names_to es j (around es (suc f))) (name_in (slice_get es f)) (sym h))
same_scope es proper (suc k) (suc j) zero (suc f) a b c d h =
    absurd (none_last (names_to es j (around es (suc f))) (name_in (slice_get es f)) (sym h))
same_scope es proper (suc k) zero (suc e) zero a b c d h =
    absurd (none_last (names_to es k (around es (suc e))) (name_in (slice_get es e)) h)
same_scope es proper (suc k) (suc j) (suc e) zero a b c d h =
    absurd (none_last (names_to es k (around es (suc e))) (name_in (slice_get es e)) h)
same_scope es proper (suc k) (suc j) (suc e) (suc f) a b c d h =
    let (outer, last) = last_apart (names_to es k (around es (suc e))) (names_to es j (around es (suc f)))
    (name_in (slice_get es e)) (name_in (slice_get es f)) h in
    let low = around_low es proper e in
    let low' = around_low es proper f in
    let scopes = same_scope es proper k j (around es (suc e)) (around es (suc f)) (omega arith) (omega arith)
    (omega arith) (omega arith) outer in
    ap suc (same_entry es proper e f (omega arith) (omega arith) scopes last)

-- ---- names

name_of_word : (es : List Entry) → AreProper es → (e : ℕ) → list_all is_word (name_in (slice_get es e)) ≡ true
name_of_word es proper e = by (slice_get es e) refl
  where
    by : (o : Option Entry) → slice_get es e ≡ o → list_all is_word (name_in o) ≡ true
    by None h = refl
    by (Some x) h = let w = proper.words e x h in w.word

name_of_letter : (es : List Entry) → AreProper es → (e : ℕ) → e < length es → IsNameWord (name_in (slice_get es e))
name_of_letter es proper e lt =
    let (x, at) = entry_there es e lt in subst IsNameWord (sym (ap name_in at)) (proper.words e x at)

scopes_free : (es : List Entry) → AreProper es → (k s : ℕ) → AllByRecursion (IsFree 58) (names_to es k s)
scopes_free es proper zero s = tt
scopes_free es proper (suc k) zero = tt
scopes_free es proper (suc k) (suc e) =
    both_free (names_to es k (around es (suc e))) (name_in (slice_get es e))
    (scopes_free es proper k (around es (suc e)))
    (word_colons (name_in (slice_get es e)) (name_of_word es proper e))
  where
    both_free : (ns : List (List ℕ)) (n : List ℕ) → AllByRecursion (IsFree 58) ns → IsFree 58 n
        → AllByRecursion (IsFree 58) (ns ++ n ∷ [])
    both_free [] n h k = (k, tt)
    both_free (m ∷ ms) n h k = (h.0, both_free ms n h.1 k)

marked_word : (es : List Entry) → AreProper es → (r : Role) (e : ℕ) → list_all is_word (marked es (mark_of r) e) ≡ true
marked_word es proper r e =
    list_all-append is_word (mark_of r) (name_in (slice_get es e))
    ∙ and_from (list_all is_word (mark_of r)) (list_all is_word (name_in (slice_get es e))) (mark_word r)
    (name_of_word es proper e)

-- what is behind the names of the scopes
tail_free : (es : List Entry) → AreProper es → (r : Role) (e : ℕ) (x : Ending)
    → IsFree 58 (marked es (mark_of r) e ++ ending x)
tail_free es proper r e x =
    free_both 58 (marked es (mark_of r) e) (ending x)
    (word_colons (marked es (mark_of r) e) (marked_word es proper r e)) (ending_colons x)

record IsSame (r s : Role) (e f : ℕ) (x y : Ending) : Type 0 where
  role : r ≡ s
  entry : e ≡ f
  ending : x ≡ y

same_called : (es : List Entry) → AreProper es → (r s : Role) (e f : ℕ) (x y : Ending) → e < length es → f < length es
    → called es (mark_of r) e (ending x) ≡ called es (mark_of s) f (ending y) → IsSame r s e f x y
same_called es proper r s e f x y low low' h =
    let one = append_assoc (with_colons (scopes_of es e)) (marked es (mark_of r) e) (ending x) in
    let other = append_assoc (with_colons (scopes_of es f)) (marked es (mark_of s) f) (ending y) in
    let (scopes, tails) = colons_apart (scopes_of es e) (scopes_of es f) (marked es (mark_of r) e ++ ending x)
    (marked es (mark_of s) f ++ ending y)
    (scopes_free es proper e (around es (suc e))) (scopes_free es proper f (around es (suc f)))
    (tail_free es proper r e x) (tail_free es proper s f y) (sym one ∙ h ∙ other) in
    let (texts, ends) = endings_apart (marked es (mark_of r) e) (marked es (mark_of s) f) x y
    (word_slashes (marked es (mark_of r) e) (marked_word es proper r e))
    (word_slashes (marked es (mark_of s) f) (marked_word es proper s f)) tails in
    let first = name_of_letter es proper e low in
    let second = name_of_letter es proper f low' in
    let (names, roles) = marks_apart (name_in (slice_get es e)) (name_in (slice_get es f)) r s first.letter
    second.letter texts in
    let below = around_low es proper e in
    let below' = around_low es proper f in
    let around_same = same_scope es proper e f (around es (suc e)) (around es (suc f)) below below' (omega arith)
    (omega arith) scopes in
    record { role = roles; entry = same_entry es proper e f low low' around_same names; ending = ends }

-- ---- the names of an entry

abbrev IsCalled : List Entry → ℕ → List ℕ × ℕ → Type 0
IsCalled es e n = (r : Role) × (x : Ending) × (n.0 ≡ called es (mark_of r) e (ending x))

place_called : (es : List Entry) (e : ℕ) (p : Option Place) → AllByRecursion (IsCalled es e) (names_of_place es e p)
place_called es e None = tt
place_called es e (Some (Typed n)) = ((Operation, Bare, refl), tt)
place_called es e (Some (Raised frame place)) = ((Operation, Bare, refl), tt)
place_called es e (Some (Called request)) = ((Operation, Request, refl), ((Operation, Reply, refl), tt))
place_called es e (Some (Got request)) = ((Getting, Request, refl), ((Getting, Reply, refl), tt))
place_called es e (Some (GotAndSet request)) =
    ((Getting, Request, refl), ((Getting, Reply, refl), ((Setting, Request, refl), ((Setting, Reply, refl), tt))))

-- each of the names differs from those behind it
abbrev Apart : List (List ℕ × ℕ) → Type 0
Apart [] = Unit {0}
Apart (n ∷ ns) = AllByRecursion (λ m. n.0 ≢ m.0) ns × Apart ns

other_ending : (es : List Entry) → AreProper es → (r : Role) (e : ℕ) → e < length es
    → called es (mark_of r) e (ending Request) ≢ called es (mark_of r) e (ending Reply)
other_ending es proper r e lt h = let same = same_called es proper r r e e Request Reply lt lt h in no_reply same.ending
  where
    no_reply : Request ≡ Reply → ⊥
    no_reply is = absurd cc

other_role : (es : List Entry) → AreProper es → (e : ℕ) (x y : Ending) → e < length es
    → called es (mark_of Getting) e (ending x) ≢ called es (mark_of Setting) e (ending y)
other_role es proper e x y lt h = let same = same_called es proper Getting Setting e e x y lt lt h in
    no_setting same.role
  where
    no_setting : Getting ≡ Setting → ⊥
    no_setting is = absurd cc

place_apart : (es : List Entry) → AreProper es → (e : ℕ) → e < length es → (p : Option Place)
    → Apart (names_of_place es e p)
place_apart es proper e lt None = tt
place_apart es proper e lt (Some (Typed n)) = (tt, tt)
place_apart es proper e lt (Some (Raised frame place)) = (tt, tt)
place_apart es proper e lt (Some (Called request)) = ((other_ending es proper Operation e lt, tt), (tt, tt))
place_apart es proper e lt (Some (Got request)) = ((other_ending es proper Getting e lt, tt), (tt, tt))
place_apart es proper e lt (Some (GotAndSet request)) =
    let role : (x y : Ending) → called es (mark_of Getting) e (ending x) ≢ called es (mark_of Setting) e (ending y) =
    λ x y. other_role es proper e x y lt in (
      (other_ending es proper Getting e lt, (role Request Request, (role Request Reply, tt))),
      ((role Reply Request, (role Reply Reply, tt)), ((other_ending es proper Setting e lt, tt), (tt, tt))),
    )

-- ---- the names of all

-- of an entry from this one on
abbrev IsCalledFrom : List Entry → ℕ → List ℕ × ℕ → Type 0
IsCalledFrom es k n = (e : ℕ) × (k ≤ e) × (e < length es) × IsCalled es e n

apart_both : (ns ms : List (List ℕ × ℕ)) → Apart ns → Apart ms
    → AllByRecursion (λ n. AllByRecursion (λ m. n.0 ≢ m.0) ms) ns → Apart (ns ++ ms)
apart_both [] ms h k across = k
apart_both (n ∷ ns) ms h k across = (all_both (λ m. n.0 ≢ m.0) ns ms h.0 across.0, apart_both ns ms h.1 k across.1)
  where
    all_both : {X : Type 0} (P : X → Type 0) (xs ys : List X) → AllByRecursion P xs → AllByRecursion P ys
        → AllByRecursion P (xs ++ ys)
    all_both P [] ys h k = k
    all_both P (x ∷ xs) ys h k = (h.0, all_both P xs ys h.1 k)

both_called : (es : List Entry) (k : ℕ) (ns ms : List (List ℕ × ℕ)) → AllByRecursion (IsCalledFrom es k) ns
    → AllByRecursion (IsCalledFrom es k) ms
    → AllByRecursion (IsCalledFrom es k) (ns ++ ms)
both_called es k [] ms h g = g
both_called es k (n ∷ ns) ms h g = (h.0, both_called es k ns ms h.1 g)

rest_called : (es : List Entry) (w : Lowered) (k n : ℕ) → k + n ≤ length es
    → AllByRecursion (IsCalledFrom es k) (flat_map (names_at es w) (range_with_len k n))
rest_called es w k zero le = tt
rest_called es w k (suc n) le =
    let own : (x : List ℕ × ℕ) → IsCalled es k x → IsCalledFrom es k x = λ x c. (k, omega arith, omega arith, c) in
    let later : (x : List ℕ × ℕ) → IsCalledFrom es (k + 1) x → IsCalledFrom es k x =
    λ x c. (c.0, omega (arith, c.1), c.2, c.3) in
    both_called es k (names_at es w k) (flat_map (names_at es w) (range_with_len (k + 1) n))
    (all_map (IsCalled es k) (IsCalledFrom es k) own (names_at es w k) (place_called es k (place_of w k)))
    (all_map (IsCalledFrom es (k + 1)) (IsCalledFrom es k) later (flat_map (names_at es w) (range_with_len (k + 1) n))
    (rest_called es w (k + 1) n (omega arith)))

-- a name of an entry isn't that of a later one
later_apart : (es : List Entry) → AreProper es → (k : ℕ) → k < length es → (n m : List ℕ × ℕ) → IsCalled es k n
    → IsCalledFrom es (k + 1) m → n.0 ≢ m.0
later_apart es proper k lt n m (r, x, is) (e, le, low, (s, y, there)) h =
    let same = same_called es proper r s k e x y lt low (sym is ∙ h ∙ there) in
    let number = same.entry in
    omega (arith, number, le)

apart_from : (es : List Entry) → AreProper es → (w : Lowered) (k n : ℕ) → k + n ≤ length es
    → Apart (flat_map (names_at es w) (range_with_len k n))
apart_from es proper w k zero le = tt
apart_from es proper w k (suc n) le =
    let rest = flat_map (names_at es w) (range_with_len (k + 1) n) in
    let behind = rest_called es w (k + 1) n (omega arith) in
    let lt : k < length es = omega arith in
    apart_both (names_at es w k) rest (place_apart es proper k lt (place_of w k))
    (apart_from es proper w (k + 1) n (omega arith))
    (all_map (IsCalled es k) (λ x. AllByRecursion (λ m. x.0 ≢ m.0) rest)
    (λ x c. all_map (IsCalledFrom es (k + 1)) (λ m. x.0 ≢ m.0) (λ m d. later_apart es proper k lt x m c d) rest behind)
    (names_at es w k) (place_called es k (place_of w k)))

pairs_apart : (ns : List (List ℕ × ℕ)) → Apart ns → AreDistinct ns
pairs_apart [] h = λ i j d lt within. absurd (omega arith)
pairs_apart (n ∷ ns) h = AllPairs-cons (λ one other. one.0 ≢ other.0) n ns (All-from_recursion (λ m. n.0 ≢ m.0) ns h.0)
    (pairs_apart ns h.1)

pub names_distinct : (es : List Entry) → AreProper es → (w : Lowered) → AreDistinct (names_of es w)
names_distinct es proper w = pairs_apart (names_of es w) (apart_from es proper w 0 (length es) (omega arith))
