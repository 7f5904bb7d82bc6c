-- Places in the list of connections.
use Rattle.std.proofs.Common.{◌≡◌, ℕ, zero, suc, ◌+◌, ◌<◌, Bool, true, false, List, [], ◌∷◌, ◌++◌, length, length-append, take, drop, cond, nat_eq, Option, Some, None, slice_get, slice_set, slice_index_or, refl, sym, ap, ap₂, map, option_map, is_some, Bor, ◌∙◌, arith}
use Rattle.std.proofs.lemmas.Bool.{eq-eqb, eqb-true}
use Rattle.std.proofs.lemmas.List.{length-map}
use Rattle.broker_answers.specs.Streams.{Stream}
use Rattle.broker_answers.specs.Connections.{at, put, without}
use Rattle.iiop_broker.specs.declared.kept.Kept.{Kept}
use Rattle.iiop_broker.specs.Kept.{stream_of, streams_of}
use Rattle.iiop_broker.specs.Listed.{IsPlace, IsThere, place_from}

nothing : {A : Type 0} (a : A) → None ≡ Some a → ⊥
nothing a e = absurd (cc)

same_place : (n p : ℕ) → Some n ≡ Some p → n ≡ p
same_place n p e = cc

placed_here : {C : Type 0} (n c p : ℕ) (one : ℕ × C) (more : List (ℕ × C)) (b : Bool) → nat_eq c one.0 ≡ b
    → cond b (Some n) (place_from (suc n) c more) ≡ Some p
    → (place_from (suc n) c more ≡ Some p → IsPlace (suc n) c p more) → IsPlace n c p (one ∷ more)
placed_here {C} n c p one more true is e further = record {
  before = [];
  kept = one.1;
  more = more;
  split = ap (λ (k : ℕ). (k, one.1) ∷ more) (sym (eqb-true c one.0 is));
  place_is = let same = same_place n p e in omega (arith, same);
  first = refl;
}
placed_here {C} n c p one more false is e further =
    let h = further e in
    record {
      before = one ∷ h.before;
      kept = h.kept;
      more = h.more;
      split = ap (λ (xs : List (ℕ × C)). one ∷ xs) h.split;
      place_is = let there = h.place_is in omega (arith, there);
      first = ap (λ (b : Bool). cond b (Some one.1) (at c h.before)) is ∙ h.first;
    }

pub placed : {C : Type 0} (n c p : ℕ) (there : List (ℕ × C)) → place_from n c there ≡ Some p → IsPlace n c p there
placed n c p [] e = absurd (nothing p e)
placed n c p (one ∷ more) e =
    placed_here n c p one more (nat_eq c one.0) refl e (λ further. placed (suc n) c p more further)

unplaced_here : {C : Type 0} (n c : ℕ) (one : ℕ × C) (more : List (ℕ × C)) (b : Bool)
    → cond b (Some n) (place_from (suc n) c more) ≡ None → (place_from (suc n) c more ≡ None → at c more ≡ None)
    → cond b (Some one.1) (at c more) ≡ None
unplaced_here n c one more true e further = absurd (nothing n (sym e))
unplaced_here n c one more false e further = further e

pub unplaced : {C : Type 0} (n c : ℕ) (there : List (ℕ × C)) → place_from n c there ≡ None → at c there ≡ None
unplaced n c [] e = refl
unplaced n c (one ∷ more) e = unplaced_here n c one more (nat_eq c one.0) e (unplaced (suc n) c more)

-- ---- the list about a place

not_first_by : {C : Type 0} (c : ℕ) (one : ℕ × C) (more : List (ℕ × C)) (b : Bool) → nat_eq c one.0 ≡ b
    → cond b (Some one.1) (at c more) ≡ None → (nat_eq c one.0 ≡ false) × (at c more ≡ None)
not_first_by c one more true is e = absurd (nothing one.1 (sym e))
not_first_by c one more false is e = (is, e)

some_same : {A : Type 0} (a b : A) → Some a ≡ Some b → a ≡ b
some_same a b e = cc

-- another number stands at the front
not_first : {C : Type 0} (c : ℕ) (one : ℕ × C) (more : List (ℕ × C)) → at c (one ∷ more) ≡ None
    → (nat_eq c one.0 ≡ false) × (at c more ≡ None)
not_first c one more e = not_first_by c one more (nat_eq c one.0) refl e

pub at_split : {C : Type 0} (c : ℕ) (before : List (ℕ × C)) (kept : C) (more : List (ℕ × C)) → at c before ≡ None
    → at c (before ++ (c, kept) ∷ more) ≡ Some kept
at_split c [] kept more none = ap (λ (b : Bool). cond b (Some kept) (at c more)) (eq-eqb c c refl)
at_split c (one ∷ ones) kept more none =
    let h = not_first c one ones none in
    ap (λ (b : Bool). cond b (Some one.1) (at c (ones ++ (c, kept) ∷ more))) h.0 ∙ at_split c ones kept more h.1

pub put_split : {C : Type 0} (c : ℕ) (before : List (ℕ × C)) (kept other : C) (more : List (ℕ × C)) → at c before ≡ None
    → put c other (before ++ (c, kept) ∷ more) ≡ before ++ (c, other) ∷ more
put_split c [] kept other more none =
    ap (λ (b : Bool). cond b ((c, other) ∷ more) ((c, kept) ∷ put c other more)) (eq-eqb c c refl)
put_split c (one ∷ ones) kept other more none =
    let h = not_first c one ones none in
    ap (λ (b : Bool). cond b ((c, other) ∷ (ones ++ (c, kept) ∷ more)) (one ∷ put c other (ones ++ (c, kept) ∷ more)))
    h.0
    ∙ ap (λ xs. one ∷ xs) (put_split c ones kept other more h.1)

pub without_split : {C : Type 0} (c : ℕ) (before : List (ℕ × C)) (kept : C) (more : List (ℕ × C)) → at c before ≡ None
    → without c (before ++ (c, kept) ∷ more) ≡ before ++ more
without_split c [] kept more none =
    ap (λ (b : Bool). cond b more ((c, kept) ∷ without c more)) (eq-eqb c c refl)
without_split c (one ∷ ones) kept more none =
    let h = not_first c one ones none in
    ap (λ (b : Bool). cond b (ones ++ (c, kept) ∷ more) (one ∷ without c (ones ++ (c, kept) ∷ more))) h.0
    ∙ ap (λ xs. one ∷ xs) (without_split c ones kept more h.1)

-- ---- what is done at a place

pub at_place : {C : Type 0} (c place : ℕ) (there : List (ℕ × C)) (p : IsPlace 0 c place there)
    → at c there ≡ Some p.kept
at_place c place there p = ap (at c) p.split ∙ at_split c p.before p.kept p.more p.first

pub put_at : {C : Type 0} (c place : ℕ) (there : List (ℕ × C)) (other : C) (p : IsPlace 0 c place there)
    → put c other there ≡ p.before ++ (c, other) ∷ p.more
put_at c place there other p = ap (put c other) p.split ∙ put_split c p.before p.kept other p.more p.first

pub without_at : {C : Type 0} (c place : ℕ) (there : List (ℕ × C)) (p : IsPlace 0 c place there)
    → without c there ≡ p.before ++ p.more
without_at c place there p = ap (without c) p.split ∙ without_split c p.before p.kept p.more p.first

-- it stands there still
pub put_place : {C : Type 0} (c place : ℕ) (there : List (ℕ × C)) (other : C) → IsPlace 0 c place there
    → IsPlace 0 c place (put c other there)
put_place c place there other p = record {
  before = p.before;
  kept = other;
  more = p.more;
  split = put_at c place there other p;
  place_is = p.place_is;
  first = p.first;
}

pub put_twice : {C : Type 0} (c place : ℕ) (there : List (ℕ × C)) (one other : C) → IsPlace 0 c place there
    → put c other (put c one there) ≡ put c other there
put_twice c place there one other p =
    ap (put c other) (put_at c place there one p)
    ∙ put_split c p.before one other p.more p.first
    ∙ sym (put_at c place there other p)

-- the element of a list at a place that is told by its parts
set_parts : {A : Type 0} (before : List A) (was now : A) (more : List A)
    → slice_set (before ++ was ∷ more) (length before) now ≡ before ++ now ∷ more
set_parts [] was now more = refl
set_parts (one ∷ ones) was now more = ap (λ xs. one ∷ xs) (set_parts ones was now more)

item_parts : {A : Type 0} (before : List A) (was : A) (more : List A)
    → slice_get (before ++ was ∷ more) (length before) ≡ Some was
item_parts [] was more = refl
item_parts (one ∷ ones) was more = item_parts ones was more

pub place_below : {C : Type 0} (c place : ℕ) (there : List (ℕ × C)) → IsPlace 0 c place there → place < length there
place_below {C} c place there p =
    let is = p.place_is in
    omega (arith, is, ap length p.split, length-append p.before ((c, p.kept) ∷ p.more))

pub set_place : {C : Type 0} (c place : ℕ) (there : List (ℕ × C)) (other : C) → IsPlace 0 c place there
    → slice_set there place (c, other) ≡ put c other there
set_place {C} c place there other p =
    let is : place ≡ length p.before = let at_it = p.place_is in omega (arith, at_it) in
    ap (λ (xs : List (ℕ × C)). slice_set xs place (c, other)) p.split
    ∙ ap (λ (k : ℕ). slice_set (p.before ++ (c, p.kept) ∷ p.more) k (c, other)) is
    ∙ set_parts p.before (c, p.kept) (c, other) p.more
    ∙ sym (put_at c place there other p)

pub item_place : {C : Type 0} (c place : ℕ) (there : List (ℕ × C)) (item : ℕ × C) → IsPlace 0 c place there
    → slice_get there place ≡ Some item → at c there ≡ Some item.1
item_place {C} c place there item p e =
    let is : place ≡ length p.before = let at_it = p.place_is in omega (arith, at_it) in
    let here : Some (c, p.kept) ≡ Some item =
    sym (item_parts p.before (c, p.kept) p.more)
    ∙ ap (slice_get (p.before ++ (c, p.kept) ∷ p.more)) (sym is)
    ∙ ap (λ (xs : List (ℕ × C)). slice_get xs place) (sym p.split)
    ∙ e in
    at_place c place there p ∙ ap (λ (k : C). Some k) (ap (λ (x : ℕ × C). x.1) (some_same (c, p.kept) item here))

-- the list without the element at a place
removed_parts : {A : Type 0} (before : List A) (was : A) (more : List A)
    → take (length before) (before ++ was ∷ more) ++ drop (suc (length before)) (before ++ was ∷ more) ≡ before ++ more
removed_parts [] was more = refl
removed_parts (one ∷ ones) was more = ap (λ xs. one ∷ xs) (removed_parts ones was more)

pub removed_place : {C : Type 0} (c place : ℕ) (there : List (ℕ × C)) → IsPlace 0 c place there
    → take place there ++ drop (place + 1) there ≡ without c there
removed_place {C} c place there p =
    let is : place ≡ length p.before = let at_it = p.place_is in omega (arith, at_it) in
    let next : place + 1 ≡ suc (length p.before) = omega (arith, is) in
    ap (λ (xs : List (ℕ × C)). take place xs ++ drop (place + 1) xs) p.split
    ∙ ap (λ (k : ℕ). take k (p.before ++ (c, p.kept) ∷ p.more) ++ drop (place + 1) (p.before ++ (c, p.kept) ∷ p.more))
    is
    ∙ ap (λ (k : ℕ). take (length p.before) (p.before ++ (c, p.kept) ∷ p.more)
    ++ drop k (p.before ++ (c, p.kept) ∷ p.more)) next
    ∙ removed_parts p.before (c, p.kept) p.more
    ∙ sym (without_at c place there p)

-- ---- lists of which each element is seen in another way

map_set : {A B : Type 0} (f : A → B) (xs : List A) (n : ℕ) (x : A)
    → map f (slice_set xs n x) ≡ slice_set (map f xs) n (f x)
map_set f [] n x = refl
map_set f (y ∷ ys) zero x = refl
map_set f (y ∷ ys) (suc n) x = ap (λ zs. f y ∷ zs) (map_set f ys n x)

map_get : {A B : Type 0} (f : A → B) (xs : List A) (n : ℕ) (x : A) → slice_get xs n ≡ Some x
    → slice_get (map f xs) n ≡ Some (f x)
map_get f [] n x e = absurd (nothing x e)
map_get {A} f (y ∷ ys) zero x e = ap (λ (z : A). Some (f z)) (some_same y x e)
map_get f (y ∷ ys) (suc n) x e = map_get f ys n x e

map_take : {A B : Type 0} (f : A → B) (xs : List A) (n : ℕ) → map f (take n xs) ≡ take n (map f xs)
map_take f [] zero = refl
map_take f [] (suc n) = refl
map_take f (y ∷ ys) zero = refl
map_take f (y ∷ ys) (suc n) = ap (λ zs. f y ∷ zs) (map_take f ys n)

map_drop : {A B : Type 0} (f : A → B) (xs : List A) (n : ℕ) → map f (drop n xs) ≡ drop n (map f xs)
map_drop f [] zero = refl
map_drop f [] (suc n) = refl
map_drop f (y ∷ ys) zero = refl
map_drop f (y ∷ ys) (suc n) = map_drop f ys n

map_behind : {A B : Type 0} (f : A → B) (xs ys : List A) → map f (xs ++ ys) ≡ map f xs ++ map f ys
map_behind f [] ys = refl
map_behind f (x ∷ xs) ys = ap (λ zs. f x ∷ zs) (map_behind f xs ys)

pub streams_set : (c place : ℕ) (old new : List (ℕ × Kept)) (kept : Kept) → IsPlace 0 c place (streams_of old)
    → new ≡ slice_set old place (c, kept) → streams_of new ≡ put c (stream_of kept) (streams_of old)
streams_set c place old new kept p e =
    ap streams_of e
    ∙ map_set (λ one. (one.0, stream_of one.1)) old place (c, kept)
    ∙ set_place c place (streams_of old) (stream_of kept) p

pub streams_was : (c place : ℕ) (old : List (ℕ × Kept)) (item : ℕ × Kept) → IsPlace 0 c place (streams_of old)
    → slice_get old place ≡ Some item → at c (streams_of old) ≡ Some (stream_of item.1)
streams_was c place old item p e =
    item_place c place (streams_of old) (item.0, stream_of item.1) p
    (map_get (λ one. (one.0, stream_of one.1)) old place item e)

pub streams_removed : (c place : ℕ) (old new : List (ℕ × Kept)) → IsPlace 0 c place (streams_of old)
    → new ≡ take place old ++ drop (place + 1) old → streams_of new ≡ without c (streams_of old)
streams_removed c place old new p e =
    ap streams_of e
    ∙ map_behind (λ one. (one.0, stream_of one.1)) (take place old) (drop (place + 1) old)
    ∙ ap₂ (λ (xs ys : List (ℕ × Stream)). xs ++ ys) (map_take (λ one. (one.0, stream_of one.1)) old place)
    (map_drop (λ one. (one.0, stream_of one.1)) old (place + 1))
    ∙ removed_place c place (streams_of old) p

pub streams_pushed : (old new : List (ℕ × Kept)) (one : ℕ × Kept) → new ≡ old ++ one ∷ []
    → streams_of new ≡ streams_of old ++ (one.0, stream_of one.1) ∷ []
streams_pushed old new one e = ap streams_of e ∙ map_behind (λ x. (x.0, stream_of x.1)) old (one ∷ [])

pub streams_below : (c place : ℕ) (old : List (ℕ × Kept)) → IsPlace 0 c place (streams_of old) → place < length old
streams_below c place old p =
    let below = place_below c place (streams_of old) p in
    omega (arith, below, length-map {B = ℕ × Stream} old (λ one. (one.0, stream_of one.1)))

pub is_there : (c place : ℕ) (there : List (ℕ × Stream)) → IsPlace 0 c place there → IsThere c there
is_there c place there p = record { kept = p.kept; found = at_place c place there p }

pub item_at : {A : Type 0} (xs : List A) (n : ℕ) (d : A) → n < length xs → slice_get xs n ≡ Some (slice_index_or xs n d)
item_at [] n d lt = absurd (omega (arith, lt))
item_at (x ∷ xs) zero d lt = refl
item_at (x ∷ xs) (suc n) d lt = item_at xs n d (omega (arith, lt))

pub some_kept : (kept : Option (Bor Kept)) (found : Option Stream) → option_map (λ k. stream_of k.now) kept ≡ found
    → is_some kept ≡ is_some found
some_kept None found e = ap is_some e
some_kept (Some k) found e = ap is_some e
