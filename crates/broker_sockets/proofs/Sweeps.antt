-- How a sweep goes on.
use Rattle.std.proofs.Common.{◌≡◌, ◌∙◌, inl, inr, ℕ, zero, suc, ◌+◌, ◌<◌, ◌≤◌, true, List, [], ◌∷◌, ◌++◌, length, map, take, drop, nat_lt, Bool, false, slice_set, slice_index_or, refl, sym, ap, subst, append_assoc, arith, if◌then◌else◌}
use Rattle.std.specs.List.{All}
use Rattle.std.proofs.lemmas.List.Elements.{All-nil, All-cons, All-head, All-tail, All-append}
use Rattle.broker_sockets.specs.declared.partings.parting.Limits.{Limits}
use Rattle.broker_sockets.specs.Parted.{Parted, HaveGone, IsOver, IsRead, IsTaken, just_shut, with_room}
use Rattle.broker_sockets.specs.inner.Sweeping.{HasLeft, HasStayed, IsAdded, IsFar}

-- an item of a list, and what is before and behind it
pub item_split : {A : Type 0} (items : List A) (at : ℕ) (s : A) → at < length items → s ≡ slice_index_or items at s
    → items ≡ take at items ++ s ∷ drop (suc at) items
item_split [] at s lt e = absurd (omega (arith, lt))
item_split (x ∷ xs) zero s lt e = ap (λ y. y ∷ xs) (sym e)
item_split (x ∷ xs) (suc at) s lt e = ap (λ ys. x ∷ ys) (item_split xs at s (omega (arith, lt)) e)

pub set_parts : {A : Type 0} (items : List A) (at : ℕ) (t : A) → at < length items
    → slice_set items at t ≡ take at items ++ t ∷ drop (suc at) items
set_parts [] at t lt = absurd (omega (arith, lt))
set_parts (x ∷ xs) zero t lt = refl
set_parts (x ∷ xs) (suc at) t lt = ap (λ ys. x ∷ ys) (set_parts xs at t (omega (arith, lt)))

pub set_removed : {A : Type 0} (items : List A) (at : ℕ) (t : A) → at < length items
    → take at (slice_set items at t) ++ drop (suc at) (slice_set items at t) ≡ take at items ++ drop (suc at) items
set_removed [] at t lt = absurd (omega (arith, lt))
set_removed (x ∷ xs) zero t lt = refl
set_removed (x ∷ xs) (suc at) t lt = ap (λ ys. x ∷ ys) (set_removed xs at t (omega (arith, lt)))

pub taken_length : {A : Type 0} (items : List A) (at : ℕ) → at < length items → at ≡ length (take at items)
taken_length [] at lt = absurd (omega (arith, lt))
taken_length (x ∷ xs) zero lt = refl
taken_length (x ∷ xs) (suc at) lt = ap suc (taken_length xs at (omega (arith, lt)))

pub all_parts : {A : Type 0} (P : A → Type 0) (front : List A) (x : A) (back : List A) → All P (front ++ x ∷ back)
    → All P front × P x × All P back
all_parts P [] x back h = (All-nil P, All-head P x back h, All-tail P x back h)
all_parts P (y ∷ ys) x back h =
    let k = all_parts P ys x back (All-tail P y (ys ++ x ∷ back) h) in
    (All-cons P y ys (All-head P y (ys ++ x ∷ back) h) k.0, k.1, k.2)

pub all_joined : {A : Type 0} (P : A → Type 0) (front : List A) (x : A) (back : List A) → All P front → P x → All P back
    → All P (front ++ x ∷ back)
all_joined P front x back f p b = All-append P front (x ∷ back) f (All-cons P x back p b)

-- two lists with an item at one place
same_parts : {A : Type 0} (done back front more : List A) (x : A) → done ++ back ≡ front ++ x ∷ more
    → length done ≡ length front
    → (done ≡ front) × (back ≡ x ∷ more)
same_parts [] back [] more x e n = (refl, e)
same_parts [] back (y ∷ front) more x e n = absurd (omega (arith, n))
same_parts (d ∷ done) back [] more x e n = absurd (omega (arith, n))
same_parts (d ∷ done) back (y ∷ front) more x e n =
    let k = same_parts done back front more x (ap (drop 1) e) (omega (arith, n)) in
    (grind (arith, e, k.0), k.1)

map_append : {A B : Type 0} (f : A → B) (xs ys : List A) → map f (xs ++ ys) ≡ map f xs ++ map f ys
map_append f [] ys = refl
map_append f (x ∷ xs) ys = ap (λ l. f x ∷ l) (map_append f xs ys)

length_behind : {X : Type 0} (xs : List X) (x : X) → length (xs ++ x ∷ []) ≡ length xs + 1
length_behind [] x = refl
length_behind (y ∷ xs) x = let h = length_behind xs x in omega (arith, h)

module _ (limits : Limits) where
  -- one more stays
  stays : (front done : List Parted) (one after : Parted) → HaveGone limits front done → IsRead one after
      → HaveGone limits (front ++ one ∷ []) (done ++ after ∷ [])
  stays [] done one after gone read =
      subst (λ d. HaveGone limits (one ∷ []) (d ++ after ∷ [])) (sym gone) (after, read, inr ([], refl, refl))
  stays (x ∷ front) done one after (y, was, inl (over, gone)) read =
      (y, was, inl (over, stays front done one after gone read))
  stays (x ∷ front) done one after (y, was, inr (later, is, gone)) read =
      (y, was, inr (later ++ after ∷ [], ap (λ d. d ++ after ∷ []) is, stays front later one after gone read))

  -- one more is over
  leaves : (front done : List Parted) (one after : Parted) → HaveGone limits front done → IsRead one after
      → IsOver limits after
      → HaveGone limits (front ++ one ∷ []) done
  leaves [] done one after gone read over = (after, read, inl (over, gone))
  leaves (x ∷ front) done one after (y, was, inl (over', gone)) read over =
      (y, was, inl (over', leaves front done one after gone read over))
  leaves (x ∷ front) done one after (y, was, inr (later, is, gone)) read over =
      (y, was, inr (later, is, leaves front later one after gone read over))

  module _ {P : Type 0} (parted : P → Parted) where
    pub far_at_first : (items : List P) → All (λ one. (parted one).shut ≡ true) items
        → IsFar parted limits (map parted items) items 0
    far_at_first items all = record {
      front = [];
      done = [];
      back = items;
      before_is = refl;
      now_is = refl;
      at_is = refl;
      gone = refl;
      all = all;
    }

    shifted : (front : List Parted) (done back : List P) (one : P) (more : List P) (before : List Parted)
        → before ≡ front ++ map parted back
        → back ≡ one ∷ more → before ≡ (front ++ parted one ∷ []) ++ map parted more
    shifted front done back one more before e is =
        e ∙ ap (λ (l : List P). front ++ map parted l) is ∙ sym (append_assoc front (parted one ∷ []) (map parted more))

    pub far_stayed : (before : List Parted) (now later : List P) (at : ℕ) → IsFar parted limits before now at
        → HasStayed parted now at later → IsFar parted limits before later (at + 1)
    far_stayed before now later at far stayed =
        let t = stayed.turned in
        let k = same_parts far.done far.back t.front t.back t.one (sym far.now_is ∙ t.before_is)
        (sym far.at_is ∙ t.at_is) in
        record {
          front = far.front ++ parted t.one ∷ [];
          done = far.done ++ t.after ∷ [];
          back = t.back;
          before_is = shifted far.front far.done far.back t.one t.back before far.before_is k.1;
          now_is = stayed.now_is ∙ ap (λ (l : List P). l ++ t.after ∷ t.back) (sym k.0)
              ∙ sym (append_assoc far.done (t.after ∷ []) t.back);
          at_is = ap (λ n. n + 1) far.at_is ∙ sym (length_behind far.done t.after);
          gone = subst (λ d. HaveGone limits (far.front ++ parted t.one ∷ []) d)
              (sym (map_append parted far.done (t.after ∷ [])))
              (stays far.front (map parted far.done) (parted t.one) (parted t.after) far.gone t.read);
          all = subst (λ (l : List P). All (λ one. (parted one).shut ≡ true) l) (sym stayed.now_is) t.all;
        }

    pub far_left : (before : List Parted) (now later : List P) (at : ℕ) → IsFar parted limits before now at
        → HasLeft parted limits now at later → IsFar parted limits before later at
    far_left before now later at far left =
        let t = left.turned in
        let k = same_parts far.done far.back t.front t.back t.one (sym far.now_is ∙ t.before_is)
        (sym far.at_is ∙ t.at_is) in
        let all = all_parts (λ one. (parted one).shut ≡ true) t.front t.after t.back t.all in
        record {
          front = far.front ++ parted t.one ∷ [];
          done = far.done;
          back = t.back;
          before_is = shifted far.front far.done far.back t.one t.back before far.before_is k.1;
          now_is = left.now_is ∙ ap (λ (l : List P). l ++ t.back) (sym k.0);
          at_is = far.at_is;
          gone = leaves far.front (map parted far.done) (parted t.one) (parted t.after) far.gone t.read left.over;
          all = subst (λ (l : List P). All (λ one. (parted one).shut ≡ true) l) (sym left.now_is)
              (All-append (λ one. (parted one).shut ≡ true) t.front t.back all.0 all.2);
        }

    none_behind : (done back : List P) → length (done ++ back) ≤ length done → back ≡ []
    none_behind [] [] le = refl
    none_behind [] (x ∷ back) le = absurd (omega (arith, le))
    none_behind (y ∷ done) back le = none_behind done back (omega (arith, le))

    pub stayed_at : (items : List P) (at : ℕ) (s t : P) → at < length items → s ≡ slice_index_or items at s
        → IsRead (parted s) (parted t) → All (λ one. (parted one).shut ≡ true) items
        → HasStayed parted items at (slice_set items at t)
    stayed_at items at s t lt is read all =
        let split = item_split items at s lt is in
        let parts = all_parts (λ one. (parted one).shut ≡ true) (take at items) s (drop (suc at) items)
        (subst (λ (l : List P). All (λ one. (parted one).shut ≡ true) l) split all) in
        record {
          turned = record {
            front = take at items;
            one = s;
            back = drop (suc at) items;
            before_is = split;
            at_is = taken_length items at lt;
            after = t;
            read = read;
            all = all_joined (λ one. (parted one).shut ≡ true) (take at items) t (drop (suc at) items) parts.0
                (read.shut ∙ parts.1) parts.2;
          };
          now_is = set_parts items at t lt;
        }

    pub left_at : (items now : List P) (at : ℕ) (s t : P) → at < length items → s ≡ slice_index_or items at s
        → IsRead (parted s) (parted t) → IsOver limits (parted t) → All (λ one. (parted one).shut ≡ true) items
        → now ≡ take at (slice_set items at t) ++ drop (suc at) (slice_set items at t)
        → HasLeft parted limits items at now
    left_at items now at s t lt is read over all removed =
        let split = item_split items at s lt is in
        let parts = all_parts (λ one. (parted one).shut ≡ true) (take at items) s (drop (suc at) items)
        (subst (λ (l : List P). All (λ one. (parted one).shut ≡ true) l) split all) in
        record {
          turned = record {
            front = take at items;
            one = s;
            back = drop (suc at) items;
            before_is = split;
            at_is = taken_length items at lt;
            after = t;
            read = read;
            all = all_joined (λ one. (parted one).shut ≡ true) (take at items) t (drop (suc at) items) parts.0
                (read.shut ∙ parts.1) parts.2;
          };
          over = over;
          now_is = removed ∙ set_removed items at t lt;
        }

map_dropped : {A B : Type 0} (f : A → B) (xs : List A) → map f (drop 1 xs) ≡ drop 1 (map f xs)
map_dropped f [] = refl
map_dropped f (x ∷ xs) = refl

map_length : {A B : Type 0} (f : A → B) (xs : List A) → length (map f xs) ≡ length xs
map_length f [] = refl
map_length f (x ∷ xs) = ap suc (map_length f xs)

map_chosen : {A B : Type 0} (f : A → B) (b : Bool) (xs : List A)
    → map f (if b then xs else drop 1 xs) ≡ (if b then map f xs else drop 1 (map f xs))
map_chosen f true xs = refl
map_chosen f false xs = map_dropped f xs

pub map_room : {A B : Type 0} (f : A → B) (xs : List A) → map f (with_room xs) ≡ with_room (map f xs)
map_room f xs =
    map_chosen f (nat_lt (length xs) 64) xs
    ∙ ap (λ n. if nat_lt n 64 then map f xs else drop 1 (map f xs)) (sym (map_length f xs))

all_dropped : {A : Type 0} (P : A → Type 0) (xs : List A) → All P xs → All P (drop 1 xs)
all_dropped P [] all = all
all_dropped P (x ∷ xs) all = All-tail P x xs all

all_chosen : {A : Type 0} (P : A → Type 0) (b : Bool) (xs : List A) → All P xs → All P (if b then xs else drop 1 xs)
all_chosen P true xs all = all
all_chosen P false xs all = all_dropped P xs all

-- what one tells that was added
pub taken_of : {P : Type 0} (parted : P → Parted) (left : Parted) (before : List P) (one : P) (after : List P)
    → parted one ≡ just_shut left.left → IsAdded before one after
    → IsTaken (map parted before) left (map parted after)
taken_of parted left before one after is (inl added) =
    inl (ap (λ l. map parted l) added ∙ map_append parted (with_room before) (one ∷ [])
    ∙ ap (λ l. l ++ parted one ∷ []) (map_room parted before) ∙ ap (λ x. with_room (map parted before) ++ x ∷ []) is)
taken_of parted left before one after is (inr none) = inr (ap (λ l. map parted l) none ∙ map_room parted before)
