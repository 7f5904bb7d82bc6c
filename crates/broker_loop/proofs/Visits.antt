-- Connections that all went.
use Rattle.std.proofs.Common.{◌≡◌, inl, inr, ◌⊎◌, ℕ, zero, ◌+◌, ◌<◌, ◌≤◌, true, Option, List, [], ◌∷◌, ◌++◌, length, take, drop, slice_set, slice_index_or, append-nil, suc, None, refl, sym, ap, subst, ◌∙◌, arith}
use Rattle.std.specs.List.{All, Contains}
use Rattle.std.proofs.lemmas.List.{length-map}
use Rattle.std.proofs.lemmas.List.Elements.{All-nil, All-head, All-push, All-tail, All-weaker}
use Rattle.broker_answers.specs.Streams.{Stream}
use Rattle.broker_answers.specs.Connections.{at}
use Rattle.broker_answers.specs.Talk.{World, world, rests, Steps, Talk, Opens, Leaves}
use Rattle.broker_answers.specs.Servants.{Acting}
use Rattle.broker_answers.specs.Objects.{Served}
use Rattle.broker_answers.specs.Serving.{Moves, Serves}
use Rattle.iiop_broker.specs.Outcomes.{Ends}
use Rattle.iiop_broker.specs.Listed.{IsThere}
use Rattle.iiop_broker.proofs.Places.{at_split}
use Rattle.broker_loop.specs.Carried.{Log}
use Rattle.broker_loop.specs.Telling.{IsAsked, IsNew, Trace}
use Rattle.broker_loop.specs.Visits.{IsVisit, AreServed, HasEnded, Gone, gone}
use Rattle.broker_loop.proofs.Turns.{same_end}
use Rattle.broker_loop.specs.declared.listener.End.{End}
use Rattle.broker_loop.specs.declared.listener.End.TheVariants.{GivenUp}
use Rattle.broker_loop.specs.inner.Turns.{IsHandedBack}
use Rattle.broker_loop.specs.inner.Waits.{unwaited}
use Rattle.broker_loop.specs.inner.Going.{AreInTime, IsTimedSo, Slotted, WereAsked, place_behind, slotted, numbers, keys, IsOpen, IsGone, IsGoing, IsOn, GoesOn}
use Rattle.broker_loop.specs.declared.slot.Course.{Course}
use Rattle.broker_loop.specs.declared.slot.Course.TheVariants.{Moved, Still, Over}
use Rattle.broker_loop.proofs.Parts.{contains_part}
use Rattle.broker_loop.proofs.Keys.{at_absent, at_found, all_at}
use Rattle.broker_loop.proofs.Going.{get_below, all_to_map, map_joined, begins, not_begun, leaves, others_apart}
use Rattle.broker_loop.proofs.InTime.{begins_in_time, leaves_in_time, of_one, with_one, without_one}
use Rattle.broker_loop.proofs.Times.{asked_new, timed_given, turned_timed}
use Rattle.broker_loop.proofs.Items.{drop_item, drop_removed, drop_set, item_split, set_parts, set_removed, take_removed, take_set}

module _ {S : Type 0} (acting : Acting S) (served : Served) (idle : ℕ) (before : S) where
  pub starts : (w : World S Stream) → w ≡ world before [] → IsGoing acting served idle before [] [] w []
  starts w is = record {
    said = [];
    follows = is;
    there = ap (λ (x : World S Stream). keys x.there) is;
    rising = tt;
    known = All-nil (λ one. _);
    opened = All-nil (IsOpen [] []);
    gone = All-nil (IsGone acting served idle before [] [] []);
    all = λ c lt. absurd (omega (arith, lt));
  }

  pub there_of : (came : List Ends) (ended : List (ℕ × Gone)) (w : World S Stream) (front : List Slotted) (s : Slotted)
      (back : List Slotted) → IsGoing acting served idle before came ended w (front ++ s ∷ back)
      → IsThere s.number w.there
  there_of came ended w front s back g =
      let ns : keys w.there ≡ numbers front ++ s.number ∷ numbers back =
      g.there ∙ map_joined (λ (x : Slotted). x.number) front s back in
      let found = at_found s.number w.there
      (subst (λ (xs : List ℕ). Contains xs s.number) (sym ns) (contains_part (numbers front) s.number (numbers back)))
      in
      record { kept = found.0; found = found.1 }

  pub as_many : (came : List Ends) (ended : List (ℕ × Gone)) (w : World S Stream) (slots : List Slotted)
      → IsGoing acting served idle before came ended w slots → length w.there ≡ length slots
  as_many came ended w slots g =
      sym (length-map w.there (λ (x : ℕ × Stream). x.0)) ∙ ap length g.there
      ∙ length-map slots (λ (x : Slotted). x.number)

  pub absent : (came : List Ends) (ended : List (ℕ × Gone)) (w : World S Stream) (slots : List Slotted) (c : ℕ)
      → IsGoing acting served idle before came ended w slots → c ≡ length came → at c w.there ≡ None
  absent came ended w slots c g is =
      at_absent c w.there (subst (All (λ n. n ≡ c → ⊥)) (sym g.there)
      (all_to_map (λ n. n ≡ c → ⊥) (λ (x : Slotted). x.number) slots
      (All-weaker (IsOpen g.said came) (λ x. x.number ≡ c → ⊥)
      (λ x o same. let lt = get_below came x.number o.from o.came_is in omega (arith, lt, same, is)) slots g.opened)))

  pub all_served : (came : List Ends) (ended : List (ℕ × Gone)) (w : World S Stream)
      (g : IsGoing acting served idle before came ended w [])
      → Talk (Serves acting served) (Moves acting served) before g.said w.servant
      → AreServed acting served idle before came ended w.servant
  all_served came ended w g talk = record {
    said = g.said;
    talk = talk;
    each = λ c lt. by c (g.all c lt);
  } where
    by : (c : ℕ) → Contains (numbers []) c ⊎ Contains (keys ended) c
        → IsVisit acting served idle before g.said came ended c
    by c (inl there) = absurd (omega (arith, there.1))
    by c (inr there) =
        let found = at_found c ended there in
        let gone = all_at (IsGone acting served idle before g.said came []) c ended found.0 g.gone found.1 in
        record {
          from = gone.from;
          to = found.0;
          came_is = gone.came_is;
          ended_is = found.1;
          carried = gone.carried;
        }

  pub said_of : (came : List Ends) (ended : List (ℕ × Gone)) (w : World S Stream) (slots : List Slotted)
      (g : IsGoing acting served idle before came ended w slots)
      → Steps (Serves acting served) (Moves acting served) before g.said w.servant
  said_of came ended w slots g = (w.there, g.follows)

  -- ---- with what may be told of those that went

  pub starts_on : (Told : List (ℕ × Gone) → Type 0) (w : World S Stream) → Told [] → w ≡ world before []
      → GoesOn Told acting served idle before [] w []
  starts_on Told w told is = record {
    ended = [];
    told = told;
    going = starts w is;
    in_time = λ some. All-nil (IsTimedSo idle true (starts w is).said w.there);
  }

  -- what is known of one in its turn, whatever came and went before
  abbrev pub Turns : World S Stream → World S Stream → Slotted → Slotted → Course → Type 0
  Turns w w' s t course =
      (came : List Ends) (ended : List (ℕ × Gone)) (front back : List Slotted)
      → (going : IsGoing acting served idle before came ended w (front ++ s ∷ back))
      → AreInTime idle going.said w.there (front ++ s ∷ back)
      → IsOn acting served idle before came ended w' true front t back course

  pub still_on : (Told Told' : List (ℕ × Gone) → Type 0) (came came' : List Ends) (w : World S Stream)
      (slots : List Slotted) → came' ≡ came
      → ((all : List (ℕ × Gone)) → Told all → Told' all) → GoesOn Told acting served idle before came w slots
      → GoesOn Told' acting served idle before came' w slots
  still_on Told Told' came came' w slots same still g =
      subst (λ (xs : List Ends). GoesOn Told' acting served idle before xs w slots) (sym same)
      (record { ended = g.ended; told = still g.ended g.told; going = g.going; in_time = g.in_time })

  pub serves_on : (Told : List (ℕ × Gone) → Type 0) (came : List Ends) (w w' : World S Stream) (front : List Slotted)
      (s t : Slotted) (back : List Slotted) (course : Course) → ((end : End) → course ≡ Over end → ⊥)
      → Turns w w' s t course
      → GoesOn Told acting served idle before came w (front ++ s ∷ back)
      → GoesOn Told acting served idle before came w' (front ++ t ∷ back)
  serves_on Told came w w' front s t back course goes on g =
      let now = on came g.ended front back g.going g.in_time in
      record {
        ended = g.ended;
        told = g.told;
        going = now.going;
        in_time = with_one idle now.going.said w'.there front t back now.others
            (λ some. turned_timed course goes idle true now.going.said w'.there t (now.own some));
      }

  pub lets_go : (Told Told' : List (ℕ × Gone) → Type 0) (came : List Ends) (w w' w'' : World S Stream)
      (front : List Slotted)
      (s t : Slotted) (back : List Slotted) (end : End) (looks : ℕ) → Turns w w' s t (Over end)
      → Leaves w' t.number [] w'' → (0 < idle → IsAsked looks t.trace)
      → ((all : List (ℕ × Gone)) → Told all → (to : Gone) × IsHandedBack t end looks to
      × Told' (all ++ (t.number, to) ∷ []))
      → GoesOn Told acting served idle before came w (front ++ s ∷ back)
      → GoesOn Told' acting served idle before came w'' (front ++ back)
  lets_go Told Told' came w w' w'' front s t back end looks on left asked back_to g =
      let went = back_to g.ended g.told in
      let now = on came g.ended front back g.going g.in_time in
      let gone = leaves acting served idle before came g.ended w' w'' front t back [] end looks went.0 now left went.1
      asked in
      record {
        ended = g.ended ++ (t.number, went.0) ∷ [];
        told = went.2;
        going = gone.0;
        in_time = leaves_in_time idle acting served before w' w'' front t back [] now.going.said gone.0.said
            (others_apart acting served idle before came g.ended w' front t back now.going) left gone.1 now.others;
      }

  pub served_at : (Told : List (ℕ × Gone) → Type 0) (came : List Ends) (w w' : World S Stream) (items : List Slotted)
      (at : ℕ)
      (s t : Slotted) (course : Course) → at < length items → s ≡ slice_index_or items at s
      → ((end : End) → course ≡ Over end → ⊥)
      → Turns w w' s t course
      → GoesOn Told acting served idle before came w items
      → GoesOn Told acting served idle before came w' (slice_set items at t)
  served_at Told came w w' items at s t course lt is goes on g =
      subst (λ (xs : List Slotted). GoesOn Told acting served idle before came w' xs) (sym (set_parts items at t lt))
      (serves_on Told came w w' (take at items) s t (drop (suc at) items) course goes on
      (subst (λ (xs : List Slotted). GoesOn Told acting served idle before came w xs) (item_split items at s lt is) g))

  pub gone_at : (Told Told' : List (ℕ × Gone) → Type 0) (came : List Ends) (w w' w'' : World S Stream)
      (items : List Slotted) (at : ℕ)
      (s t : Slotted) (end : End) (looks : ℕ) → at < length items → s ≡ slice_index_or items at s
      → Turns w w' s t (Over end)
      → Leaves w' t.number [] w'' → (0 < idle → IsAsked looks t.trace)
      → ((all : List (ℕ × Gone)) → Told all → (to : Gone) × IsHandedBack t end looks to
      × Told' (all ++ (t.number, to) ∷ []))
      → GoesOn Told acting served idle before came w items
      → GoesOn Told' acting served idle before came w''
      (take at (slice_set items at t) ++ drop (suc at) (slice_set items at t))
  gone_at Told Told' came w w' w'' items at s t end looks lt is on left asked back_to g =
      subst (λ (xs : List Slotted). GoesOn Told' acting served idle before came w'' xs)
      (sym (set_removed items at t lt))
      (lets_go Told Told' came w w' w'' (take at items) s t (drop (suc at) items) end looks on left asked back_to
      (subst (λ (xs : List Slotted). GoesOn Told acting served idle before came w xs) (item_split items at s lt is) g))

  pub there_at : (Told : List (ℕ × Gone) → Type 0) (came : List Ends) (w : World S Stream) (items : List Slotted)
      (at : ℕ)
      (s : Slotted) → at < length items → s ≡ slice_index_or items at s
      → GoesOn Told acting served idle before came w items
      → IsThere s.number w.there
  there_at Told came w items at s lt is g =
      there_of came g.ended w (take at items) s (drop (suc at) items)
      (subst (λ (xs : List Slotted). IsGoing acting served idle before came g.ended w xs) (item_split items at s lt is)
      g.going)

  pub there_after : (Told : List (ℕ × Gone) → Type 0) (came : List Ends) (w w' : World S Stream) (items : List Slotted)
      (at : ℕ)
      (s t : Slotted) (course : Course) → at < length items → s ≡ slice_index_or items at s → Turns w w' s t course
      → GoesOn Told acting served idle before came w items → IsThere t.number w'.there
  there_after Told came w w' items at s t course lt is on g =
      let k = subst (λ (xs : List Slotted). GoesOn Told acting served idle before came w xs)
      (item_split items at s lt is) g in
      there_of came k.ended w' (take at items) t (drop (suc at) items)
      (on came k.ended (take at items) (drop (suc at) items) k.going k.in_time).going

  -- ---- one more

  pub admits : (Told Told' : List (ℕ × Gone) → Type 0) (came : List Ends) (w w' : World S Stream) (slots : List Slotted)
      (c : ℕ)
      (told : Ends) (looks : ℕ) (trace : Option Trace) (a : List ℕ) → c ≡ length came → IsNew looks trace
      → Opens rests w c a w'
      → ((all : List (ℕ × Gone)) → Told all → Told' all)
      → GoesOn Told acting served idle before came w slots
      → GoesOn Told' acting served idle before (came ++ told ∷ []) w' (slots ++ slotted c told trace unwaited [] ∷ [])
  admits Told Told' came w w' slots c told looks trace a number new opens still g =
      let began = begins acting served idle before came g.ended w w' slots c told trace a g.going number opens in
      record {
        ended = g.ended;
        told = still g.ended g.told;
        going = began.0;
        in_time = begins_in_time idle acting served before came g.ended w w' slots c told looks trace a began.0.said
            g.going number opens new began.2 g.in_time;
      }

  pub refuses : (Told Told' Told'' : List (ℕ × Gone) → Type 0) (came : List Ends) (w : World S Stream)
      (slots : List Slotted) (c : ℕ)
      (told : Ends) (looks : ℕ) (trace : Option Trace) → c ≡ length came → IsNew looks trace
      → ((all : List (ℕ × Gone)) → Told all → Told' all)
      → ((all : List (ℕ × Gone)) → Told' all → Told'' (all ++ (c, gone told trace looks GivenUp) ∷ []))
      → GoesOn Told acting served idle before came w slots
      → GoesOn Told'' acting served idle before (came ++ told ∷ []) w slots
  refuses Told Told' Told'' came w slots c told looks trace number new still back_to g =
      let never = not_begun acting served idle before came g.ended w slots c told trace looks g.going number new in
      record {
        ended = g.ended ++ (c, gone told trace looks GivenUp) ∷ [];
        told = back_to g.ended (still g.ended g.told);
        going = never.0;
        in_time = subst (λ (l : Log). AreInTime idle l w.there slots) (sym never.1) g.in_time;
      }

  -- one for which there is no room is let go of at once
  pub passes : (Told Told' Told'' : List (ℕ × Gone) → Type 0) (came : List Ends) (w w' w'' : World S Stream)
      (slots : List Slotted)
      (c : ℕ) (told : Ends) (looks : ℕ) (trace : Option Trace) (a : List ℕ) → c ≡ length came → IsNew looks trace
      → Opens rests w c a w'
      → Leaves w' c [] w'' → ((all : List (ℕ × Gone)) → Told all → Told' all)
      → ((all : List (ℕ × Gone)) → Told' all
      → (to : Gone) × IsHandedBack (slotted c told trace unwaited []) GivenUp looks to × Told'' (all ++ (c, to) ∷ []))
      → GoesOn Told acting served idle before came w slots
      → GoesOn Told'' acting served idle before (came ++ told ∷ []) w'' slots
  passes Told Told' Told'' came w w' w'' slots c told looks trace a number new opens left still back_to g =
      let one : Slotted = slotted c told trace unwaited [] in
      let began = begins acting served idle before came g.ended w w' slots c told trace a g.going number opens in
      let in_time = begins_in_time idle acting served before came g.ended w w' slots c told looks trace a began.0.said
      g.going number opens new began.2 g.in_time in
      let went = back_to g.ended (still g.ended g.told) in
      let on : IsOn acting served idle before (came ++ told ∷ []) g.ended w' true slots one [] (Over GivenUp) = record {
        going = began.0;
        over = λ end is. subst (λ (k : End). HasEnded acting served idle before began.0.said c [] told k)
            (same_end GivenUp end is) (record { sent = refl; wanted = inr began.1 });
        others = without_one idle began.0.said w'.there slots one [] in_time;
        own = λ some. timed_given idle true began.0.said w'.there one
            (of_one idle began.0.said w'.there slots one [] in_time some);
      } in
      let gone = leaves acting served idle before (came ++ told ∷ []) g.ended w' w'' slots one [] [] GivenUp looks
      went.0 on left went.1 (λ some. asked_new looks trace new) in
      subst (λ (xs : List Slotted). GoesOn Told'' acting served idle before (came ++ told ∷ []) w'' xs)
      (append-nil slots) (record {
        ended = g.ended ++ (c, went.0) ∷ [];
        told = went.2;
        going = gone.0;
        in_time = leaves_in_time idle acting served before w' w'' slots one [] [] began.0.said gone.0.said
            (others_apart acting served idle before (came ++ told ∷ []) g.ended w' slots one [] began.0) left gone.1
            on.others;
      })

pub begun_there : {S : Type 0} (w w' : World S Stream) (c : ℕ) (a : List ℕ) → at c w.there ≡ None → Opens rests w c a w'
    → IsThere c w'.there
begun_there {S} w w' c a none opens = record {
  kept = rests.fresh;
  found = ap (λ (x : World S Stream). at c x.there) opens.now ∙ at_split c w.there rests.fresh [] none;
}

-- ---- what was asked

-- the one at a place
pub asked_at : (idle looks : ℕ) (items : List Slotted) (at : ℕ) (s : Slotted) → at < length items
    → s ≡ slice_index_or items at s
    → WereAsked idle looks (drop at items) → 0 < idle → IsAsked looks s.trace
asked_at idle looks items at s lt is h some =
    All-head (λ (x : Slotted). IsAsked looks x.trace) s (drop (suc at) items)
    (subst (All (λ (x : Slotted). IsAsked looks x.trace)) (drop_item items at s lt is) (h some))

next_place : (at : ℕ) → suc at ≡ at + 1
next_place at = omega arith

-- those before the next place had their turn
pub turned_asked : (idle looks : ℕ) (items : List Slotted) (at : ℕ) (t : Slotted) → at < length items
    → WereAsked idle looks (take at items) → (0 < idle → IsAsked looks t.trace)
    → WereAsked idle looks (take (at + 1) (slice_set items at t))
turned_asked idle looks items at t lt before one = λ some.
    subst (All (λ (x : Slotted). IsAsked looks x.trace))
    (sym (take_set items at t lt) ∙ ap (λ (n : ℕ). take n (slice_set items at t)) (next_place at))
    (All-push (λ (x : Slotted). IsAsked looks x.trace) (take at items) t (before some) (one some))

tail_asked : (idle looks : ℕ) (items : List Slotted) (at : ℕ) (s : Slotted) → at < length items
    → s ≡ slice_index_or items at s
    → WereAsked idle looks (drop at items) → WereAsked idle looks (drop (suc at) items)
tail_asked idle looks items at s lt is h = λ some.
    All-tail (λ (x : Slotted). IsAsked looks x.trace) s (drop (suc at) items)
    (subst (All (λ (x : Slotted). IsAsked looks x.trace)) (drop_item items at s lt is) (h some))

pub unturned_asked : (idle looks : ℕ) (items : List Slotted) (at : ℕ) (s t : Slotted) → at < length items
    → s ≡ slice_index_or items at s
    → WereAsked idle looks (drop at items) → WereAsked idle looks (drop (at + 1) (slice_set items at t))
unturned_asked idle looks items at s t lt is h = λ some.
    subst (All (λ (x : Slotted). IsAsked looks x.trace))
    (sym (drop_set items at t) ∙ ap (λ (n : ℕ). drop n (slice_set items at t)) (next_place at))
    (tail_asked idle looks items at s lt is h some)

-- the same where the one at the place isn't there any more
pub gone_turned : (idle looks : ℕ) (items : List Slotted) (at : ℕ) (t : Slotted) → at < length items
    → WereAsked idle looks (take at items)
    → WereAsked idle looks (take at (take at (slice_set items at t) ++ drop (suc at) (slice_set items at t)))
gone_turned idle looks items at t lt before = λ some.
    subst (All (λ (x : Slotted). IsAsked looks x.trace))
    (sym (ap (take at) (set_removed items at t lt) ∙ take_removed items at lt)) (before some)

pub gone_unturned : (idle looks : ℕ) (items : List Slotted) (at : ℕ) (s t : Slotted) → at < length items
    → s ≡ slice_index_or items at s
    → WereAsked idle looks (drop at items)
    → WereAsked idle looks (drop at (take at (slice_set items at t) ++ drop (suc at) (slice_set items at t)))
gone_unturned idle looks items at s t lt is h = λ some.
    subst (All (λ (x : Slotted). IsAsked looks x.trace))
    (sym (ap (drop at) (set_removed items at t lt) ∙ drop_removed items at lt))
    (tail_asked idle looks items at s lt is h some)

-- one more that came just now
pub new_asked : (idle looks : ℕ) (slots : List Slotted) (one : Slotted) → IsNew looks one.trace
    → WereAsked idle looks slots
    → WereAsked idle looks (slots ++ one ∷ [])
new_asked idle looks slots one new h = λ some.
    All-push (λ (x : Slotted). IsAsked looks x.trace) slots one (h some) (asked_new looks one.trace new)

pub place_on : (course : Course) (at : ℕ) → ((end : End) → course ≡ Over end → ⊥) → place_behind course at ≡ at + 1
place_on Moved at goes = refl
place_on Still at goes = refl
place_on (Over end) at goes = absurd (goes end refl)

pub take_all : {A : Type 0} (n : ℕ) (items : List A) → length items ≤ n → take n items ≡ items
take_all {A} n [] le = none n where
  none : (n : ℕ) → take {A = A} n [] ≡ []
  none zero = refl
  none (suc n) = refl
take_all zero (x ∷ items) le = absurd (omega (arith, le))
take_all {A} (suc n) (x ∷ items) le = ap (λ (ys : List A). x ∷ ys) (take_all n items (omega (arith, le)))

pub all_asked : (idle looks n : ℕ) (items : List Slotted) → length items ≤ n → WereAsked idle looks (take n items)
    → WereAsked idle looks items
all_asked idle looks n items le h = subst (WereAsked idle looks) (take_all n items le) h

pub none_asked : (idle looks : ℕ) → WereAsked idle looks []
none_asked idle looks = λ some. All-nil (λ (x : Slotted). IsAsked looks x.trace)
