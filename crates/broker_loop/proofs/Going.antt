-- Connections that are served go on.
use Rattle.std.proofs.Common.{◌≡◌, ◌≢◌, inl, inr, ◌⊎◌, ℕ, zero, suc, ◌<◌, List, [], ◌∷◌, ◌++◌, length, length-append, map, Option, Some, None, true, slice_get, append-nil, append_assoc, refl, sym, ap, subst, ◌∙◌, arith}
use Rattle.std.specs.List.{All, Contains}
use Rattle.std.proofs.lemmas.List.Elements.{All-nil, All-append, All-cons, All-head, All-tail, All-push, All-weaker, Contains-append_left, Contains-append_right, Contains-append_cases, Contains-push}
use Rattle.broker_answers.specs.Streams.{Stream}
use Rattle.broker_answers.specs.Talk.{Event, Begins, GivesUp, Ends as Leaving, World, world, rests, Happens, Opens, Leaves}
use Rattle.broker_answers.specs.Servants.{Acting}
use Rattle.broker_answers.specs.Objects.{Served}
use Rattle.broker_answers.specs.Serving.{Moves, Serves}
use Rattle.iiop_broker.specs.Ends.{Adds, Gives, IsEmpty}
use Rattle.iiop_broker.specs.Outcomes.{Ends}
use Rattle.iiop_broker.proofs.Going.{gives_start}
use Rattle.iiop_broker.proofs.Written.{adds_nothing, adds_then}
use Rattle.broker_loop.specs.declared.slot.Course.TheVariants.{Over}
use Rattle.broker_loop.specs.Carried.{Log, answered, brought, connection_of, hearings}
use Rattle.broker_loop.specs.Limits.{IsTimed}
use Rattle.broker_loop.specs.Telling.{IsAsked, IsNew, Trace}
use Rattle.broker_loop.specs.Visits.{IsShut, IsGivenUp, IsFinished, IsForsaken, HasEnded, IsLast, Gone, gone, IsCarried}
use Rattle.broker_loop.specs.declared.listener.End.{End}
use Rattle.broker_loop.specs.declared.listener.End.TheVariants.{Finished, Failed, GivenUp, Late}
use Rattle.broker_loop.specs.inner.Turns.{IsHandedBack, IsLetGo}
use Rattle.broker_loop.specs.inner.Waits.{unwaited}
use Rattle.broker_loop.specs.inner.Going.{Slotted, slotted, numbers, keys, IsRising, IsOpen, IsGone, IsGoing, IsOn}
use Rattle.broker_loop.proofs.Parts.{all_parts, all_joined, rising_apart, rising_without, rising_with}
use Rattle.broker_loop.proofs.Logs.{brought_own, answered_own, brought_other, answered_other, brought_none, answered_none, hearings_none, hearings_other, hearings_same, follows_more}
use Rattle.broker_loop.proofs.Keys.{keys_without}
use Rattle.broker_loop.proofs.Times.{asked_new, let_go_asked, let_go_timed, timed_never}

-- ---- lists

pub map_joined : {A B : Type 0} (f : A → B) (front : List A) (x : A) (back : List A)
    → map f (front ++ x ∷ back) ≡ map f front ++ f x ∷ map f back
map_joined f [] x back = refl
map_joined {A} {B} f (y ∷ front) x back = ap (λ (ys : List B). f y ∷ ys) (map_joined f front x back)

map_two : {A B : Type 0} (f : A → B) (front back : List A) → map f (front ++ back) ≡ map f front ++ map f back
map_two f [] back = refl
map_two {A} {B} f (y ∷ front) back = ap (λ (ys : List B). f y ∷ ys) (map_two f front back)

same_numbers : (front : List Slotted) (s t : Slotted) (back : List Slotted) → t.number ≡ s.number
    → numbers (front ++ s ∷ back) ≡ numbers (front ++ t ∷ back)
same_numbers [] s t back same = ap (λ (n : ℕ). n ∷ numbers back) (sym same)
same_numbers (x ∷ front) s t back same = ap (λ (ns : List ℕ). x.number ∷ ns) (same_numbers front s t back same)

all_of_map : {A B : Type 0} (P : B → Type 0) (f : A → B) (xs : List A) → All P (map f xs) → All (λ x. P (f x)) xs
all_of_map P f [] h = All-nil (λ x. P (f x))
all_of_map P f (x ∷ xs) h =
    All-cons (λ y. P (f y)) x xs (All-head P (f x) (map f xs) h) (all_of_map P f xs (All-tail P (f x) (map f xs) h))

pub all_to_map : {A B : Type 0} (P : B → Type 0) (f : A → B) (xs : List A) → All (λ x. P (f x)) xs → All P (map f xs)
all_to_map P f [] h = All-nil P
all_to_map P f (x ∷ xs) h =
    All-cons P (f x) (map f xs) (All-head (λ y. P (f y)) x xs h) (all_to_map P f xs (All-tail (λ y. P (f y)) x xs h))

pub all_both : {A : Type 0} (P Q R : A → Type 0) (xs : List A) → ((x : A) → P x → Q x → R x) → All P xs → All Q xs
    → All R xs
all_both P Q R [] h p q = All-nil R
all_both P Q R (x ∷ xs) h p q =
    All-cons R x xs (h x (All-head P x xs p) (All-head Q x xs q))
    (all_both P Q R xs h (All-tail P x xs p) (All-tail Q x xs q))

none_some : {A B : Type 0} (a : A) → None ≡ Some a → B
none_some a e = absurd (cc)

pub get_below : {A : Type 0} (xs : List A) (n : ℕ) (x : A) → slice_get xs n ≡ Some x → n < length xs
get_below [] n x e = none_some x e
get_below (y ∷ ys) zero x e = omega arith
get_below (y ∷ ys) (suc n) x e = let below = get_below ys n x e in omega (arith, below)

get_more : {A : Type 0} (xs : List A) (n : ℕ) (x y : A) → slice_get xs n ≡ Some x → slice_get (xs ++ y ∷ []) n ≡ Some x
get_more [] n x y e = none_some x e
get_more (z ∷ zs) zero x y e = e
get_more (z ∷ zs) (suc n) x y e = get_more zs n x y e

get_last : {A : Type 0} (xs : List A) (y : A) → slice_get (xs ++ y ∷ []) (length xs) ≡ Some y
get_last [] y = refl
get_last (x ∷ xs) y = get_last xs y

module _ {S : Type 0} (acting : Acting S) (served : Served) (idle : ℕ) (before : S) where
  -- ---- what a longer log changes nothing of

  shut_still : (said more : Log) (c : ℕ) → IsShut acting served before said c
      → IsShut acting served before (said ++ more) c
  shut_still said more c h = record {
    front = h.front;
    later = h.later ++ more;
    split = ap (λ (s : Log). s ++ more) h.split ∙ append_assoc h.front h.later more;
    then = h.then;
    follows = h.follows;
    closed = h.closed;
  }

  given_still : (said more : Log) (c : ℕ) → IsGivenUp said c → IsGivenUp (said ++ more) c
  given_still said more c h = record {
    front = h.front;
    later = h.later ++ more;
    octets = h.octets;
    j = h.j;
    split = ap (λ (s : Log). s ++ more) h.split ∙ append_assoc h.front ((GivesUp c h.octets h.j, []) ∷ h.later) more;
  }

  finished_still : (said more : Log) (c : ℕ) (waiting : List ℕ) (to : Ends)
      → IsFinished acting served before said c waiting to
      → IsFinished acting served before (said ++ more) c waiting to
  finished_still said more c waiting to h = record { sent = h.sent; done = by h.done } where
    by : IsEmpty to.left ⊎ IsShut acting served before said c → IsEmpty to.left
        ⊎ IsShut acting served before (said ++ more) c
    by (inl empty) = inl empty
    by (inr shut) = inr (shut_still said more c shut)

  forsaken_still : (said more : Log) (c : ℕ) (waiting : List ℕ) → brought c (said ++ more) ≡ brought c said
      → IsForsaken said c waiting → IsForsaken (said ++ more) c waiting
  forsaken_still said more c waiting same h = record { sent = h.sent; wanted = by h.wanted } where
    by : IsGivenUp said c ⊎ (brought c said ≡ []) → IsGivenUp (said ++ more) c ⊎ (brought c (said ++ more) ≡ [])
    by (inl given) = inl (given_still said more c given)
    by (inr none) = inr (same ∙ none)

  pub ended_still : (said more : Log) (c : ℕ) (waiting : List ℕ) (to : Ends) (end : End)
      → brought c (said ++ more) ≡ brought c said
      → HasEnded acting served idle before said c waiting to end
      → HasEnded acting served idle before (said ++ more) c waiting to end
  ended_still said more c waiting to Finished same h = finished_still said more c waiting to h
  ended_still said more c waiting to Failed same h = h
  ended_still said more c waiting to GivenUp same h = forsaken_still said more c waiting same h
  ended_still said more c waiting to (Late limit) same h = h

  timed_still : (said said' : Log) (c : ℕ) (to : Gone) → hearings c said' ≡ hearings c said
      → IsTimed idle said c to.trace to.end
      → IsTimed idle said' c to.trace to.end
  timed_still said said' c to same h = record {
    deeds = h.deeds;
    last = h.last;
    pieces_are = same ∙ h.pieces_are;
    noted = h.noted;
    timely = h.timely;
  }

  carried_still : (said : Log) (e : Event) (a : List ℕ) (c : ℕ) (from : Ends) (to : Gone) → connection_of e ≢ c
      → IsCarried acting served idle before said c from to
      → IsCarried acting served idle before (said ++ (e, a) ∷ []) c from to
  carried_still said e a c from to differs h = record {
    sent = h.sent;
    waiting = h.waiting;
    last = h.last;
    answer_is = answered_other c said e a differs ∙ h.answer_is;
    read = subst (λ (o : List ℕ). Gives from.left o to.told.left) (sym (brought_other c said e a differs)) h.read;
    wrote = h.wrote;
    last_is = h.last_is;
    ended = ended_still said ((e, a) ∷ []) c h.waiting to.told to.end (brought_other c said e a differs) h.ended;
    asked = h.asked;
    timed = λ some. timed_still said (said ++ (e, a) ∷ []) c to (hearings_other c said e a differs) (h.timed some);
  }

  open_still : (said : Log) (e : Event) (a : List ℕ) (came : List Ends) (s : Slotted) → connection_of e ≢ s.number
      → IsOpen said came s → IsOpen (said ++ (e, a) ∷ []) came s
  open_still said e a came s differs h = record {
    from = h.from;
    came_is = h.came_is;
    sent = h.sent;
    answer_is = answered_other s.number said e a differs ∙ h.answer_is;
    read = subst (λ (o : List ℕ). Gives h.from.left o s.told.left) (sym (brought_other s.number said e a differs))
        h.read;
    wrote = h.wrote;
  }

  open_more : (said : Log) (came : List Ends) (other : Ends) (s : Slotted) → IsOpen said came s
      → IsOpen said (came ++ other ∷ []) s
  open_more said came other s h = record {
    from = h.from;
    came_is = get_more came s.number h.from other h.came_is;
    sent = h.sent;
    answer_is = h.answer_is;
    read = h.read;
    wrote = h.wrote;
  }

  -- ---- an event of a connection that stays

  known_with : (came : List Ends) (ended : List (ℕ × Gone)) (w : World S Stream) (slots : List Slotted)
      (g : IsGoing acting served idle before came ended w slots) (e : Event) (a : List ℕ)
      → connection_of e < length came
      → All (λ one. connection_of one.0 < length came) (g.said ++ (e, a) ∷ [])
  known_with came ended w slots g e a below =
      All-push (λ one. connection_of one.0 < length came) g.said (e, a) g.known below

  pub goes_on : (came : List Ends) (ended : List (ℕ × Gone)) (w w' : World S Stream) (front : List Slotted)
      (s t : Slotted)
      (back : List Slotted) (e : Event) (a : List ℕ)
      (g : IsGoing acting served idle before came ended w (front ++ s ∷ back))
      → Happens rests (Serves acting served) (Moves acting served) w e a w' → connection_of e ≡ s.number
      → t.number ≡ s.number
      → keys w'.there ≡ keys w.there → IsOpen (g.said ++ (e, a) ∷ []) came t
      → (after : IsGoing acting served idle before came ended w' (front ++ t ∷ back))
      × (after.said ≡ g.said ++ (e, a) ∷ [])
  goes_on came ended w w' front s t back e a g h its same kept opened =
      let said : Log = g.said ++ (e, a) ∷ [] in
      let ns = same_numbers front s t back same in
      let parts = all_parts (IsOpen g.said came) front s back g.opened in
      let rising = subst (IsRising 0) (map_joined (λ (x : Slotted). x.number) front s back) g.rising in
      let apart = rising_apart 0 (numbers front) s.number (numbers back) rising in
      let still : (x : Slotted) → IsOpen g.said came x → x.number ≢ s.number → IsOpen said came x =
      λ x o differs. open_still g.said e a came x (λ is. differs (sym is ∙ its)) o in (
        record {
          said = said;
          follows = follows_more rests (Serves acting served) (Moves acting served) (world before []) g.said w e a w'
              g.follows h;
          there = kept ∙ g.there ∙ ns;
          rising = subst (IsRising 0) ns g.rising;
          known = known_with came ended w (front ++ s ∷ back) g e a
              (subst (λ (n : ℕ). n < length came) (sym its) (get_below came s.number parts.1.from parts.1.came_is));
          opened = all_joined (IsOpen said came) front t back
              (all_both (IsOpen g.said came) (λ x. x.number ≢ s.number) (IsOpen said came) front still parts.0
              (all_of_map (λ n. n ≢ s.number) (λ (x : Slotted). x.number) front apart.0))
              opened
              (all_both (IsOpen g.said came) (λ x. x.number ≢ s.number) (IsOpen said came) back still parts.2
              (all_of_map (λ n. n ≢ s.number) (λ (x : Slotted). x.number) back apart.1));
          gone = All-weaker (IsGone acting served idle before g.said came (front ++ s ∷ back))
              (IsGone acting served idle before said came (front ++ t ∷ back))
              (λ one o.
              let others = all_parts (λ slot. slot.number ≢ one.0) front s back o.apart in
              record {
                from = o.from;
                came_is = o.came_is;
                carried = carried_still g.said e a one.0 o.from one.1 (λ is. others.1 (sym its ∙ is)) o.carried;
                apart = all_joined (λ slot. slot.number ≢ one.0) front t back others.0 (λ is. others.1 (sym same ∙ is))
                    others.2;
              })
              ended g.gone;
          all = λ c lt. in_either c ns (g.all c lt);
        },
        refl,
      )
    where
      in_either : (c : ℕ) → numbers (front ++ s ∷ back) ≡ numbers (front ++ t ∷ back)
          → Contains (numbers (front ++ s ∷ back)) c ⊎ Contains (keys ended) c
          → Contains (numbers (front ++ t ∷ back)) c ⊎ Contains (keys ended) c
      in_either c ns (inl there) = inl (subst (λ (xs : List ℕ). Contains xs c) ns there)
      in_either c ns (inr there) = inr there

  -- ---- a connection that moves without an event

  pub moves_on : (came : List Ends) (ended : List (ℕ × Gone)) (w : World S Stream) (front : List Slotted)
      (s t : Slotted)
      (back : List Slotted) (g : IsGoing acting served idle before came ended w (front ++ s ∷ back))
      → t.number ≡ s.number
      → IsOpen g.said came t
      → (after : IsGoing acting served idle before came ended w (front ++ t ∷ back)) × (after.said ≡ g.said)
  moves_on came ended w front s t back g same opened =
      let ns = same_numbers front s t back same in
      let parts = all_parts (IsOpen g.said came) front s back g.opened in (
        record {
          said = g.said;
          follows = g.follows;
          there = g.there ∙ ns;
          rising = subst (IsRising 0) ns g.rising;
          known = g.known;
          opened = all_joined (IsOpen g.said came) front t back parts.0 opened parts.2;
          gone = All-weaker (IsGone acting served idle before g.said came (front ++ s ∷ back))
              (IsGone acting served idle before g.said came (front ++ t ∷ back))
              (λ one o.
              let others = all_parts (λ slot. slot.number ≢ one.0) front s back o.apart in
              record {
                from = o.from;
                came_is = o.came_is;
                carried = o.carried;
                apart = all_joined (λ slot. slot.number ≢ one.0) front t back others.0 (λ is. others.1 (sym same ∙ is))
                    others.2;
              })
              ended g.gone;
          all = λ c lt. in_either c ns (g.all c lt);
        },
        refl,
      )
    where
      in_either : (c : ℕ) → numbers (front ++ s ∷ back) ≡ numbers (front ++ t ∷ back)
          → Contains (numbers (front ++ s ∷ back)) c ⊎ Contains (keys ended) c
          → Contains (numbers (front ++ t ∷ back)) c ⊎ Contains (keys ended) c
      in_either c ns (inl there) = inl (subst (λ (xs : List ℕ). Contains xs c) ns there)
      in_either c ns (inr there) = inr there

  -- ---- the times of the others

  pub others_apart : (came : List Ends) (ended : List (ℕ × Gone)) (w : World S Stream) (front : List Slotted)
      (s : Slotted)
      (back : List Slotted) → IsGoing acting served idle before came ended w (front ++ s ∷ back)
      → All (λ x. x.number ≢ s.number) (front ++ back)
  others_apart came ended w front s back g =
      let rising = subst (IsRising 0) (map_joined (λ (x : Slotted). x.number) front s back) g.rising in
      let apart = rising_apart 0 (numbers front) s.number (numbers back) rising in
      All-append (λ x. x.number ≢ s.number) front back
      (all_of_map (λ n. n ≢ s.number) (λ (x : Slotted). x.number) front apart.0)
      (all_of_map (λ n. n ≢ s.number) (λ (x : Slotted). x.number) back apart.1)

  -- ---- one more

  pub all_below : (said : Log) (came : List Ends) (slots : List Slotted) → All (IsOpen said came) slots
      → All (λ x. x.number < length came) slots
  all_below said came slots opened =
      All-weaker (IsOpen said came) (λ x. x.number < length came) (λ x o. get_below came x.number o.from o.came_is)
      slots opened

  longer : (came : List Ends) (other : Ends) (n : ℕ) → n < length came → n < length (came ++ other ∷ [])
  longer came other n lt = omega (arith, lt, length-append came (other ∷ []))

  -- of those that came before, where one more came
  came_before : (came : List Ends) (other : Ends) (c : ℕ) → c < length (came ++ other ∷ []) → (c < length came)
      ⊎ (c ≡ length came)
  came_before [] other zero lt = inr refl
  came_before [] other (suc c) lt = absurd (omega (arith, lt))
  came_before (x ∷ came) other zero lt = inl (omega arith)
  came_before (x ∷ came) other (suc c) lt = by (came_before came other c (omega (arith, lt))) where
    by : (c < length came) ⊎ (c ≡ length came) → (suc c < suc (length came)) ⊎ (suc c ≡ suc (length came))
    by (inl below) = inl (omega (arith, below))
    by (inr is) = inr (ap suc is)

  pub begins : (came : List Ends) (ended : List (ℕ × Gone)) (w w' : World S Stream) (slots : List Slotted) (c : ℕ)
      (told : Ends)
      (trace : Option Trace) (a : List ℕ) (g : IsGoing acting served idle before came ended w slots) → c ≡ length came
      → Opens rests w c a w'
      → (after : IsGoing acting served idle before (came ++ told ∷ []) ended w'
      (slots ++ slotted c told trace unwaited [] ∷ []))
      × (brought c after.said ≡ []) × (after.said ≡ g.said ++ (Begins c, a) ∷ [])
  begins came ended w w' slots c told trace a g number opens =
      let said : Log = g.said ++ (Begins c, a) ∷ [] in
      let came' : List Ends = came ++ told ∷ [] in
      let s : Slotted = slotted c told trace unwaited [] in
      let below = all_below g.said came slots g.opened in
      let low : (n : ℕ) → n < length came → c ≢ n = λ n lt is. omega (arith, lt, number, is) in
      let none : brought c said ≡ [] =
      brought_own c g.said (Begins c) a refl ∙ append-nil (brought c g.said)
      ∙ brought_none (length came) c g.said (omega (arith, number)) g.known in
      let silent : answered c said ≡ [] =
      answered_own c g.said (Begins c) a refl
      ∙ ap (λ (xs : List ℕ). xs ++ a) (answered_none (length came) c g.said (omega (arith, number)) g.known)
      ∙ opens.silent in (
        record {
          said = said;
          follows = follows_more rests (Serves acting served) (Moves acting served) (world before []) g.said w
              (Begins c) a w' g.follows opens;
          there = ap (λ (x : World S Stream). keys x.there) opens.now
              ∙ map_two (λ (x : ℕ × Stream). x.0) w.there ((c, rests.fresh) ∷ [])
              ∙ ap (λ (ns : List ℕ). ns ++ c ∷ []) g.there ∙ sym (map_two (λ (x : Slotted). x.number) slots (s ∷ []));
          rising = subst (IsRising 0) (sym (map_two (λ (x : Slotted). x.number) slots (s ∷ [])))
              (rising_with 0 (numbers slots) c g.rising
              (all_to_map (λ n. n < c) (λ (x : Slotted). x.number) slots
              (All-weaker (λ x. x.number < length came) (λ x. x.number < c) (λ x lt. omega (arith, lt, number)) slots
              below)) (omega arith));
          known = All-push (λ one. connection_of one.0 < length came') g.said (Begins c, a)
              (All-weaker (λ one. connection_of one.0 < length came) (λ one. connection_of one.0 < length came')
              (λ one lt. longer came told (connection_of one.0) lt) g.said g.known)
              (omega (arith, number, length-append came (told ∷ [])));
          opened = All-push (IsOpen said came') slots s
              (all_both (IsOpen g.said came) (λ x. x.number < length came) (IsOpen said came') slots
              (λ x o lt. open_more said came told x (open_still g.said (Begins c) a came x (low x.number lt) o))
              g.opened below)
              (record {
                from = told;
                came_is = subst (λ (n : ℕ). slice_get came' n ≡ Some told) (sym number) (get_last came told);
                sent = [];
                answer_is = silent;
                read = subst (λ (o : List ℕ). Gives told.left o told.left) (sym none) (gives_start told.left);
                wrote = adds_nothing told.written;
              });
          gone = All-weaker (IsGone acting served idle before g.said came slots)
              (IsGone acting served idle before said came' (slots ++ s ∷ []))
              (λ one o.
              let lt = get_below came one.0 o.from o.came_is in
              record {
                from = o.from;
                came_is = get_more came one.0 o.from told o.came_is;
                carried = carried_still g.said (Begins c) a one.0 o.from one.1 (low one.0 lt) o.carried;
                apart = All-push (λ slot. slot.number ≢ one.0) slots s o.apart (low one.0 lt);
              })
              ended g.gone;
          all = λ d lt. with_one d (came_before came told d lt);
        },
        none,
        refl,
      )
    where
      either : (d : ℕ) → Contains (numbers slots) d ⊎ Contains (keys ended) d
          → Contains (numbers (slots ++ slotted c told trace unwaited [] ∷ [])) d ⊎ Contains (keys ended) d
      either d (inl there) =
          inl (subst (λ (ns : List ℕ). Contains ns d)
          (sym (map_two (λ (x : Slotted). x.number) slots (slotted c told trace unwaited [] ∷ [])))
          (Contains-append_left (numbers slots) (c ∷ []) d there))
      either d (inr there) = inr there

      with_one : (d : ℕ) → (d < length came) ⊎ (d ≡ length came)
          → Contains (numbers (slots ++ slotted c told trace unwaited [] ∷ [])) d ⊎ Contains (keys ended) d
      with_one d (inl lt) = either d (g.all d lt)
      with_one d (inr is) =
          inl (subst (λ (ns : List ℕ). Contains ns d)
          (sym (map_two (λ (x : Slotted). x.number) slots (slotted c told trace unwaited [] ∷ [])))
          (subst (λ (n : ℕ). Contains (numbers slots ++ c ∷ []) n) (number ∙ sym is) (Contains-push (numbers slots) c)))

  -- one that came and whose begin wanted memory
  pub not_begun : (came : List Ends) (ended : List (ℕ × Gone)) (w : World S Stream) (slots : List Slotted) (c : ℕ)
      (told : Ends)
      (trace : Option Trace) (looks : ℕ) (g : IsGoing acting served idle before came ended w slots) → c ≡ length came
      → IsNew looks trace
      → (after : IsGoing acting served idle before (came ++ told ∷ [])
      (ended ++ (c, gone told trace looks GivenUp) ∷ []) w slots) × (after.said ≡ g.said)
  not_begun came ended w slots c told trace looks g number new =
      let came' : List Ends = came ++ told ∷ [] in
      let below = all_below g.said came slots g.opened in
      let none = brought_none (length came) c g.said (omega (arith, number)) g.known in
      let unheard = hearings_none (length came) c g.said (omega (arith, number)) g.known in (
        record {
          said = g.said;
          follows = g.follows;
          there = g.there;
          rising = g.rising;
          known = All-weaker (λ one. connection_of one.0 < length came) (λ one. connection_of one.0 < length came')
              (λ one lt. longer came told (connection_of one.0) lt) g.said g.known;
          opened = All-weaker (IsOpen g.said came) (IsOpen g.said came') (λ x o. open_more g.said came told x o) slots
              g.opened;
          gone = All-push (IsGone acting served idle before g.said came' slots) ended (c, gone told trace looks GivenUp)
              (All-weaker (IsGone acting served idle before g.said came slots)
              (IsGone acting served idle before g.said came' slots)
              (λ one o. record {
                from = o.from;
                came_is = get_more came one.0 o.from told o.came_is;
                carried = o.carried;
                apart = o.apart;
              })
              ended g.gone)
              (record {
                from = told;
                came_is = subst (λ (n : ℕ). slice_get came' n ≡ Some told) (sym number) (get_last came told);
                carried = record {
                  sent = [];
                  waiting = [];
                  last = [];
                  answer_is = answered_none (length came) c g.said (omega (arith, number)) g.known;
                  read = subst (λ (o : List ℕ). Gives told.left o told.left) (sym none) (gives_start told.left);
                  wrote = adds_nothing told.written;
                  last_is = refl;
                  ended = record { sent = refl; wanted = inr none };
                  asked = λ some. asked_new looks trace new;
                  timed = λ some. timed_never idle g.said c looks trace unheard new;
                };
                apart = All-weaker (λ x. x.number < length came) (λ x. x.number ≢ c)
                    (λ x lt is. omega (arith, lt, is, number)) slots below;
              });
          all = λ d lt. with_one d (came_before came told d lt);
        },
        refl,
      )
    where
      keys_more : (d : ℕ) → Contains (keys ended ++ c ∷ []) d
          → Contains (keys (ended ++ (c, gone told trace looks GivenUp) ∷ [])) d
      keys_more d there = subst (λ (ns : List ℕ). Contains ns d)
          (sym (map_two (λ (x : ℕ × Gone). x.0) ended ((c, gone told trace looks GivenUp) ∷ []))) there

      either : (d : ℕ) → Contains (numbers slots) d ⊎ Contains (keys ended) d
          → Contains (numbers slots) d ⊎ Contains (keys (ended ++ (c, gone told trace looks GivenUp) ∷ [])) d
      either d (inl there) = inl there
      either d (inr there) = inr (keys_more d (Contains-append_left (keys ended) (c ∷ []) d there))

      with_one : (d : ℕ) → (d < length came) ⊎ (d ≡ length came)
          → Contains (numbers slots) d ⊎ Contains (keys (ended ++ (c, gone told trace looks GivenUp) ∷ [])) d
      with_one d (inl lt) = either d (g.all d lt)
      with_one d (inr is) =
          inr (keys_more d (subst (λ (n : ℕ). Contains (keys ended ++ c ∷ []) n) (number ∙ sym is)
          (Contains-push (keys ended) c)))

  plain : (said : Log) (c : ℕ) (from : Ends) (sent : List ℕ) (s : Slotted) (end : End) (to : Gone)
      → answered c said ≡ sent ++ s.waiting → Gives from.left (brought c said) s.told.left
      → Adds from.written sent s.told.written
      → HasEnded acting served idle before said c s.waiting s.told end
      → IsLast end s.waiting [] → to.told ≡ s.told → to.end ≡ end
      → (0 < idle → IsAsked to.looks to.trace) → (0 < idle → IsTimed idle said c to.trace end)
      → IsCarried acting served idle before said c from to
  plain said c from sent s end to answer read wrote ended last_is told_is end_is asked timed = record {
    sent = sent;
    waiting = s.waiting;
    last = [];
    answer_is = answer;
    read = subst (λ (e : Ends). Gives from.left (brought c said) e.left) (sym told_is) read;
    wrote = subst (λ (e : Ends). Adds from.written (sent ++ []) e.written) (sym told_is)
        (subst (λ (xs : List ℕ). Adds from.written xs s.told.written) (sym (append-nil sent)) wrote);
    last_is = subst (λ (e : End). IsLast e s.waiting []) (sym end_is) last_is;
    ended = subst (λ (e : End). HasEnded acting served idle before said c s.waiting to.told e) (sym end_is)
        (subst (λ (e : Ends). HasEnded acting served idle before said c s.waiting e end) (sym told_is) ended);
    asked = asked;
    timed = λ some. subst (λ (e : End). IsTimed idle said c to.trace e) (sym end_is) (timed some);
  }

  -- what is known of one that is let go of, by how it ended
  let_go : (said : Log) (c : ℕ) (from : Ends) (sent : List ℕ) (s : Slotted) (end : End) (to : Gone)
      → answered c said ≡ sent ++ s.waiting → Gives from.left (brought c said) s.told.left
      → Adds from.written sent s.told.written
      → HasEnded acting served idle before said c s.waiting s.told end
      → IsLetGo s end to.told to.trace → to.end ≡ end
      → (0 < idle → IsAsked to.looks to.trace) → (0 < idle → IsTimed idle said c to.trace end)
      → IsCarried acting served idle before said c from to
  let_go said c from sent s Finished to answer read wrote ended is end_is asked timed =
      plain said c from sent s Finished to answer read wrote ended refl is.0 end_is asked timed
  let_go said c from sent s Failed to answer read wrote ended is end_is asked timed =
      plain said c from sent s Failed to answer read wrote ended refl is.0 end_is asked timed
  let_go said c from sent s GivenUp to answer read wrote ended is end_is asked timed =
      plain said c from sent s GivenUp to answer read wrote ended refl is.0 end_is asked timed
  let_go said c from sent s (Late limit) to answer read wrote ended is end_is asked timed = record {
    sent = sent;
    waiting = s.waiting;
    last = is.last;
    answer_is = answer;
    read = subst (λ l. Gives from.left (brought c said) l) (sym is.left) read;
    wrote = adds_then from.written s.told.written to.told.written sent is.last wrote is.written;
    last_is = subst (λ (e : End). IsLast e s.waiting is.last) (sym end_is) is.last_is;
    ended = subst (λ (e : End). HasEnded acting served idle before said c s.waiting to.told e) (sym end_is) ended;
    asked = asked;
    timed = λ some. subst (λ (e : End). IsTimed idle said c to.trace e) (sym end_is) (timed some);
  }

  -- ---- one less

  pub leaves : (came : List Ends) (ended : List (ℕ × Gone)) (w w' : World S Stream) (front : List Slotted) (s : Slotted)
      (back : List Slotted) (a : List ℕ) (end : End) (looks : ℕ) (to : Gone)
      (on : IsOn acting served idle before came ended w true front s back (Over end)) → Leaves w s.number a w'
      → IsHandedBack s end looks to
      → (0 < idle → IsAsked looks s.trace)
      → (after : IsGoing acting served idle before came (ended ++ (s.number, to) ∷ []) w' (front ++ back))
      × (after.said ≡ on.going.said ++ (Leaving s.number, a) ∷ [])
  leaves came ended w w' front s back a end looks to on left parted was_asked =
      let g = on.going in
      let c : ℕ = s.number in
      let said : Log = g.said ++ (Leaving c, a) ∷ [] in
      let parts = all_parts (IsOpen g.said came) front s back g.opened in
      let ns = map_joined (λ (x : Slotted). x.number) front s back in
      let rising = subst (IsRising 0) ns g.rising in
      let apart = rising_apart 0 (numbers front) c (numbers back) rising in
      let apart_front = all_of_map (λ n. n ≢ c) (λ (x : Slotted). x.number) front apart.0 in
      let apart_back = all_of_map (λ n. n ≢ c) (λ (x : Slotted). x.number) back apart.1 in
      let still : (x : Slotted) → IsOpen g.said came x → x.number ≢ c → IsOpen said came x =
      λ x o differs. open_still g.said (Leaving c) a came x (λ is. differs (sym is)) o in
      let nothing : brought c said ≡ brought c g.said = brought_own c g.said (Leaving c) a refl
      ∙ append-nil (brought c g.said) in
      let silent : answered c said ≡ answered c g.said =
      answered_own c g.said (Leaving c) a refl ∙ ap (λ (xs : List ℕ). answered c g.said ++ xs) left.silent
      ∙ append-nil (answered c g.said) in
      let unheard : hearings c said ≡ hearings c g.said = hearings_same c g.said (Leaving c) a refl in
      let o = parts.1 in (
        record {
          said = said;
          follows = follows_more rests (Serves acting served) (Moves acting served) (world before []) g.said w
              (Leaving c) a w' g.follows left;
          there = ap (λ (x : World S Stream). keys x.there) left.now
              ∙ keys_without c w.there (numbers front) (numbers back) (g.there ∙ ns) apart.0
              ∙ sym (map_two (λ (x : Slotted). x.number) front back);
          rising = subst (IsRising 0) (sym (map_two (λ (x : Slotted). x.number) front back))
              (rising_without 0 (numbers front) c (numbers back) rising);
          known = known_with came ended w (front ++ s ∷ back) g (Leaving c) a (get_below came c o.from o.came_is);
          opened = all_two (IsOpen said came) front back
              (all_both (IsOpen g.said came) (λ x. x.number ≢ c) (IsOpen said came) front still parts.0 apart_front)
              (all_both (IsOpen g.said came) (λ x. x.number ≢ c) (IsOpen said came) back still parts.2 apart_back);
          gone = All-push (IsGone acting served idle before said came (front ++ back)) ended (c, to)
              (All-weaker (IsGone acting served idle before g.said came (front ++ s ∷ back))
              (IsGone acting served idle before said came (front ++ back))
              (λ one k.
              let others = all_parts (λ slot. slot.number ≢ one.0) front s back k.apart in
              record {
                from = k.from;
                came_is = k.came_is;
                carried = carried_still g.said (Leaving c) a one.0 k.from one.1 others.1 k.carried;
                apart = all_two (λ slot. slot.number ≢ one.0) front back others.0 others.2;
              })
              ended g.gone)
              (record {
                from = o.from;
                came_is = o.came_is;
                carried = let_go said c o.from o.sent s end to
                    (silent ∙ o.answer_is)
                    (subst (λ (x : List ℕ). Gives o.from.left x s.told.left) (sym nothing) o.read) o.wrote
                    (ended_still g.said ((Leaving c, a) ∷ []) c s.waiting s.told end nothing (on.over end refl))
                    parted.let_go parted.end_is
                    (λ some. subst (λ (n : ℕ). IsAsked n to.trace) (sym parted.looks_are)
                    (let_go_asked looks s end to.told to.trace parted.let_go (was_asked some)))
                    (λ some. let_go_timed idle g.said said s end to.told to.trace unheard parted.let_go (on.own some));
                apart = all_two (λ slot. slot.number ≢ c) front back apart_front apart_back;
              });
          all = λ d lt. either d (g.all d lt);
        },
        refl,
      )
    where
      all_two : {A : Type 0} (P : A → Type 0) (xs ys : List A) → All P xs → All P ys → All P (xs ++ ys)
      all_two P [] ys p q = q
      all_two P (x ∷ xs) ys p q = All-cons P x (xs ++ ys) (All-head P x xs p) (all_two P xs ys (All-tail P x xs p) q)

      into : (d : ℕ) → Contains (keys ended ++ s.number ∷ []) d → Contains (keys (ended ++ (s.number, to) ∷ [])) d
      into d there = subst (λ (ns : List ℕ). Contains ns d)
          (sym (map_two (λ (x : ℕ × Gone). x.0) ended ((s.number, to) ∷ []))) there

      behind : (d : ℕ) → Contains (s.number ∷ numbers back) d
          → Contains (numbers (front ++ back)) d ⊎ Contains (keys (ended ++ (s.number, to) ∷ [])) d
      behind d (zero, lt, is) =
          inr (into d (subst (λ (n : ℕ). Contains (keys ended ++ s.number ∷ []) n) is
          (Contains-push (keys ended) s.number)))
      behind d (suc k, lt, is) =
          inl (subst (λ (ns : List ℕ). Contains ns d) (sym (map_two (λ (x : Slotted). x.number) front back))
          (Contains-append_right (numbers front) (numbers back) d (k, omega (arith, lt), is)))

      among : (d : ℕ) → Contains (numbers front) d ⊎ Contains (s.number ∷ numbers back) d
          → Contains (numbers (front ++ back)) d ⊎ Contains (keys (ended ++ (s.number, to) ∷ [])) d
      among d (inl there) =
          inl (subst (λ (ns : List ℕ). Contains ns d) (sym (map_two (λ (x : Slotted). x.number) front back))
          (Contains-append_left (numbers front) (numbers back) d there))
      among d (inr there) = behind d there

      either : (d : ℕ) → Contains (numbers (front ++ s ∷ back)) d ⊎ Contains (keys ended) d
          → Contains (numbers (front ++ back)) d ⊎ Contains (keys (ended ++ (s.number, to) ∷ [])) d
      either d (inl there) =
          among d (Contains-append_cases (numbers front) (s.number ∷ numbers back) d
          (subst (λ (ns : List ℕ). Contains ns d) (map_joined (λ (x : Slotted). x.number) front s back) there))
      either d (inr there) = inr (into d (Contains-append_left (keys ended) (s.number ∷ []) d there))
