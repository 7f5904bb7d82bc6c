-- Since when a connection waits, by the times that its listener told.
use Rattle.std.proofs.Common.{◌≡◌, inl, inr, ◌⊎◌, ℕ, zero, suc, ◌+◌, ◌<◌, ◌≤◌, Bool, true, false, List, [], ◌∷◌, ◌++◌, length, length-append, map, Option, Some, None, append-nil, append_assoc, refl, sym, ap, subst, ◌∙◌, arith}
use Rattle.std.specs.List.{Contains}
use Rattle.std.proofs.lemmas.List.Elements.{Contains-append_right}
use Rattle.broker_answers.specs.Streams.{Stream, Closed, cut, cut_behind}
use Rattle.broker_answers.specs.Connections.{at}
use Rattle.broker_answers.specs.Talk.{Brings, GivesUp, World, rests, kept_or_shut}
use Rattle.broker_answers.specs.Servants.{Acting}
use Rattle.broker_answers.specs.Objects.{Served}
use Rattle.broker_answers.proofs.Cuts.{in_pieces}
use Rattle.iiop_broker.specs.Room.{is_begun}
use Rattle.iiop_broker.specs.Outcomes.{Ends}
use Rattle.broker_loop.specs.declared.limits.Waits.{Waits}
use Rattle.broker_loop.specs.declared.listener.End.{End}
use Rattle.broker_loop.specs.declared.listener.End.TheVariants.{Finished, Failed, GivenUp, Late}
use Rattle.broker_loop.specs.declared.listener.Limit.{Limit}
use Rattle.broker_loop.specs.declared.listener.Limit.TheVariants.{Silence, Message, Answer}
use Rattle.broker_loop.specs.declared.slot.Course.{Course}
use Rattle.broker_loop.specs.declared.slot.Course.TheVariants.{Moved, Still, Over}
use Rattle.broker_loop.specs.Carried.{Log, hearings}
use Rattle.broker_loop.specs.Limits.{Deed, Hears, Sends, Asks, HasPassed, IsDue, IsInTime, IsSilent, IsSince, IsTimed, IsTimely, IsUntaken, Lasts, answers, heard, mark_of, sent}
use Rattle.broker_loop.specs.Telling.{AreNoted, Got, IsAsked, IsNew, Mark, Told, Took, Trace, noted, rounds}
use Rattle.broker_loop.specs.inner.Going.{IsHeard, IsTimedSo, IsTurned, Slotted, slotted, stays}
use Rattle.broker_loop.specs.inner.Turns.{HasSent, IsAnswered, IsAtEnd, IsForgotten, IsJudged, IsLetGo, IsLimit, IsStanding}
use Rattle.broker_loop.specs.inner.Waits.{IsOver, IsPassed, Tells, since_of, unwaited}
use Rattle.broker_loop.proofs.Keys.{at_put}
use Rattle.broker_loop.proofs.Logs.{hearings_own, hearings_same}

-- ---- what is noted

pub noted_one : (mark : Mark) (marks : List Mark) (trace trace' : Option Trace) → AreNoted marks trace
    → trace' ≡ noted mark trace
    → AreNoted (mark ∷ marks) trace'
noted_one mark marks None trace' h is = subst (AreNoted (mark ∷ marks)) (sym is) tt
noted_one mark marks (Some trace) trace' h is =
    subst (AreNoted (mark ∷ marks)) (sym is) (ap (λ (ms : List Mark). mark ∷ ms) h)

pub noted_new : (looks : ℕ) (trace : Option Trace) → IsNew looks trace → AreNoted [] trace
noted_new looks None h = tt
noted_new looks (Some trace) h = h.1

pub asked_new : (looks : ℕ) (trace : Option Trace) → IsNew looks trace → IsAsked looks trace
asked_new looks None h = tt
asked_new looks (Some trace) h = let born = h.0 in λ round from before. absurd (omega (arith, born, from, before))

still_told : (mark : Mark) (marks : List Mark) (round : ℕ) → Contains (rounds marks) round
    → Contains (rounds (mark ∷ marks)) round
still_told (Got octets) marks round h = h
still_told (Took octets) marks round h = h
still_told (Told now time) marks round h = Contains-append_right (now ∷ []) (rounds marks) round h

pub asked_still : (looks : ℕ) (mark : Mark) (trace trace' : Option Trace) → trace' ≡ noted mark trace
    → IsAsked looks trace
    → IsAsked looks trace'
asked_still looks mark None trace' is h = subst (IsAsked looks) (sym is) tt
asked_still looks mark (Some trace) trace' is h =
    subst (IsAsked looks) (sym is) (λ round from before. still_told mark trace.marks round (h round from before))

before_or_now : (round looks : ℕ) → round < looks + 1 → (round < looks) ⊎ (round ≡ looks)
before_or_now zero zero lt = inr refl
before_or_now zero (suc looks) lt = inl (omega arith)
before_or_now (suc round) zero lt = absurd (omega (arith, lt))
before_or_now (suc round) (suc looks) lt = next (before_or_now round looks (omega (arith, lt))) where
  next : (round < looks) ⊎ (round ≡ looks) → (suc round < suc looks) ⊎ (suc round ≡ suc looks)
  next (inl less) = inl (omega (arith, less))
  next (inr same) = inr (ap suc same)

pub asked_again : (looks time : ℕ) (trace trace' : Option Trace) → trace' ≡ noted (Told looks time) trace
    → IsAsked looks trace
    → IsAsked (looks + 1) trace'
asked_again looks time None trace' is h = subst (IsAsked (looks + 1)) (sym is) tt
asked_again looks time (Some trace) trace' is h =
    subst (IsAsked (looks + 1)) (sym is) (λ round from before. by round from (before_or_now round looks before)) where
      by : (round : ℕ) → trace.born ≤ round → (round < looks) ⊎ (round ≡ looks)
          → Contains (looks ∷ rounds trace.marks) round
      by round from (inl less) = Contains-append_right (looks ∷ []) (rounds trace.marks) round (h round from less)
      by round from (inr same) = (0, omega arith, sym same)

-- ---- since when it holds

-- since before, or since now
abbrev SinceOr : (List Deed → Type 0) → List Deed → ℕ → ℕ → Type 0
SinceOr Holds past now t = IsSince Holds t past ⊎ (((other : ℕ) → IsSince Holds other past → ⊥) × (t ≡ now))

first_since : (Holds : List Deed → Type 0) (past : List Deed) (now s t : ℕ)
    → (IsSince Holds s past → IsSince Holds t past → s ≡ t)
    → SinceOr Holds past now s → SinceOr Holds past now t → s ≡ t
first_since Holds past now s t further (inl a) (inl b) = further a b
first_since Holds past now s t further (inl a) (inr b) = absurd (b.0 s a)
first_since Holds past now s t further (inr a) (inl b) = absurd (a.0 t b)
first_since Holds past now s t further (inr a) (inr b) = a.1 ∙ sym b.1

one_since : (Holds : List Deed → Type 0) (deeds : List Deed) (s t : ℕ) → IsSince Holds s deeds → IsSince Holds t deeds
    → s ≡ t
one_since Holds [] s t h k = absurd h
one_since Holds (Hears octets answer ∷ past) s t h k = one_since Holds past s t h k
one_since Holds (Sends octets ∷ past) s t h k = one_since Holds past s t h k
one_since Holds (Asks round now ∷ past) s t h k =
    first_since Holds past now s t (λ a b. one_since Holds past s t a b) h.1 k.1

tells_next : (Holds : List Deed → Type 0) (past : List Deed) (before : Option ℕ) (holds : Bool) (round now : ℕ)
    → Tells Holds past before
    → (holds ≡ true → Holds past) → (holds ≡ false → Holds past → ⊥)
    → Tells Holds (Asks round now ∷ past) (since_of before holds now)
tells_next Holds past None false round now told held unheld_is = λ time h. unheld_is refl h.0
tells_next Holds past (Some time) false round now told held unheld_is = λ other h. unheld_is refl h.0
tells_next Holds past None true round now told held unheld_is = (held refl, inr (told, refl))
tells_next Holds past (Some time) true round now told held unheld_is = (held refl, inl told)

tells_hears : (Holds : List Deed → Type 0) (past : List Deed) (octets answer : List ℕ) (since : Option ℕ)
    → Tells Holds past since
    → Tells Holds (Hears octets answer ∷ past) since
tells_hears Holds past octets answer None h = h
tells_hears Holds past octets answer (Some time) h = h

tells_sends : (Holds : List Deed → Type 0) (past : List Deed) (octets : List ℕ) (since : Option ℕ)
    → Tells Holds past since
    → Tells Holds (Sends octets ∷ past) since
tells_sends Holds past octets None h = h
tells_sends Holds past octets (Some time) h = h

is_passed : (idle : ℕ) (limit : Limit) (round now : ℕ) (past : List Deed) (since : Option ℕ)
    → Tells (Lasts limit) (Asks round now ∷ past) since
    → IsOver idle now since → IsDue limit past → HasPassed idle limit round now past
is_passed idle limit round now past None told over due = absurd over
is_passed idle limit round now past (Some time) told over due =
    record { time = time; since = told; long = over; due = due }

isnt_passed : (idle : ℕ) (limit : Limit) (round now : ℕ) (past : List Deed) (since : Option ℕ)
    → Tells (Lasts limit) (Asks round now ∷ past) since
    → (IsOver idle now since → ⊥) → HasPassed idle limit round now past → ⊥
isnt_passed idle limit round now past None told unheld_is h = told h.time h.since
isnt_passed idle limit round now past (Some time) told unheld_is h =
    unheld_is (subst (λ (n : ℕ). n + idle ≤ now)
    (one_since (Lasts limit) (Asks round now ∷ past) h.time time h.since told) h.long)

-- ---- booleans

true_false : (b : Bool) → b ≡ true → b ≡ false → ⊥
true_false b t f = absurd (let both : true ≡ false = sym t ∙ f in cc)

or_false : (b : Bool) → (b ≡ true → ⊥) → b ≡ false
or_false true isnt = absurd (isnt refl)
or_false false isnt = refl

unheld : (before : Option ℕ) (holds : Bool) (now : ℕ) → since_of before holds now ≡ None → holds ≡ false
unheld None true now e = absurd (cc)
unheld (Some time) true now e = absurd (cc)
unheld before false now e = refl

none_held : (before : Option ℕ) (holds : Bool) (now : ℕ) → holds ≡ false → since_of before holds now ≡ None
none_held before holds now e = ap (λ (b : Bool). since_of before b now) e

-- ---- one in its turn

untaken_lengths : (deeds : List Deed) (waiting : List ℕ) → answers deeds ≡ sent deeds ++ waiting → (waiting ≡ [] → ⊥)
    → IsUntaken deeds
untaken_lengths deeds [] is some = absurd (some refl)
untaken_lengths deeds (octet ∷ more) is some =
    let all : length (answers deeds) ≡ length (sent deeds ++ octet ∷ more) = ap length is in
    let long : length (sent deeds ++ octet ∷ more) ≡ length (sent deeds) + length (octet ∷ more) =
    length-append (sent deeds) (octet ∷ more) in
    omega (arith, all, long)

taken_lengths : (deeds : List Deed) (waiting : List ℕ) → answers deeds ≡ sent deeds ++ waiting → waiting ≡ []
    → IsUntaken deeds → ⊥
taken_lengths deeds waiting is none less =
    let all : length (answers deeds) ≡ length (sent deeds) =
    ap length (is ∙ ap (λ (xs : List ℕ). sent deeds ++ xs) none ∙ append-nil (sent deeds)) in
    omega (arith, all, less)

-- of another one an event says nothing
pub timed_other : (idle : ℕ) (still : Bool) (said said' : Log) (there there' : List (ℕ × Stream)) (one : Slotted)
    → IsTimedSo idle still said there one → hearings one.number said' ≡ hearings one.number said
    → at one.number there' ≡ at one.number there → IsTimedSo idle still said' there' one
timed_other idle still said said' there there' one d same kept = record {
  deeds = d.deeds;
  pieces_are = same ∙ d.pieces_are;
  noted = d.noted;
  still_is = d.still_is;
  waiting_is = d.waiting_is;
  stream = by d.stream;
  silent = d.silent;
  untaken = d.untaken;
  in_time = d.in_time;
} where
  by : (at one.number there ≡ Some Closed) ⊎ IsHeard there one d.deeds → (at one.number there' ≡ Some Closed)
      ⊎ IsHeard there' one d.deeds
  by (inl closed) = inl (kept ∙ closed)
  by (inr h) = inr record { kept = kept ∙ h.kept; begun = h.begun }

-- one that ends where it is
pub timed_end : (idle : ℕ) (still : Bool) (said : Log) (there : List (ℕ × Stream)) (s : Slotted)
    → IsTimedSo idle still said there s
    → IsTimed idle said s.number s.trace Finished
timed_end idle still said there s d = record {
  deeds = d.deeds;
  last = [];
  pieces_are = d.pieces_are;
  noted = d.noted;
  timely = d.in_time;
}

pub timed_given : (idle : ℕ) (still : Bool) (said : Log) (there : List (ℕ × Stream)) (s : Slotted)
    → IsTimedSo idle still said there s
    → IsTimed idle said s.number s.trace GivenUp
timed_given idle still said there s d = record {
  deeds = d.deeds;
  last = [];
  pieces_are = d.pieces_are;
  noted = d.noted;
  timely = d.in_time;
}

timely_failed : (idle : ℕ) (end : End) (deeds : List Deed) → end ≡ Failed → IsInTime idle deeds
    → IsTimely idle end deeds
timely_failed idle end deeds is h = subst (λ (e : End). IsTimely idle e deeds) (sym is) h

pub sent_timed : (idle : ℕ) (said : Log) (there : List (ℕ × Stream)) (s t : Slotted) (course : Course)
    → IsTimedSo idle true said there s → HasSent s course t → IsTurned idle (stays course) said there t course
sent_timed idle said there s t Moved d h = record {
  deeds = Sends h.taken ∷ d.deeds;
  pieces_are = ap (λ (n : ℕ). hearings n said) h.number ∙ d.pieces_are;
  noted = noted_one (Took h.taken) (map mark_of d.deeds) s.trace t.trace d.noted h.trace;
  still_is = refl;
  waiting_is = d.waiting_is ∙ ap (λ (xs : List ℕ). sent d.deeds ++ xs) h.waiting
      ∙ sym (append_assoc (sent d.deeds) h.taken t.waiting);
  stream = by d.stream;
  silent = tells_sends (Lasts Silence) d.deeds h.taken t.waits.silent
      (subst (λ (w : Waits). Tells (Lasts Silence) d.deeds w.silent) (sym h.waits) d.silent);
  untaken = tells_sends (Lasts Answer) d.deeds h.taken t.waits.untaken
      (subst (λ (w : Waits). Tells (Lasts Answer) d.deeds w.untaken) (sym h.waits) d.untaken);
  in_time = d.in_time;
} where
  by : (at s.number there ≡ Some Closed) ⊎ IsHeard there s d.deeds → (at t.number there ≡ Some Closed)
      ⊎ IsHeard there t (Sends h.taken ∷ d.deeds)
  by (inl closed) = inl (ap (λ (n : ℕ). at n there) h.number ∙ closed)
  by (inr k) = inr record {
    kept = ap (λ (n : ℕ). at n there) h.number ∙ k.kept;
    begun = tells_sends (Lasts Message) d.deeds h.taken t.waits.begun
        (subst (λ (w : Waits). Tells (Lasts Message) d.deeds w.begun) (sym h.waits) k.begun);
  }
sent_timed idle said there s t Still d h = record {
  deeds = d.deeds;
  pieces_are = ap (λ (n : ℕ). hearings n said) h.number ∙ d.pieces_are;
  noted = subst (AreNoted (map mark_of d.deeds)) (sym h.trace) d.noted;
  still_is = d.still_is;
  waiting_is = d.waiting_is ∙ ap (λ (xs : List ℕ). sent d.deeds ++ xs)
      (h.waiting ∙ ap (λ (xs : List ℕ). xs ++ t.waiting) (h.still refl));
  stream = by d.stream;
  silent = subst (λ (w : Waits). Tells (Lasts Silence) d.deeds w.silent) (sym h.waits) d.silent;
  untaken = subst (λ (w : Waits). Tells (Lasts Answer) d.deeds w.untaken) (sym h.waits) d.untaken;
  in_time = d.in_time;
} where
  by : (at s.number there ≡ Some Closed) ⊎ IsHeard there s d.deeds → (at t.number there ≡ Some Closed)
      ⊎ IsHeard there t d.deeds
  by (inl closed) = inl (ap (λ (n : ℕ). at n there) h.number ∙ closed)
  by (inr k) = inr record {
    kept = ap (λ (n : ℕ). at n there) h.number ∙ k.kept;
    begun = subst (λ (w : Waits). Tells (Lasts Message) d.deeds w.begun) (sym h.waits) k.begun;
  }
sent_timed idle said there s t (Over end) d h = by h.trace where
  timely : IsTimely idle end d.deeds
  timely = timely_failed idle end d.deeds (h.failed end refl).0 d.in_time

  by : (t.trace ≡ s.trace) ⊎ (t.trace ≡ noted (Took h.taken) s.trace) → IsTimed idle said t.number t.trace end
  by (inl same) = record {
    deeds = d.deeds;
    last = [];
    pieces_are = ap (λ (n : ℕ). hearings n said) h.number ∙ d.pieces_are;
    noted = subst (AreNoted (map mark_of d.deeds)) (sym same) d.noted;
    timely = timely;
  }
  by (inr one) = record {
    deeds = d.deeds;
    last = Took h.taken ∷ [];
    pieces_are = ap (λ (n : ℕ). hearings n said) h.number ∙ d.pieces_are;
    noted = noted_one (Took h.taken) (map mark_of d.deeds) s.trace t.trace d.noted one;
    timely = timely;
  }

some_is : {A : Type 0} (a b : A) → Some a ≡ Some b → a ≡ b
some_is a b e = cc

shut_or_closed : (closes : Bool) (octets : List ℕ) → kept_or_shut rests closes (rests.heard Closed octets).kept ≡ Closed
shut_or_closed true octets = refl
shut_or_closed false octets = refl

module _ {S : Type 0} (acting : Acting S) (served : Served) where
  pub answered_timed : (idle : ℕ) (said : Log) (w w' : World S Stream) (s t : Slotted)
      → IsTimedSo idle true said w.there s
      → s.waiting ≡ [] → (h : IsAnswered acting served w s w' t)
      → IsTimedSo idle false (said ++ (Brings s.number h.octets, h.answer) ∷ []) w'.there t
  answered_timed idle said w w' s t d empty h = record {
    deeds = Hears h.octets h.answer ∷ d.deeds;
    pieces_are = ap (λ (n : ℕ). hearings n (said ++ (Brings s.number h.octets, h.answer) ∷ [])) h.got.number
        ∙ hearings_own s.number said h.octets h.answer
        ∙ ap (λ (xs : List (List ℕ × List ℕ)). xs ++ (h.octets, h.answer) ∷ []) d.pieces_are;
    noted = noted_one (Got h.octets) (map mark_of d.deeds) s.trace t.trace d.noted h.trace;
    still_is = refl;
    waiting_is = ap (λ (xs : List ℕ). xs ++ h.answer)
        (d.waiting_is ∙ ap (λ (xs : List ℕ). sent d.deeds ++ xs) empty ∙ append-nil (sent d.deeds))
        ∙ ap (λ (xs : List ℕ). sent d.deeds ++ xs) (sym h.got.waiting_is);
    stream = by d.stream;
    silent = tells_hears (Lasts Silence) d.deeds h.octets h.answer t.waits.silent
        (subst (λ (x : Waits). Tells (Lasts Silence) d.deeds x.silent) (sym h.got.waits) d.silent);
    untaken = tells_hears (Lasts Answer) d.deeds h.octets h.answer t.waits.untaken
        (subst (λ (x : Waits). Tells (Lasts Answer) d.deeds x.untaken) (sym h.got.waits) d.untaken);
    in_time = d.in_time;
  } where
    now_kept : at t.number w'.there
        ≡ Some (kept_or_shut rests h.answers.closes (rests.heard h.answers.kept h.octets).kept)
    now_kept =
        ap (λ (n : ℕ). at n w'.there) h.got.number
        ∙ ap (λ (x : World S Stream). at s.number x.there) h.answers.now
        ∙ at_put s.number h.answers.kept
        (kept_or_shut rests h.answers.closes (rests.heard h.answers.kept h.octets).kept) w.there h.answers.there

    open_left : (closes : Bool) → at s.number w.there ≡ Some (cut None (heard d.deeds)).left
        → Tells (Lasts Message) d.deeds s.waits.begun
        → at t.number w'.there ≡ Some (kept_or_shut rests closes (rests.heard h.answers.kept h.octets).kept)
        → (at t.number w'.there ≡ Some Closed) ⊎ IsHeard w'.there t (Hears h.octets h.answer ∷ d.deeds)
    open_left true was begun now = inl now
    open_left false was begun now = inr record {
      kept = now
          ∙ ap (λ (x : Stream). Some (cut_behind x h.octets).left)
          (some_is h.answers.kept (cut None (heard d.deeds)).left (sym h.answers.there ∙ was))
          ∙ ap (λ c. Some c.left) (sym (in_pieces None (heard d.deeds) h.octets));
      begun = tells_hears (Lasts Message) d.deeds h.octets h.answer t.waits.begun
          (subst (λ (x : Waits). Tells (Lasts Message) d.deeds x.begun) (sym h.got.waits) begun);
    }

    by : (at s.number w.there ≡ Some Closed) ⊎ IsHeard w.there s d.deeds
        → (at t.number w'.there ≡ Some Closed) ⊎ IsHeard w'.there t (Hears h.octets h.answer ∷ d.deeds)
    by (inl closed) =
        inl (now_kept
        ∙ ap (λ (x : Stream). Some (kept_or_shut rests h.answers.closes (rests.heard x h.octets).kept))
        (some_is h.answers.kept Closed (sym h.answers.there ∙ closed))
        ∙ ap Some (shut_or_closed h.answers.closes h.octets))
    by (inr k) = open_left h.answers.closes k.kept k.begun now_kept

  pub forgotten_timed : (idle : ℕ) (said : Log) (w w' : World S Stream) (s t : Slotted)
      → IsTimedSo idle true said w.there s
      → (h : IsForgotten acting served w s w' t)
      → IsTimed idle (said ++ (GivesUp s.number h.octets h.j, []) ∷ []) t.number t.trace GivenUp
  forgotten_timed idle said w w' s t d h = record {
    deeds = d.deeds;
    last = Got h.octets ∷ [];
    pieces_are = ap (λ (n : ℕ). hearings n (said ++ (GivesUp s.number h.octets h.j, []) ∷ [])) h.got.number
        ∙ hearings_same s.number said (GivesUp s.number h.octets h.j) [] refl ∙ d.pieces_are;
    noted = noted_one (Got h.octets) (map mark_of d.deeds) s.trace t.trace d.noted h.trace;
    timely = d.in_time;
  }

-- nothing came, and it ends so
pub at_end_timed : {S : Type 0} (idle : ℕ) (said : Log) (w w' : World S Stream) (s t : Slotted) (end : End) (P : Type 0)
    → IsTimedSo idle true said w.there s → IsAtEnd w s w' t P
    → ((deeds : List Deed) → IsInTime idle deeds → IsTimely idle end deeds)
    → IsTimed idle said t.number t.trace end
at_end_timed idle said w w' s t end P d h timely = by h.trace where
  by : (t.trace ≡ s.trace) ⊎ (t.trace ≡ noted (Got []) s.trace) → IsTimed idle said t.number t.trace end
  by (inl same) = record {
    deeds = d.deeds;
    last = [];
    pieces_are = ap (λ (n : ℕ). hearings n said) h.got.number ∙ d.pieces_are;
    noted = subst (AreNoted (map mark_of d.deeds)) (sym same) d.noted;
    timely = timely d.deeds d.in_time;
  }
  by (inr one) = record {
    deeds = d.deeds;
    last = Got [] ∷ [];
    pieces_are = ap (λ (n : ℕ). hearings n said) h.got.number ∙ d.pieces_are;
    noted = noted_one (Got []) (map mark_of d.deeds) s.trace t.trace d.noted one;
    timely = timely d.deeds d.in_time;
  }

-- ---- one that was asked the time

module _ (idle looks : ℕ) (said : Log) (there : List (ℕ × Stream)) (s t : Slotted) (course : Course)
    (limit : Option Limit)
    (d : IsTimedSo idle (stays course) said there s) (j : IsStanding idle looks there s course t limit) where
  abbrev now : ℕ
  now = j.asked.time

  some_untaken : j.standing.untaken ≡ true → IsUntaken d.deeds
  some_untaken held = untaken_lengths d.deeds s.waiting d.waiting_is
      (λ none. true_false j.standing.untaken held (j.stood.untaken none))

  none_untaken : j.standing.untaken ≡ false → IsUntaken d.deeds → ⊥
  none_untaken unheld_is = taken_lengths d.deeds s.waiting d.waiting_is (j.stood.taken unheld_is)

  -- where all is sent its stream isn't closed
  is_open : j.standing.untaken ≡ false → at s.number there ≡ Some Closed → ⊥
  is_open unheld_is closed = j.unclosed (j.stood.taken unheld_is) closed

  begun_is : IsHeard there s d.deeds → j.standing.begun ≡ is_begun (Some (cut None (heard d.deeds)).left)
  begun_is k = j.stood.begun ∙ ap is_begun k.kept

  all_silent : j.standing.silent ≡ true → IsSilent d.deeds
  all_silent held = by d.stream where
    how : (stays course ≡ true) × (j.standing.begun ≡ false) × (j.standing.untaken ≡ false)
    how = j.stood.silent held

    by : (at s.number there ≡ Some Closed) ⊎ IsHeard there s d.deeds → IsSilent d.deeds
    by (inl closed) = absurd (is_open how.2 closed)
    by (inr k) = record {
      still = d.still_is ∙ how.0;
      unbegun = λ begun. true_false j.standing.begun (begun_is k ∙ begun) how.1;
      taken = none_untaken how.2;
    }

  none_silent : j.standing.silent ≡ false → IsSilent d.deeds → ⊥
  none_silent unheld_is h = by d.stream where
    untaken : j.standing.untaken ≡ false
    untaken = or_false j.standing.untaken (λ held. h.taken (some_untaken held))

    by : (at s.number there ≡ Some Closed) ⊎ IsHeard there s d.deeds → ⊥
    by (inl closed) = is_open untaken closed
    by (inr k) =
        true_false j.standing.silent
        (j.stood.loud (sym d.still_is ∙ h.still)
        (or_false j.standing.begun (λ held. h.unbegun (sym (begun_is k) ∙ held))) untaken) unheld_is

  silent_told : Tells (Lasts Silence) (Asks looks now ∷ d.deeds) t.waits.silent
  silent_told =
      subst (λ (w : Waits). Tells (Lasts Silence) (Asks looks j.asked.time ∷ d.deeds) w.silent) (sym j.asked.waits)
      (tells_next (Lasts Silence) d.deeds s.waits.silent j.standing.silent looks j.asked.time d.silent all_silent
      none_silent)

  untaken_told : Tells (Lasts Answer) (Asks looks now ∷ d.deeds) t.waits.untaken
  untaken_told =
      subst (λ (w : Waits). Tells (Lasts Answer) (Asks looks j.asked.time ∷ d.deeds) w.untaken) (sym j.asked.waits)
      (tells_next (Lasts Answer) d.deeds s.waits.untaken j.standing.untaken looks j.asked.time d.untaken some_untaken
      none_untaken)

  begun_told : IsHeard there s d.deeds → Tells (Lasts Message) (Asks looks now ∷ d.deeds) t.waits.begun
  begun_told k =
      subst (λ (w : Waits). Tells (Lasts Message) (Asks looks j.asked.time ∷ d.deeds) w.begun) (sym j.asked.waits)
      (tells_next (Lasts Message) d.deeds s.waits.begun j.standing.begun looks j.asked.time k.begun
      (λ held. sym (begun_is k) ∙ held) (λ unheld_is begun. true_false j.standing.begun (begun_is k ∙ begun) unheld_is))

  untaken_none : j.standing.untaken ≡ false → t.waits.untaken ≡ None
  untaken_none unheld_is = ap (λ (w : Waits). w.untaken) j.asked.waits
      ∙ none_held s.waits.untaken j.standing.untaken j.asked.time unheld_is

  none_untaken_by : t.waits.untaken ≡ None → j.standing.untaken ≡ false
  none_untaken_by none =
      unheld s.waits.untaken j.standing.untaken j.asked.time (sym (ap (λ (w : Waits). w.untaken) j.asked.waits) ∙ none)

  passed_by : (l : Limit) → IsPassed idle now t.waits l → HasPassed idle l looks now d.deeds
  passed_by Silence over = is_passed idle Silence looks now d.deeds t.waits.silent silent_told over tt
  passed_by Message over = by d.stream where
    unheld_is : j.standing.untaken ≡ false
    unheld_is = none_untaken_by over.0

    by : (at s.number there ≡ Some Closed) ⊎ IsHeard there s d.deeds → HasPassed idle Message looks now d.deeds
    by (inl closed) = absurd (is_open unheld_is closed)
    by (inr k) = is_passed idle Message looks now d.deeds t.waits.begun (begun_told k) over.1 (none_untaken unheld_is)
  passed_by Answer over = is_passed idle Answer looks now d.deeds t.waits.untaken untaken_told over tt

  unpassed_by : ((l : Limit) → IsPassed idle now t.waits l → ⊥) → (l : Limit) → HasPassed idle l looks now d.deeds → ⊥
  unpassed_by none Silence h = isnt_passed idle Silence looks now d.deeds t.waits.silent silent_told (none Silence) h
  unpassed_by none Message h = by d.stream where
    unheld_is : j.standing.untaken ≡ false
    unheld_is = or_false j.standing.untaken (λ held. h.due (some_untaken held))

    by : (at s.number there ≡ Some Closed) ⊎ IsHeard there s d.deeds → ⊥
    by (inl closed) = is_open unheld_is closed
    by (inr k) = isnt_passed idle Message looks now d.deeds t.waits.begun (begun_told k)
        (λ over. none Message (untaken_none unheld_is, over)) h
  unpassed_by none Answer h = isnt_passed idle Answer looks now d.deeds t.waits.untaken untaken_told (none Answer) h

  all_noted : AreNoted (map mark_of (Asks looks now ∷ d.deeds)) t.trace
  all_noted = noted_one (Told looks j.asked.time) (map mark_of d.deeds) s.trace t.trace d.noted j.asked.trace

  -- it goes on
  timed_on : ((l : Limit) → IsPassed idle now t.waits l → ⊥) → IsTimedSo idle true said there t
  timed_on none = record {
    deeds = Asks looks now ∷ d.deeds;
    pieces_are = ap (λ (n : ℕ). hearings n said) j.asked.number ∙ d.pieces_are;
    noted = all_noted;
    still_is = refl;
    waiting_is = d.waiting_is ∙ ap (λ (xs : List ℕ). sent d.deeds ++ xs) (sym j.asked.waiting);
    stream = by d.stream;
    silent = silent_told;
    untaken = untaken_told;
    in_time = (unpassed_by none, d.in_time);
  } where
    by : (at s.number there ≡ Some Closed) ⊎ IsHeard there s d.deeds → (at t.number there ≡ Some Closed)
        ⊎ IsHeard there t (Asks looks now ∷ d.deeds)
    by (inl closed) = inl (ap (λ (n : ℕ). at n there) j.asked.number ∙ closed)
    by (inr k) = inr record { kept = ap (λ (n : ℕ). at n there) j.asked.number ∙ k.kept; begun = begun_told k }

  -- it passed a limit
  timed_late : (l : Limit) → IsPassed idle now t.waits l → IsTimed idle said t.number t.trace (Late l)
  timed_late l over = record {
    deeds = Asks looks now ∷ d.deeds;
    last = [];
    pieces_are = ap (λ (n : ℕ). hearings n said) j.asked.number ∙ d.pieces_are;
    noted = all_noted;
    timely = (passed_by l over, d.in_time);
  }

  pub stood_on : limit ≡ None → IsTimedSo idle true said there t
  stood_on is = timed_on (by limit is j.asked.is) where
    by : (l : Option Limit) → l ≡ None → IsLimit idle j.asked.time t l → (k : Limit) → IsPassed idle now t.waits k → ⊥
    by None e h = h
    by (Some k) e h = absurd (cc)

  pub stood_late : (l : Limit) → limit ≡ Some l → IsTimed idle said t.number t.trace (Late l)
  stood_late l is = timed_late l (by limit is j.asked.is) where
    by : (k : Option Limit) → k ≡ Some l → IsLimit idle j.asked.time t k → IsPassed idle now t.waits l
    by None e h = absurd (cc)
    by (Some k) e h = subst (IsPassed idle j.asked.time t.waits) (some_is k l e) h

not_over : (course : Course) → ((end : End) → course ≡ Over end → ⊥)
    → (idle : ℕ) (still : Bool) (said : Log) (there : List (ℕ × Stream)) (s : Slotted)
    → IsTurned idle still said there s course → IsTimedSo idle still said there s
not_over Moved unheld_is idle still said there s h = h
not_over Still unheld_is idle still said there s h = h
not_over (Over end) unheld_is idle still said there s h = absurd (unheld_is end refl)

pub turned_timed : (course : Course) → ((end : End) → course ≡ Over end → ⊥)
    → (idle : ℕ) (still : Bool) (said : Log) (there : List (ℕ × Stream)) (s : Slotted)
    → IsTurned idle still said there s course → IsTimedSo idle still said there s
turned_timed course unheld_is idle still said there s h = not_over course unheld_is idle still said there s h

-- what becomes of one that isn't over
pub judged_timed : (idle looks : ℕ) (said : Log) (there : List (ℕ × Stream)) (s t : Slotted) (course judged : Course)
    → ((end : End) → course ≡ Over end → ⊥) → IsTurned idle (stays course) said there s course
    → IsJudged idle looks there s course t judged
    → IsTurned idle true said there t judged
judged_timed idle looks said there s t course Moved unheld_is h j =
    stood_on idle looks said there s t course None (not_over course unheld_is idle (stays course) said there s h) j.1
    refl
judged_timed idle looks said there s t course Still unheld_is h j =
    stood_on idle looks said there s t course None (not_over course unheld_is idle (stays course) said there s h) j.1
    refl
judged_timed idle looks said there s t course (Over Finished) unheld_is h j =
    subst (λ (x : Slotted). IsTimed idle said x.number x.trace Finished) (sym j.same)
    (timed_end idle (stays course) said there s (not_over course unheld_is idle (stays course) said there s h))
judged_timed idle looks said there s t course (Over (Late l)) unheld_is h j =
    stood_late idle looks said there s t course (Some l) (not_over course unheld_is idle (stays course) said there s h)
    j l refl
judged_timed idle looks said there s t course (Over Failed) unheld_is h j = absurd j
judged_timed idle looks said there s t course (Over GivenUp) unheld_is h j = absurd j

-- ---- one that is let go of

timed_last : (idle : ℕ) (said said' : Log) (c : ℕ) (end : End) (trace trace' : Option Trace) (mark : Mark)
    → hearings c said' ≡ hearings c said
    → (trace' ≡ trace) ⊎ (trace' ≡ noted mark trace) → IsTimed idle said c trace end → IsTimed idle said' c trace' end
timed_last idle said said' c end trace trace' mark same (inl is) h = record {
  deeds = h.deeds;
  last = h.last;
  pieces_are = same ∙ h.pieces_are;
  noted = subst (AreNoted (h.last ++ map mark_of h.deeds)) (sym is) h.noted;
  timely = h.timely;
}
timed_last idle said said' c end trace trace' mark same (inr is) h = record {
  deeds = h.deeds;
  last = mark ∷ h.last;
  pieces_are = same ∙ h.pieces_are;
  noted = noted_one mark (h.last ++ map mark_of h.deeds) trace trace' h.noted is;
  timely = h.timely;
}

pub let_go_timed : (idle : ℕ) (said said' : Log) (s : Slotted) (end : End) (told : Ends) (trace : Option Trace)
    → hearings s.number said' ≡ hearings s.number said → IsLetGo s end told trace
    → IsTimed idle said s.number s.trace end
    → IsTimed idle said' s.number trace end
let_go_timed idle said said' s Finished told trace same is h =
    timed_last idle said said' s.number Finished s.trace trace (Got []) same (inl is.1) h
let_go_timed idle said said' s Failed told trace same is h =
    timed_last idle said said' s.number Failed s.trace trace (Got []) same (inl is.1) h
let_go_timed idle said said' s GivenUp told trace same is h =
    timed_last idle said said' s.number GivenUp s.trace trace (Got []) same (inl is.1) h
let_go_timed idle said said' s (Late limit) told trace same is h =
    timed_last idle said said' s.number (Late limit) s.trace trace (Took is.last) same is.noted h

pub let_go_asked : (looks : ℕ) (s : Slotted) (end : End) (told : Ends) (trace : Option Trace) → IsLetGo s end told trace
    → IsAsked looks s.trace
    → IsAsked looks trace
let_go_asked looks s Finished told trace is h = subst (IsAsked looks) (sym is.1) h
let_go_asked looks s Failed told trace is h = subst (IsAsked looks) (sym is.1) h
let_go_asked looks s GivenUp told trace is h = subst (IsAsked looks) (sym is.1) h
let_go_asked looks s (Late limit) told trace is h = by is.noted where
  by : (trace ≡ s.trace) ⊎ (trace ≡ noted (Took is.last) s.trace) → IsAsked looks trace
  by (inl same) = subst (IsAsked looks) (sym same) h
  by (inr one) = asked_still looks (Took is.last) s.trace trace one h

-- one of which nothing was heard
pub timed_never : (idle : ℕ) (said : Log) (c : ℕ) (looks : ℕ) (trace : Option Trace) → hearings c said ≡ []
    → IsNew looks trace
    → IsTimed idle said c trace GivenUp
timed_never idle said c looks trace none new = record {
  deeds = [];
  last = [];
  pieces_are = none;
  noted = noted_new looks trace new;
  timely = tt;
}

-- and one that begins
pub timed_new : (idle : ℕ) (said : Log) (there : List (ℕ × Stream)) (c : ℕ) (told : Ends) (looks : ℕ)
    (trace : Option Trace)
    → hearings c said ≡ [] → IsNew looks trace → at c there ≡ Some rests.fresh
    → IsTimedSo idle true said there (slotted c told trace unwaited [])
timed_new idle said there c told looks trace none new kept = record {
  deeds = [];
  pieces_are = none;
  noted = noted_new looks trace new;
  still_is = refl;
  waiting_is = refl;
  stream = inr record { kept = kept; begun = λ time h. h };
  silent = λ time h. h;
  untaken = λ time h. h;
  in_time = tt;
}
