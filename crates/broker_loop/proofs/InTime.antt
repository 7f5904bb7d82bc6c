-- Connections that stay in time, whatever happens to another.
use Rattle.std.proofs.Common.{◌≡◌, ◌≢◌, ℕ, ◌<◌, true, List, [], ◌∷◌, ◌++◌, length, Option, refl, sym, ap, ◌∙◌, arith}
use Rattle.std.specs.List.{All}
use Rattle.std.proofs.lemmas.List.Elements.{All-nil, All-append, All-cons, All-head, All-push, All-tail, All-weaker}
use Rattle.broker_answers.specs.Streams.{Stream}
use Rattle.broker_answers.specs.Connections.{at, without}
use Rattle.broker_answers.specs.Talk.{Event, Begins, Ends as Leaving, World, rests, Opens, Leaves}
use Rattle.broker_answers.specs.Servants.{Acting}
use Rattle.broker_answers.specs.Objects.{Served}
use Rattle.iiop_broker.specs.Outcomes.{Ends}
use Rattle.iiop_broker.proofs.Places.{at_split}
use Rattle.broker_loop.specs.Carried.{Log, connection_of, hearings}
use Rattle.broker_loop.specs.Telling.{IsNew, Trace}
use Rattle.broker_loop.specs.Visits.{Gone}
use Rattle.broker_loop.specs.inner.Going.{AreInTime, IsGoing, IsTimedSo, Slotted, slotted}
use Rattle.broker_loop.specs.inner.Waits.{unwaited}
use Rattle.broker_loop.proofs.Going.{all_below, all_both}
use Rattle.broker_loop.proofs.Keys.{at_more_other, at_without_other}
use Rattle.broker_loop.proofs.Logs.{hearings_none, hearings_other, hearings_same}
use Rattle.broker_loop.proofs.Parts.{all_parts, all_joined}
use Rattle.broker_loop.proofs.Times.{timed_new, timed_other}

module _ (idle : ℕ) where
  pub without_one : (said : Log) (there : List (ℕ × Stream)) (front : List Slotted) (s : Slotted) (back : List Slotted)
      → AreInTime idle said there (front ++ s ∷ back) → AreInTime idle said there (front ++ back)
  without_one said there front s back h = λ some.
      let parts = all_parts (IsTimedSo idle true said there) front s back (h some) in
      All-append (IsTimedSo idle true said there) front back parts.0 parts.2

  pub of_one : (said : Log) (there : List (ℕ × Stream)) (front : List Slotted) (s : Slotted) (back : List Slotted)
      → AreInTime idle said there (front ++ s ∷ back) → 0 < idle → IsTimedSo idle true said there s
  of_one said there front s back h some = (all_parts (IsTimedSo idle true said there) front s back (h some)).1

  split_all : (P : Slotted → Type 0) (front back : List Slotted) → All P (front ++ back) → All P front × All P back
  split_all P [] back h = (All-nil P, h)
  split_all P (x ∷ front) back h =
      let further = split_all P front back (All-tail P x (front ++ back) h) in
      (All-cons P x front (All-head P x (front ++ back) h) further.0, further.1)

  pub with_one : (said : Log) (there : List (ℕ × Stream)) (front : List Slotted) (s : Slotted) (back : List Slotted)
      → AreInTime idle said there (front ++ back) → (0 < idle → IsTimedSo idle true said there s)
      → AreInTime idle said there (front ++ s ∷ back)
  with_one said there front s back others own = λ some.
      let both = split_all (IsTimedSo idle true said there) front back (others some) in
      all_joined (IsTimedSo idle true said there) front s back both.0 (own some) both.1

  -- what happens to one connection alone
  pub still_in_time : (said said' : Log) (there there' : List (ℕ × Stream)) (c : ℕ) (slots : List Slotted)
      → All (λ x. x.number ≢ c) slots → ((n : ℕ) → n ≢ c → hearings n said' ≡ hearings n said)
      → ((n : ℕ) → n ≢ c → at n there' ≡ at n there) → AreInTime idle said there slots
      → AreInTime idle said' there' slots
  still_in_time said said' there there' c slots apart same kept h = λ some.
      all_both (λ x. x.number ≢ c) (IsTimedSo idle true said there) (IsTimedSo idle true said' there') slots
      (λ x differs d. timed_other idle true said said' there there' x d (same x.number differs) (kept x.number differs))
      apart (h some)

  -- the log with an event of a connection, for another
  pub same_hearings : (said : Log) (e : Event) (a : List ℕ) (c : ℕ) → connection_of e ≡ c → (n : ℕ) → n ≢ c
      → hearings n (said ++ (e, a) ∷ []) ≡ hearings n said
  same_hearings said e a c is n differs = hearings_other n said e a (λ same. differs (sym same ∙ is))

  module _ {S : Type 0} (acting : Acting S) (served : Served) (before : S) where
    pub begins_in_time : (came : List Ends) (ended : List (ℕ × Gone)) (w w' : World S Stream) (slots : List Slotted)
        (c : ℕ)
        (told : Ends) (looks : ℕ) (trace : Option Trace) (a : List ℕ) (said : Log)
        (g : IsGoing acting served idle before came ended w slots)
        → c ≡ length came → Opens rests w c a w' → IsNew looks trace → said ≡ g.said ++ (Begins c, a) ∷ []
        → AreInTime idle g.said w.there slots
        → AreInTime idle said w'.there (slots ++ slotted c told trace unwaited [] ∷ [])
    begins_in_time came ended w w' slots c told looks trace a said g number opens new is h = λ some.
        let now : w'.there ≡ w.there ++ (c, rests.fresh) ∷ [] = ap (λ (x : World S Stream). x.there) opens.now in
        let below = all_below acting served idle before g.said came slots g.opened in
        let apart = All-weaker (λ x. x.number < length came) (λ x. x.number ≢ c)
        (λ x lt same. omega (arith, lt, number, same)) slots below in
        let others = still_in_time g.said said w.there w'.there c slots apart
        (λ n differs. ap (hearings n) is ∙ same_hearings g.said (Begins c) a c refl n differs)
        (λ n differs. ap (at n) now ∙ at_more_other n c rests.fresh w.there differs) h in
        let unheard : hearings c said ≡ [] =
        ap (hearings c) is ∙ hearings_same c g.said (Begins c) a refl
        ∙ hearings_none (length came) c g.said (omega (arith, number)) g.known in
        All-push (IsTimedSo idle true said w'.there) slots (slotted c told trace unwaited []) (others some)
        (timed_new idle said w'.there c told looks trace unheard new
        (ap (at c) now ∙ at_split c w.there rests.fresh [] opens.absent))

    pub leaves_in_time : (w w' : World S Stream) (front : List Slotted) (s : Slotted) (back : List Slotted) (a : List ℕ)
        (said said' : Log)
        → All (λ x. x.number ≢ s.number) (front ++ back) → Leaves w s.number a w'
        → said' ≡ said ++ (Leaving s.number, a) ∷ []
        → AreInTime idle said w.there (front ++ back) → AreInTime idle said' w'.there (front ++ back)
    leaves_in_time w w' front s back a said said' apart left is h =
        let now : w'.there ≡ without s.number w.there = ap (λ (x : World S Stream). x.there) left.now in
        still_in_time said said' w.there w'.there s.number (front ++ back) apart
        (λ n differs. ap (hearings n) is ∙ same_hearings said (Leaving s.number) a s.number refl n differs)
        (λ n differs. ap (at n) now ∙ at_without_other n s.number w.there differs) h
