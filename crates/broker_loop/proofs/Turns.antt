-- A connection's turn.
use Rattle.std.proofs.Common.{◌≡◌, ◌⊎◌, inl, inr, ℕ, zero, suc, ◌+◌, ◌<◌, ◌≤◌, Bool, true, false, length, take, drop, arith, List, [], ◌∷◌, ◌++◌, None, Some, slice_get, append-nil, append_assoc, refl, sym, ap, subst, ◌∙◌}
use Rattle.broker_answers.specs.Streams.{Stream, Closed}
use Rattle.broker_answers.specs.Connections.{at}
use Rattle.broker_answers.specs.Talk.{Event, Brings, Follows, GivesUp, World, rests, kept_or_shut, world}
use Rattle.broker_answers.specs.Serving.{Moves, Serves}
use Rattle.broker_answers.specs.Servants.{Acting}
use Rattle.broker_answers.specs.Objects.{Served}
use Rattle.iiop_broker.specs.Ends.{Adds, Gives, IsEmpty}
use Rattle.iiop_broker.specs.Outcomes.{Ends}
use Rattle.iiop_broker.proofs.Going.{gives_then}
use Rattle.iiop_broker.proofs.Written.{adds_then}
use Rattle.broker_loop.specs.declared.slot.Course.{Course}
use Rattle.broker_loop.specs.declared.slot.Course.TheVariants.{Moved, Still, Over}
use Rattle.broker_loop.specs.Carried.{Log, answered, brought}
use Rattle.giop_messages.specs.Messages.{Closes, Says}
use Rattle.broker_loop.specs.Limits.{Deed, IsInTime, IsTimely}
use Rattle.broker_loop.specs.Telling.{Got, IsAsked, Told, Took, noted}
use Rattle.broker_loop.specs.Visits.{Gone, HasEnded, IsFarewell}
use Rattle.broker_loop.specs.declared.listener.End.{End}
use Rattle.broker_loop.specs.declared.listener.End.TheVariants.{Finished, Failed, GivenUp, Late}
use Rattle.broker_loop.specs.inner.Going.{AreInTime, IsTurned, Slotted, keys, IsOpen, IsGoing, IsOn, stays}
use Rattle.broker_loop.specs.inner.Turns.{HasSent, HasGot, IsAnswered, IsForgotten, IsAtEnd, IsJudged, IsStanding, HasHeard}
use Rattle.broker_loop.proofs.Parts.{all_parts}
use Rattle.broker_loop.proofs.Logs.{brought_own, answered_own}
use Rattle.broker_loop.proofs.Keys.{at_put_other, keys_put}
use Rattle.broker_loop.proofs.InTime.{of_one, same_hearings, still_in_time, without_one}
use Rattle.broker_loop.proofs.Times.{answered_timed, asked_again, asked_still, at_end_timed, forgotten_timed, judged_timed, sent_timed, timed_end}
use Rattle.broker_loop.proofs.Going.{goes_on, moves_on, others_apart}

pub same_end : (end other : End) → Over end ≡ Over other → end ≡ other
same_end end other e = cc

module _ {S : Type 0} (acting : Acting S) (served : Served) (idle : ℕ) (before : S) where
  write_failed : (said : Log) (t : Slotted) (end : End) → (end ≡ Failed) × (t.told.unwritten ≡ true)
      → HasEnded acting served idle before said t.number t.waiting t.told end
  write_failed said t end h =
      subst (λ (k : End). HasEnded acting served idle before said t.number t.waiting t.told k) (sym h.0) (inl h.1)

  pub sent_on : (came : List Ends) (ended : List (ℕ × Gone)) (w : World S Stream) (front : List Slotted) (s t : Slotted)
      (back : List Slotted) (course : Course) (g : IsGoing acting served idle before came ended w (front ++ s ∷ back))
      → AreInTime idle g.said w.there (front ++ s ∷ back) → HasSent s course t
      → IsOn acting served idle before came ended w (stays course) front t back course
  sent_on came ended w front s t back course g in_time h =
      let o = (all_parts (IsOpen g.said came) front s back g.opened).1 in
      let after = moves_on acting served idle before came ended w front s t back g h.number record {
        from = o.from;
        came_is = ap (λ (n : ℕ). slice_get came n) h.number ∙ o.came_is;
        sent = o.sent ++ h.taken;
        answer_is = ap (λ (n : ℕ). answered n g.said) h.number ∙ o.answer_is
            ∙ ap (λ (xs : List ℕ). o.sent ++ xs) h.waiting
            ∙ sym (append_assoc o.sent h.taken t.waiting);
        read = subst (λ (n : ℕ). Gives o.from.left (brought n g.said) t.told.left) (sym h.number)
            (subst (λ l. Gives o.from.left (brought s.number g.said) l) (sym h.left) o.read);
        wrote = adds_then o.from.written s.told.written t.told.written o.sent h.taken o.wrote h.written;
      } in
      record {
        going = after.0;
        over = λ end is. write_failed after.0.said t end (h.failed end is);
        others = subst (λ (l : Log). AreInTime idle l w.there (front ++ back)) (sym after.1)
            (without_one idle g.said w.there front s back in_time);
        own = λ some. subst (λ (l : Log). IsTurned idle (stays course) l w.there t course) (sym after.1)
            (sent_timed idle g.said w.there s t course (of_one idle g.said w.there front s back in_time some) h);
      }

  pub closed_on : (came : List Ends) (ended : List (ℕ × Gone)) (w : World S Stream) (front : List Slotted) (s : Slotted)
      (back : List Slotted) (g : IsGoing acting served idle before came ended w (front ++ s ∷ back))
      → AreInTime idle g.said w.there (front ++ s ∷ back) → s.waiting ≡ []
      → at s.number w.there ≡ Some Closed
      → IsOn acting served idle before came ended w false front s back (Over Finished)
  closed_on came ended w front s back g in_time sent closed = record {
    going = g;
    others = without_one idle g.said w.there front s back in_time;
    own = λ some. timed_end idle true g.said w.there s (of_one idle g.said w.there front s back in_time some);
    over = λ end is. subst (λ (k : End). HasEnded acting served idle before g.said s.number s.waiting s.told k)
        (same_end Finished end is) (record {
          sent = sent;
          done = inr record {
            front = g.said;
            later = [];
            split = sym (append-nil g.said);
            then = w;
            follows = g.follows;
            closed = closed;
          };
        });
  }

  -- what is known of a connection to which octets came that wait for nothing
  got_open : (said later : Log) (came : List Ends) (s t : Slotted) (octets answer : List ℕ) → IsOpen said came s
      → HasGot s octets answer t → s.waiting ≡ [] → brought s.number later ≡ brought s.number said ++ octets
      → answered s.number later ≡ answered s.number said ++ answer → IsOpen later came t
  got_open said later came s t octets answer o h sent more said_more = record {
    from = o.from;
    came_is = ap (λ (n : ℕ). slice_get came n) h.number ∙ o.came_is;
    sent = o.sent;
    answer_is = ap (λ (n : ℕ). answered n later) h.number ∙ said_more
        ∙ ap (λ (xs : List ℕ). xs ++ answer) (o.answer_is ∙ ap (λ (xs : List ℕ). o.sent ++ xs) sent ∙ append-nil o.sent)
        ∙ ap (λ (xs : List ℕ). o.sent ++ xs) (sym h.waiting_is);
    read = subst (λ (n : ℕ). Gives o.from.left (brought n later) t.told.left) (sym h.number)
        (subst (λ (xs : List ℕ). Gives o.from.left xs t.told.left) (sym more)
        (gives_then o.from.left s.told.left t.told.left (brought s.number said) octets o.read h.read));
    wrote = subst (λ w. Adds o.from.written o.sent w) (sym h.written) o.wrote;
  }

  answered_on : (came : List Ends) (ended : List (ℕ × Gone)) (w w' : World S Stream) (front : List Slotted)
      (s t : Slotted)
      (back : List Slotted) (g : IsGoing acting served idle before came ended w (front ++ s ∷ back))
      → AreInTime idle g.said w.there (front ++ s ∷ back) → s.waiting ≡ []
      → IsAnswered acting served w s w' t → IsOn acting served idle before came ended w' false front t back Moved
  answered_on came ended w w' front s t back g in_time sent h =
      let e : Event = Brings s.number h.octets in
      let o = (all_parts (IsOpen g.said came) front s back g.opened).1 in
      let put_is = ap (λ (x : World S Stream). x.there) h.answers.now in
      let after = goes_on acting served idle before came ended w w' front s t back e h.answer g h.answers refl
      h.got.number
      (ap keys put_is
      ∙ keys_put s.number (kept_or_shut rests h.answers.closes (rests.heard h.answers.kept h.octets).kept) w.there)
      (got_open g.said (g.said ++ (e, h.answer) ∷ []) came s t h.octets h.answer o h.got sent
      (brought_own s.number g.said e h.answer refl) (answered_own s.number g.said e h.answer refl)) in
      record {
        going = after.0;
        over = λ end is. absurd (cc);
        others = subst (λ (l : Log). AreInTime idle l w'.there (front ++ back)) (sym after.1)
            (still_in_time idle g.said (g.said ++ (e, h.answer) ∷ []) w.there w'.there s.number (front ++ back)
            (others_apart acting served idle before came ended w front s back g)
            (λ n differs. same_hearings idle g.said e h.answer s.number refl n differs)
            (λ n differs. ap (at n) put_is
            ∙ at_put_other n s.number (kept_or_shut rests h.answers.closes (rests.heard h.answers.kept h.octets).kept)
            w.there differs)
            (without_one idle g.said w.there front s back in_time));
        own = λ some. subst (λ (l : Log). IsTurned idle false l w'.there t Moved) (sym after.1)
            (answered_timed acting served idle g.said w w' s t (of_one idle g.said w.there front s back in_time some)
            sent h);
      }

  forgotten_on : (came : List Ends) (ended : List (ℕ × Gone)) (w w' : World S Stream) (front : List Slotted)
      (s t : Slotted)
      (back : List Slotted) (g : IsGoing acting served idle before came ended w (front ++ s ∷ back))
      → AreInTime idle g.said w.there (front ++ s ∷ back) → s.waiting ≡ []
      → IsForgotten acting served w s w' t
      → IsOn acting served idle before came ended w' false front t back (Over GivenUp)
  forgotten_on came ended w w' front s t back g in_time sent h =
      let e : Event = GivesUp s.number h.octets h.j in
      let o = (all_parts (IsOpen g.said came) front s back g.opened).1 in
      let put_is = ap (λ (x : World S Stream). x.there) h.abandons.now in
      let got : HasGot s h.octets [] t =
      record {
        number = h.got.number;
        waiting_is = h.got.waiting_is ∙ sent;
        read = h.got.read;
        written =
            h.got.written;
        waits = h.got.waits;
      } in
      let after = goes_on acting served idle before came ended w w' front s t back e [] g h.abandons refl h.got.number
      (ap keys put_is ∙ keys_put s.number rests.shut w.there)
      (got_open g.said (g.said ++ (e, []) ∷ []) came s t h.octets [] o got sent
      (brought_own s.number g.said e [] refl) (answered_own s.number g.said e [] refl)) in
      record {
        going = after.0;
        over = λ end is. subst (λ (k : End). HasEnded acting served idle before after.0.said t.number t.waiting t.told
            k) (same_end GivenUp end is) (record {
              sent = got.waiting_is;
              wanted = inl record {
                front = g.said;
                later = [];
                octets = h.octets;
                j = h.j;
                split = after.1 ∙ ap (λ (c : ℕ). g.said ++ (GivesUp c h.octets h.j, []) ∷ []) (sym h.got.number);
              };
            });
        others = subst (λ (l : Log). AreInTime idle l w'.there (front ++ back)) (sym after.1)
            (still_in_time idle g.said (g.said ++ (e, []) ∷ []) w.there w'.there s.number (front ++ back)
            (others_apart acting served idle before came ended w front s back g)
            (λ n differs. same_hearings idle g.said e [] s.number refl n differs)
            (λ n differs. ap (at n) put_is ∙ at_put_other n s.number rests.shut w.there differs)
            (without_one idle g.said w.there front s back in_time));
        own = λ some. subst (λ (l : Log). IsTurned idle false l w'.there t (Over GivenUp)) (sym after.1)
            (forgotten_timed acting served idle g.said w w' s t (of_one idle g.said w.there front s back in_time some)
            h);
      }

  at_end_on : (came : List Ends) (ended : List (ℕ × Gone)) (w w' : World S Stream) (front : List Slotted)
      (s t : Slotted)
      (back : List Slotted) (end : End) (P : Type 0)
      (g : IsGoing acting served idle before came ended w (front ++ s ∷ back))
      → AreInTime idle g.said w.there (front ++ s ∷ back) → s.waiting ≡ []
      → IsAtEnd w s w' t P → ((said : Log) → t.waiting ≡ [] → P
      → HasEnded acting served idle before said t.number t.waiting t.told end)
      → ((deeds : List Deed) → IsInTime idle deeds → IsTimely idle end deeds)
      → IsOn acting served idle before came ended w' false front t back (Over end)
  at_end_on came ended w w' front s t back end P g in_time sent h cause timely =
      let o = (all_parts (IsOpen g.said came) front s back g.opened).1 in
      let got : HasGot s [] [] t =
      record {
        number = h.got.number;
        waiting_is = h.got.waiting_is ∙ sent;
        read = h.got.read;
        written =
            h.got.written;
        waits = h.got.waits;
      } in
      let after = moves_on acting served idle before came ended w front s t back g h.got.number
      (got_open g.said g.said came s t [] [] o got sent (sym (append-nil (brought s.number g.said)))
      (sym (append-nil (answered s.number g.said)))) in
      subst (λ (x : World S Stream). IsOn acting served idle before came ended x false front t back (Over end))
      (sym h.same) record {
        going = after.0;
        over = λ other is. subst (λ (k : End). HasEnded acting served idle before after.0.said t.number t.waiting t.told
            k) (same_end end other is)
            (cause after.0.said got.waiting_is h.is);
        others = subst (λ (l : Log). AreInTime idle l w.there (front ++ back)) (sym after.1)
            (without_one idle g.said w.there front s back in_time);
        own = λ some. subst (λ (l : Log). IsTurned idle false l w.there t (Over end)) (sym after.1)
            (at_end_timed idle g.said w w' s t end P (of_one idle g.said w.there front s back in_time some) h timely);
      }

  pub heard_on : (came : List Ends) (ended : List (ℕ × Gone)) (w w' : World S Stream) (front : List Slotted)
      (s t : Slotted)
      (back : List Slotted) (course : Course) (g : IsGoing acting served idle before came ended w (front ++ s ∷ back))
      → AreInTime idle g.said w.there (front ++ s ∷ back) → s.waiting ≡ []
      → HasHeard acting served w s course w' t
      → IsOn acting served idle before came ended w' (stays course) front t back course
  heard_on came ended w w' front s t back Moved g in_time sent h =
      answered_on came ended w w' front s t back g in_time sent h
  heard_on came ended w w' front s t back Still g in_time sent h =
      subst (λ (x : World S Stream). IsOn acting served idle before came ended x true front t back Still) (sym h.0)
      (subst (λ (x : Slotted). IsOn acting served idle before came ended w true front x back Still) (sym h.1)
      (record {
        going = g;
        over = λ end is. absurd (cc);
        others = without_one idle g.said w.there front s back in_time;
        own = λ some. of_one idle g.said w.there front s back in_time some;
      }))
  heard_on came ended w w' front s t back (Over Finished) g in_time sent h =
      at_end_on came ended w w' front s t back Finished (IsEmpty t.told.left) g in_time sent h
      (λ said none empty. record { sent = none; done = inl empty }) (λ deeds k. k)
  heard_on came ended w w' front s t back (Over Failed) g in_time sent h =
      at_end_on came ended w w' front s t back Failed (t.told.unread ≡ true) g in_time sent h
      (λ said none failed. inr (none, failed)) (λ deeds k. k)
  heard_on came ended w w' front s t back (Over GivenUp) g in_time sent h =
      forgotten_on came ended w w' front s t back g in_time sent h
  heard_on came ended w w' front s t back (Over (Late limit)) g in_time sent h = absurd h

  -- ---- what becomes of one that isn't over

  -- nothing moved but the time
  stood_open : (said : Log) (came : List Ends) (s t : Slotted) → IsOpen said came s → t.number ≡ s.number
      → t.told ≡ s.told
      → t.waiting ≡ s.waiting → IsOpen said came t
  stood_open said came s t o number told waiting = record {
    from = o.from;
    came_is = ap (λ (n : ℕ). slice_get came n) number ∙ o.came_is;
    sent = o.sent;
    answer_is = ap (λ (n : ℕ). answered n said) number ∙ o.answer_is ∙ ap (λ (xs : List ℕ). o.sent ++ xs) (sym waiting);
    read = subst (λ (n : ℕ). Gives o.from.left (brought n said) t.told.left) (sym number)
        (subst (λ (e : Ends). Gives o.from.left (brought s.number said) e.left) (sym told) o.read);
    wrote = subst (λ (e : Ends). Adds o.from.written o.sent e.written) (sym told) o.wrote;
  }

  -- how it ends, where it does
  judged_over : (looks : ℕ) (w : World S Stream) (said : Log) (s t : Slotted) (course judged : Course) → 0 < idle
      → Follows rests (Serves acting served) (Moves acting served) (world before []) said w
      → IsJudged idle looks w.there s course t judged → (end : End) → judged ≡ Over end
      → HasEnded acting served idle before said t.number t.waiting t.told end
  judged_over looks w said s t course Moved some follows j end is = absurd (cc)
  judged_over looks w said s t course Still some follows j end is = absurd (cc)
  judged_over looks w said s t course (Over Finished) some follows j end is =
      subst (λ (k : End). HasEnded acting served idle before said t.number t.waiting t.told k)
      (same_end Finished end is)
      (subst (λ (x : Slotted). HasEnded acting served idle before said x.number x.waiting x.told Finished) (sym j.same)
      (record {
        sent = j.sent;
        done = inr record {
          front = said;
          later = [];
          split = sym (append-nil said);
          then = w;
          follows = follows;
          closed = j.closed;
        };
      }))
  judged_over looks w said s t course (Over (Late limit)) some follows j end is =
      subst (λ (k : End). HasEnded acting served idle before said t.number t.waiting t.told k)
      (same_end (Late limit) end is) some
  judged_over looks w said s t course (Over Failed) some follows j end is = absurd j
  judged_over looks w said s t course (Over GivenUp) some follows j end is = absurd j

  judged_same : (looks : ℕ) (there : List (ℕ × Stream)) (s t : Slotted) (course judged : Course)
      → IsJudged idle looks there s course t judged
      → (t.number ≡ s.number) × (t.told ≡ s.told) × (t.waiting ≡ s.waiting)
  judged_same looks there s t course Moved j = (j.1.asked.number, j.1.asked.told, j.1.asked.waiting)
  judged_same looks there s t course Still j = (j.1.asked.number, j.1.asked.told, j.1.asked.waiting)
  judged_same looks there s t course (Over Finished) j = (
    ap (λ (x : Slotted). x.number) j.same,
    ap (λ (x : Slotted). x.told) j.same,
    ap (λ (x : Slotted). x.waiting) j.same,
  )
  judged_same looks there s t course (Over (Late limit)) j = (j.asked.number, j.asked.told, j.asked.waiting)
  judged_same looks there s t course (Over Failed) j = absurd j
  judged_same looks there s t course (Over GivenUp) j = absurd j

  pub judged_on : (looks : ℕ) (came : List Ends) (ended : List (ℕ × Gone)) (w : World S Stream) (front : List Slotted)
      (s t : Slotted)
      (back : List Slotted) (course judged : Course) → 0 < idle → ((end : End) → course ≡ Over end → ⊥)
      → IsOn acting served idle before came ended w (stays course) front s back course
      → IsJudged idle looks w.there s course t judged
      → IsOn acting served idle before came ended w true front t back judged
  judged_on looks came ended w front s t back course judged some goes on j =
      let g = on.going in
      let same = judged_same looks w.there s t course judged j in
      let o = (all_parts (IsOpen g.said came) front s back g.opened).1 in
      let after = moves_on acting served idle before came ended w front s t back g same.0
      (stood_open g.said came s t o same.0 same.1 same.2) in
      record {
        going = after.0;
        over = λ end is. subst (λ (l : Log). HasEnded acting served idle before l t.number t.waiting t.told end)
            (sym after.1)
            (judged_over looks w g.said s t course judged some g.follows j end is);
        others = subst (λ (l : Log). AreInTime idle l w.there (front ++ back)) (sym after.1) on.others;
        own = λ more. subst (λ (l : Log). IsTurned idle true l w.there t judged) (sym after.1)
            (judged_timed idle looks g.said w.there s t course judged goes (on.own more) j);
      }

  -- where no limit is wanted nothing is asked
  pub unlimited_on : (came : List Ends) (ended : List (ℕ × Gone)) (w : World S Stream) (front : List Slotted)
      (s : Slotted)
      (back : List Slotted) (course : Course) (still : Bool) → idle ≡ 0
      → IsOn acting served idle before came ended w still front s back course
      → IsOn acting served idle before came ended w true front s back course
  unlimited_on came ended w front s back course still none on = record {
    going = on.going;
    over = on.over;
    others = on.others;
    own = λ some. absurd (omega (arith, none, some));
  }

  -- and one that is over isn't asked
  pub over_on : (came : List Ends) (ended : List (ℕ × Gone)) (w : World S Stream) (front : List Slotted) (s : Slotted)
      (back : List Slotted) (end : End) (still : Bool)
      → IsOn acting served idle before came ended w still front s back (Over end)
      → IsOn acting served idle before came ended w true front s back (Over end)
  over_on came ended w front s back end still on = record {
    going = on.going;
    over = on.over;
    others = on.others;
    own = on.own;
  }

-- ---- what was asked

pub sent_asked : (looks : ℕ) (s t : Slotted) (course : Course) → HasSent s course t → IsAsked looks s.trace
    → IsAsked looks t.trace
sent_asked looks s t Moved h asked = asked_still looks (Took h.taken) s.trace t.trace h.trace asked
sent_asked looks s t Still h asked = subst (IsAsked looks) (sym h.trace) asked
sent_asked looks s t (Over end) h asked = by h.trace where
  by : (t.trace ≡ s.trace) ⊎ (t.trace ≡ noted (Took h.taken) s.trace) → IsAsked looks t.trace
  by (inl same) = subst (IsAsked looks) (sym same) asked
  by (inr one) = asked_still looks (Took h.taken) s.trace t.trace one asked

end_asked : {S : Type 0} (looks : ℕ) (w w' : World S Stream) (s t : Slotted) (P : Type 0) → IsAtEnd w s w' t P
    → IsAsked looks s.trace
    → IsAsked looks t.trace
end_asked looks w w' s t P h asked = by h.trace where
  by : (t.trace ≡ s.trace) ⊎ (t.trace ≡ noted (Got []) s.trace) → IsAsked looks t.trace
  by (inl same) = subst (IsAsked looks) (sym same) asked
  by (inr one) = asked_still looks (Got []) s.trace t.trace one asked

pub heard_asked : {S : Type 0} (acting : Acting S) (served : Served) (looks : ℕ) (w w' : World S Stream) (s t : Slotted)
    (course : Course)
    → HasHeard acting served w s course w' t → IsAsked looks s.trace → IsAsked looks t.trace
heard_asked acting served looks w w' s t Moved h asked = asked_still looks (Got h.octets) s.trace t.trace h.trace asked
heard_asked acting served looks w w' s t Still h asked = subst (λ (x : Slotted). IsAsked looks x.trace) (sym h.1) asked
heard_asked acting served looks w w' s t (Over Finished) h asked =
    end_asked looks w w' s t (IsEmpty t.told.left) h asked
heard_asked acting served looks w w' s t (Over Failed) h asked = end_asked looks w w' s t (t.told.unread ≡ true) h asked
heard_asked acting served looks w w' s t (Over GivenUp) h asked =
    asked_still looks (Got h.octets) s.trace t.trace h.trace asked
heard_asked acting served looks w w' s t (Over (Late limit)) h asked = absurd h

pub judged_asked : (idle looks now : ℕ) (there : List (ℕ × Stream)) (s t : Slotted) (course judged : Course)
    → IsJudged idle now there s course t judged
    → IsAsked looks s.trace → IsAsked looks t.trace
judged_asked idle looks now there s t course Moved j asked =
    asked_still looks (Told now j.1.asked.time) s.trace t.trace j.1.asked.trace asked
judged_asked idle looks now there s t course Still j asked =
    asked_still looks (Told now j.1.asked.time) s.trace t.trace j.1.asked.trace asked
judged_asked idle looks now there s t course (Over Finished) j asked =
    subst (λ (x : Slotted). IsAsked looks x.trace) (sym j.same) asked
judged_asked idle looks now there s t course (Over (Late limit)) j asked =
    asked_still looks (Told now j.asked.time) s.trace t.trace j.asked.trace asked
judged_asked idle looks now there s t course (Over Failed) j asked = absurd j
judged_asked idle looks now there s t course (Over GivenUp) j asked = absurd j

pub judged_none : (idle looks : ℕ) (there : List (ℕ × Stream)) (s t : Slotted) (course : Course)
    → ((end : End) → course ≡ Over end → ⊥)
    → IsStanding idle looks there s course t None → IsJudged idle looks there s course t course
judged_none idle looks there s t Moved goes h = (refl, h)
judged_none idle looks there s t Still goes h = (refl, h)
judged_none idle looks there s t (Over end) goes h = absurd (goes end refl)

pub judged_again : (idle looks : ℕ) (there : List (ℕ × Stream)) (s t : Slotted) (course judged : Course)
    → ((end : End) → judged ≡ Over end → ⊥) → IsJudged idle looks there s course t judged → IsAsked looks s.trace
    → IsAsked (looks + 1) t.trace
judged_again idle looks there s t course Moved goes j asked =
    asked_again looks j.1.asked.time s.trace t.trace j.1.asked.trace asked
judged_again idle looks there s t course Still goes j asked =
    asked_again looks j.1.asked.time s.trace t.trace j.1.asked.trace asked
judged_again idle looks there s t course (Over end) goes j asked = absurd (goes end refl)

-- all is sent where nothing waits
pub all_sent : (items : List ℕ) (n : ℕ) → n ≤ length items → (n ≡ length items → drop n items ≡ [])
    × (drop n items ≡ [] → n ≡ length items)
all_sent [] n le = (λ e. by n le, λ e. omega (arith, le)) where
  by : (n : ℕ) → n ≤ 0 → drop {A = ℕ} n [] ≡ []
  by zero le = refl
  by (suc n) le = refl
all_sent (x ∷ xs) zero le = (λ e. absurd (omega (arith, e)), λ e. absurd (cc))
all_sent (x ∷ xs) (suc n) le =
    let k = all_sent xs n (omega (arith, le)) in
    (λ e. k.0 (omega (arith, e)), λ e. ap suc (k.1 e))

parts : (xs : List ℕ) (n : ℕ) → xs ≡ take n xs ++ drop n xs
parts [] zero = refl
parts [] (suc n) = refl
parts (x ∷ xs) zero = refl
parts (x ∷ xs) (suc n) = ap (λ (ys : List ℕ). x ∷ ys) (parts xs n)

none : (n : ℕ) → n ≡ 0 + n
none n = omega arith

next : (s n : ℕ) → suc (s + n) ≡ suc s + n
next s n = omega arith

nothing : (n : ℕ) → [] ≡ drop {A = ℕ} n []
nothing zero = refl
nothing (suc n) = refl

-- what is sent now and what waits behind it
pub sent_parts : (items : List ℕ) (s n : ℕ) → drop s items ≡ take n (drop s items) ++ drop (s + n) items
sent_parts items zero n = parts items n ∙ ap (λ (k : ℕ). take n items ++ drop k items) (none n)
sent_parts [] (suc s) zero = nothing (suc s + 0)
sent_parts [] (suc s) (suc n) = nothing (suc s + suc n)
sent_parts (x ∷ xs) (suc s) n = sent_parts xs s n ∙ ap (λ (k : ℕ). take n (drop s xs) ++ drop k (x ∷ xs)) (next s n)

-- what is said last to one that was idle is a front of the message
pub farewell : (message : List ℕ) (n : ℕ) → Says message Closes → IsFarewell (take n message)
farewell message n says = record { message = message; rest = drop n message; says = says; split = parts message n }

pub no_farewell : (message : List ℕ) → Says message Closes → IsFarewell []
no_farewell message says = record { message = message; rest = message; says = says; split = refl }
