-- Connections served one after the other.
use Rattle.std.proofs.Common.{◌≡◌, inl, inr, ℕ, ◌+◌, ◌<◌, List, [], ◌∷◌, ◌++◌, length, Option, Bool, Result, Ok, Err, refl, sym, ap, ◌∙◌, subst, append_assoc, append-nil, arith}
use Rattle.broker_answers.specs.Streams.{Stream}
use Rattle.broker_answers.specs.Talk.{World, world}
use Rattle.broker_answers.specs.Servants.{Acting}
use Rattle.broker_answers.specs.Objects.{Served}
use Rattle.iiop_broker.specs.Outcomes.{Ends, ends}
use Rattle.iiop_broker.specs.Serving.{IsServed}
use Rattle.iiop_broker.specs.declared.stream_fault.StreamFault.{StreamFault}
use Rattle.iiop_broker.specs.declared.stream_fault.StreamFault.TheVariants as faults
use Rattle.broker_sockets.specs.Visits.{AreCut, AreSeen, AreServed, IsOneMore, IsSeen, Went, went_as}

-- a stream leaves the other connections as they were, however it ends
pub there_stays : {S : Type 0} (acting : Acting S) (served : Served) (c reads : ℕ) (before : World S Stream)
    (from : Ends)
    (result : Result (Unit {0}) StreamFault) (after : World S Stream) (to : Ends)
    → IsServed acting served c reads before from result after to → after.there ≡ before.there
there_stays acting served c reads before from (Ok done) after to is = is.outcome.told.there
there_stays acting served c reads before from (Err faults.AlreadyThere) after to is =
    ap (λ w. w.there) is.unchanged.world
there_stays acting served c reads before from (Err faults.ReadFailed) after to is = is.outcome.told.there
there_stays acting served c reads before from (Err (faults.WriteFailed sent)) after to is = is.outcome.told.there
there_stays acting served c reads before from (Err faults.NoMemory) after to (inl is) =
    ap (λ w. w.there) is.unchanged.world
there_stays acting served c reads before from (Err faults.NoMemory) after to (inr is) = is.outcome.told.there
there_stays acting served c reads before from (Err faults.ReadLimit) after to is = is.outcome.told.there
there_stays acting served c reads before from (Err faults.TooMany) after to is = ap (λ w. w.there) is.unchanged.world

-- a world without connections
alone : {S : Type 0} (w : World S Stream) → w.there ≡ [] → w ≡ world w.servant []
alone w e = ap (λ there. world w.servant there) e

-- a shut side tells what it told
pub same_ends : (left written written' : Option (List ℕ)) (unread unwritten unwritten' : Bool) → written' ≡ written
    → unwritten' ≡ unwritten → ends left written' unread unwritten' ≡ ends left written unread unwritten
same_ends left written written' unread unwritten unwritten' one other =
    ap (λ w. ends left w unread unwritten') one ∙ ap (λ f. ends left written unread f) other

-- what was served was seen to
pub seen_of : {S : Type 0} (acting : Acting S) (served : Served) (before : World S Stream) (from : Ends)
    (result : Result (Unit {0}) StreamFault) (after : World S Stream) (to : Ends) → before.there ≡ []
    → IsServed acting served 1 4294967296 before from result after to
    → IsSeen acting served from (went_as to result) before.servant after.servant
seen_of acting served before from result after to none is =
    let none_after = there_stays acting served 1 4294967296 before from result after to is ∙ none in
    subst (λ w. IsServed acting served 1 4294967296 (world before.servant []) from result w to) (alone after none_after)
    (subst (λ w. IsServed acting served 1 4294967296 w from result after to) (alone before none) is)

length_behind : {X : Type 0} (xs : List X) (x : X) → length (xs ++ x ∷ []) ≡ length xs + 1
length_behind [] x = refl
length_behind (y ∷ xs) x = let h = length_behind xs x in omega (arith, h)

module _ {S : Type 0} (acting : Acting S) (served : Served) where
  -- none yet
  pub none_served : (Told : List Went → Type 0) (came : List Ends) (before : S) → Told []
      → AreServed Told acting served 0 came before came before
  none_served Told came before told =
      record { more = []; gone = []; count_is = refl; came_is = sym (append-nil came); told = told; seen = refl }

  seen_behind : (more : List Ends) (gone : List Went) (from : Ends) (to : Went) (before between after : S)
      → AreSeen acting served more gone before between → IsSeen acting served from to between after
      → AreSeen acting served (more ++ from ∷ []) (gone ++ to ∷ []) before after
  seen_behind [] [] from to before between after same seen =
      (after, subst (λ s. IsSeen acting served from to s after) same seen, refl)
  seen_behind [] (one ∷ gone) from to before between after are seen = absurd are
  seen_behind (one ∷ more) [] from to before between after are seen = absurd are
  seen_behind (one ∷ more) (other ∷ gone) from to before between after are seen =
      (are.0, are.1, seen_behind more gone from to are.0 between after are.2 seen)

  -- one more
  pub one_more_served : (Told Told' : List Went → Type 0) (count : ℕ) (came : List Ends) (before : S)
      (came' : List Ends) (between : S)
      (came'' : List Ends) (after : S) → AreServed Told acting served count came before came' between
      → IsOneMore Told Told' acting served came' between came'' after
      → AreServed Told' acting served (count + 1) came before came'' after
  one_more_served Told Told' count came before came' between came'' after are one = record {
    more = are.more ++ one.from ∷ [];
    gone = are.gone ++ one.to ∷ [];
    count_is = length_behind are.more one.from ∙ ap (λ n. n + 1) are.count_is;
    came_is = one.came_is ∙ ap (λ l. l ++ one.from ∷ []) are.came_is ∙ append_assoc came are.more (one.from ∷ []);
    told = one.gone are.gone are.told;
    seen = seen_behind are.more are.gone one.from one.to before between after are.seen one.seen;
  }

  -- where no other comes, they are as they were
  pub cut_off : (Told Told' : List Went → Type 0) (count fewer : ℕ) (came : List Ends) (before : S)
      (came' came'' : List Ends)
      (between after : S) → fewer < count → AreServed Told acting served fewer came before came' between
      → ((all : List Went) → Told all → Told' all) → came'' ≡ came' → after ≡ between
      → AreCut Told' acting served count came before came'' after
  cut_off Told Told' count fewer came before came' came'' between after within are still same unmoved = record {
    fewer = fewer;
    within = within;
    all = record {
      more = are.more;
      gone = are.gone;
      count_is = are.count_is;
      came_is = same ∙ are.came_is;
      told = still are.gone are.told;
      seen = subst (λ s. AreSeen acting served are.more are.gone before s) (sym unmoved) are.seen;
    };
  }
