-- The end of a stream that was begun.
use Rattle.std.proofs.Common.{◌≡◌, inr, ℕ, false, List, [], Some, None, Result, Ok, Err, refl, sym, subst, ◌∙◌}
use Rattle.broker_answers.specs.Streams.{Stream, Closed}
use Rattle.broker_answers.specs.Connections.{at}
use Rattle.broker_answers.specs.Talk.{World, rests, Opens, Leaves, Brings, Ends as Leaving}
use Rattle.broker_answers.specs.Servants.{Acting}
use Rattle.broker_answers.specs.Objects.{Served}
use Rattle.iiop_broker.specs.declared.fault.BrokerFault.{BrokerFault}
use Rattle.iiop_broker.specs.declared.fault.BrokerFault.TheVariants as broken
use Rattle.iiop_broker.specs.World.{IsRefused}
use Rattle.iiop_broker.specs.Listed.{IsThere}
use Rattle.iiop_broker.proofs.Places.{at_split}
use Rattle.iiop_broker.specs.declared.stream_fault.StreamFault.{StreamFault}
use Rattle.iiop_broker.specs.declared.stream_fault.StreamFault.TheVariants as faults
use Rattle.iiop_broker.specs.AnsweredStreams.{GivenUp}
use Rattle.iiop_broker.specs.Outcomes.{Ends, IsOutcome}
use Rattle.iiop_broker.specs.inner.Running.{running, running_in_part}
use Rattle.iiop_broker.specs.Serving.{IsServed}
use Rattle.iiop_broker.proofs.AnsweredStreams.{talked, talked_in_part}
use Rattle.iiop_broker.proofs.Going.{still_there}

given_there : {S : Type 0} (acting : Acting S) (served : Served) (c : ℕ) (others : List (ℕ × Stream)) (before : S)
    (octets answer more : List ℕ) (w : World S Stream) → GivenUp acting served c others before octets answer more w
    → IsThere c w.there
given_there {S} acting served c others before octets answer more w g = record {
  kept = Closed;
  found = subst (λ (there : List (ℕ × Stream)). at c there ≡ Some Closed) (sym g.there)
      (at_split c others Closed [] g.absent);
}

pub outcome_there : {S : Type 0} (acting : Acting S) (served : Served) (c : ℕ) (others : List (ℕ × Stream)) (before : S)
    (reads : ℕ) (from to : Ends) (result : Result (Unit {0}) StreamFault) (w : World S Stream)
    → IsOutcome (running acting served c others before w) (running_in_part acting served c others before w) reads from
    result to
    → IsThere c w.there
outcome_there acting served c others before reads from to (Ok done) w o =
    still_there acting served c others before o.octets o.answer o.closes w o.told
outcome_there acting served c others before reads from to (Err faults.AlreadyThere) w o = absurd o
outcome_there acting served c others before reads from to (Err faults.ReadFailed) w o =
    still_there acting served c others before o.octets o.answer false w o.told
outcome_there acting served c others before reads from to (Err (faults.WriteFailed sent)) w o =
    still_there acting served c others before o.octets o.answer o.closes w o.told
outcome_there acting served c others before reads from to (Err faults.NoMemory) w o =
    given_there acting served c others before o.octets o.answer o.more w o.told
outcome_there acting served c others before reads from to (Err faults.ReadLimit) w o =
    still_there acting served c others before o.octets o.answer false w o.told
outcome_there acting served c others before reads from to (Err faults.TooMany) w o = absurd o

-- an end isn't refused where the connection is there
pub end_is_taken : {S : Type 0} (acting : Acting S) (served : Served) (c : ℕ) (fault : BrokerFault)
    (before after : World S Stream)
    → IsThere c before.there → IsRefused acting served before (Leaving c) fault after → ⊥
end_is_taken acting served c broken.NoSuchConnection before after there r =
    let both : Some there.kept ≡ None = sym there.found ∙ r.0 in absurd (cc)
end_is_taken acting served c broken.AlreadyThere before after there r = r.0
end_is_taken acting served c broken.NoMemory before after there r = r
end_is_taken acting served c broken.TooMany before after there r = r.0

-- a piece is refused for memory alone where the connection is there
pub piece_is_heard : {S : Type 0} (acting : Acting S) (served : Served) (c : ℕ) (octets : List ℕ) (fault : BrokerFault)
    (before after : World S Stream) → (fault ≡ broken.NoMemory → ⊥) → IsThere c before.there
    → IsRefused acting served before (Brings c octets) fault after → ⊥
piece_is_heard acting served c octets broken.NoSuchConnection before after other there r =
    let both : Some there.kept ≡ None = sym there.found ∙ r.0 in absurd (cc)
piece_is_heard acting served c octets broken.AlreadyThere before after other there r = r.0
piece_is_heard acting served c octets broken.NoMemory before after other there r = other refl
piece_is_heard acting served c octets broken.TooMany before after other there r = r.0

pub served_of : {S : Type 0} (acting : Acting S) (served : Served) (c reads : ℕ)
    (before begun now after : World S Stream)
    (silence silent : List ℕ) (from to : Ends) (result : Result (Unit {0}) StreamFault)
    → Opens rests before c silence begun
    → IsOutcome (running acting served c before.there before.servant now)
    (running_in_part acting served c before.there before.servant now) reads from result to
    → Leaves now c silent after → IsServed acting served c reads before from result after to
served_of acting served c reads before begun now after silence silent from to (Ok done) opens o l = record {
  absent = opens.absent;
  room = opens.room;
  outcome = record {
    octets = o.octets;
    answer = o.answer;
    closes = o.closes;
    told = talked acting served c before now after o.octets o.answer silent o.closes o.told l;
    read = o.read;
    wrote = o.wrote;
    finished = o.finished;
  };
}
served_of acting served c reads before begun now after silence silent from to (Err faults.AlreadyThere) opens o l =
    absurd o
served_of acting served c reads before begun now after silence silent from to (Err faults.ReadFailed) opens o l =
    record {
      absent = opens.absent;
      room = opens.room;
      outcome = record {
        octets = o.octets;
        answer = o.answer;
        told = talked acting served c before now after o.octets o.answer silent false o.told l;
        read = o.read;
        wrote = o.wrote;
        failed = o.failed;
      };
    }
served_of acting served c reads before begun now after silence silent from to (Err (faults.WriteFailed sent)) opens o
    l = record {
      absent = opens.absent;
      room = opens.room;
      outcome = record {
        octets = o.octets;
        answer = o.answer;
        closes = o.closes;
        told = talked acting served c before now after o.octets o.answer silent o.closes o.told l;
        read = o.read;
        within = o.within;
        wrote = o.wrote;
        failed = o.failed;
      };
    }
served_of acting served c reads before begun now after silence silent from to (Err faults.NoMemory) opens o l =
    inr (record {
      absent = opens.absent;
      room = opens.room;
      outcome = record {
        octets = o.octets;
        answer = o.answer;
        more = o.more;
        told = talked_in_part acting served c before now after o.octets o.answer o.more silent o.told l;
        read = o.read;
        wrote = o.wrote;
      };
    })
served_of acting served c reads before begun now after silence silent from to (Err faults.ReadLimit) opens o l =
    record {
      absent = opens.absent;
      room = opens.room;
      outcome = record {
        octets = o.octets;
        answer = o.answer;
        told = talked acting served c before now after o.octets o.answer silent false o.told l;
        read = o.read;
        wrote = o.wrote;
        many = o.many;
      };
    }
served_of acting served c reads before begun now after silence silent from to (Err faults.TooMany) opens o l = absurd o
