-- How a session of a broker that was just made ends.
use Rattle.std.proofs.Common.{subst, ℕ, List, Result, Ok, Err, IfErr, OnOk}
use Rattle.type_model.specs.ModelRules.{Parts}
use Rattle.iiop_broker.specs.World.{Broking}
use Rattle.broker_answers.specs.Servants.{acts}
use Rattle.iiop_broker.specs.Outcomes.{Ends}
use Rattle.broker_answers.specs.Keeping.{Keeping, says, after}
use Rattle.broker_sockets.specs.declared.fault.ServeFault.{ServeFault}
use Rattle.broker_sockets.specs.declared.fault.ServeFault.TheVariants.{BadObject, NoInterface, Socket, Unwritten, NoMemory}
use Rattle.broker_sockets.specs.Objects.{IsBrokerOf}
use Rattle.broker_loop.specs.Visits.{AreServedBy, Gone}
use Rattle.broker_sockets.specs.Serving.{HasObject, IsDone, IsDoneTogether, IsFaultOf, IsOfObject}
use Rattle.broker_sockets.specs.Visits.{AreServed, Went}

module _ (model : Parts) (word : List ℕ) where
  pub done_by : (Told : List Went → Type 0) (broker : Broking Keeping) (count : ℕ) (came came' : List Ends)
      (last : Keeping)
      → IsBrokerOf model word broker
      → AreServed Told (acts says after) broker.served count came broker.world.servant came' last
      → IsDone Told model word count came came'
  done_by Told broker count came came' last made all = record {
    object = made.object;
    is = made.is;
    last = last;
    served_all = subst (λ (b : Broking Keeping). AreServed Told (acts says after) b.served count came b.world.servant
        came' last) made.new all;
  }

  pub done_on_ok : (Told : List Went → Type 0) (r : Result (Unit {0}) ServeFault) (broker : Broking Keeping) (count : ℕ)
      (came came' : List Ends) (last : Keeping) → IsBrokerOf model word broker
      → OnOk r (AreServed Told (acts says after) broker.served count came broker.world.servant came' last)
      → OnOk r (IsDone Told model word count came came')
  done_on_ok Told (Ok done) broker count came came' last made all = done_by Told broker count came came' last made all
  done_on_ok Told (Err fault) broker count came came' last made all = tt

  together_by : (Told : List (ℕ × Gone) → Type 0) (broker : Broking Keeping) (idle : ℕ) (came : List Ends)
      (last : Keeping)
      → IsBrokerOf model word broker
      → AreServedBy Told (acts says after) broker.served idle broker.world.servant came last
      → IsDoneTogether Told model word idle came
  together_by Told broker idle came last made all = record {
    object = made.object;
    is = made.is;
    last = last;
    served_all = subst (λ (b : Broking Keeping). AreServedBy Told (acts says after) b.served idle b.world.servant came
        last) made.new all;
  }

  pub together_on_ok : (Told : List (ℕ × Gone) → Type 0) (r : Result (Unit {0}) ServeFault) (broker : Broking Keeping)
      (idle : ℕ)
      (came : List Ends) (last : Keeping) → IsBrokerOf model word broker
      → OnOk r (AreServedBy Told (acts says after) broker.served idle broker.world.servant came last)
      → OnOk r (IsDoneTogether Told model word idle came)
  together_on_ok Told (Ok done) broker idle came last made all = together_by Told broker idle came last made all
  together_on_ok Told (Err fault) broker idle came last made all = tt

  pub has_object : (broker : Broking Keeping) → IsBrokerOf model word broker → HasObject model word
  has_object broker made = record { object = made.object; is = made.is }

  -- a fault that isn't one of the object's has its cause
  pub later_fault : (fault : ServeFault) → (IsOfObject fault → ⊥) → HasObject model word → IsFaultOf model word fault
  later_fault BadObject later has = absurd (later tt)
  later_fault (NoInterface name) later has = absurd (later tt)
  later_fault Socket later has = has
  later_fault Unwritten later has = has
  later_fault NoMemory later has = tt

  pub faults_have_causes : (r : Result (Unit {0}) ServeFault) → IfErr r (λ fault. IsOfObject fault → ⊥)
      → HasObject model word
      → IfErr r (IsFaultOf model word)
  faults_have_causes (Ok done) later has = tt
  faults_have_causes (Err fault) later has = later_fault fault later has

  -- what is asked of a fault of the object's is asked of none
  pub none_of_object : (A : Type 0) (r : Result (Unit {0}) ServeFault) → IfErr r (λ fault. IsOfObject fault → ⊥)
      → IfErr r (λ fault. IsOfObject fault → A)
  none_of_object A (Ok done) later = tt
  none_of_object A (Err fault) later = λ of. absurd (later of)
