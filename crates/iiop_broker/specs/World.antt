-- The broker, its events and refusals.
use Rattle.std.specs.Prelude.{◌≡◌, ℕ, ◌<◌, ◌≤◌, List, [], length, Some, None}
use Rattle.broker_answers.specs.Streams.{Stream}
use Rattle.broker_answers.specs.Connections.{at, max_connections}
use Rattle.broker_answers.specs.Talk.{Event, Begins, Brings, GivesUp, Ends, World, rests, Happens}
use Rattle.broker_answers.specs.Servants.{Acting}
use Rattle.broker_answers.specs.Objects.{Served}
use Rattle.broker_answers.specs.Serving.{Moves, Serves}
use Rattle.iiop_broker.specs.declared.event.Event.{Event as Told}
use Rattle.iiop_broker.specs.declared.event.Event.TheVariants as told
use Rattle.iiop_broker.specs.declared.fault.BrokerFault.{BrokerFault}
use Rattle.iiop_broker.specs.declared.fault.BrokerFault.TheVariants as faults

-- a broker: what it serves, the servant's state, and the rest of each stream
pub record Broking (S : Type 0) : Type 0 where
  pub served : Served
  pub world : World S Stream

abbrev pub broking : {S : Type 0} → Served → World S Stream → Broking S
broking served world = record { served = served; world = world }

abbrev pub event_of : Told → Event
event_of (told.Begin c) = Begins c
event_of (told.Piece c octets) = Brings c octets.now
event_of (told.End c) = Ends c

-- One step: an event that is accepted, and its answer.
abbrev pub IsStep : {S : Type 0} → Acting S → Served → World S Stream → Event → List ℕ → World S Stream → Type 0
IsStep acting served before event answer after =
    Happens rests (Serves acting served) (Moves acting served) before event answer after

-- Want of memory: a piece is given up after some of its messages, a begin that could be changes nothing, an end never
-- wants any.
abbrev pub IsGivenUp : {S : Type 0} → Acting S → Served → World S Stream → Event → World S Stream → Type 0
IsGivenUp acting served before (Begins c) after =
    (at c before.there ≡ None) × (length before.there < max_connections) × (after ≡ before)
IsGivenUp acting served before (Brings c octets) after =
    (j : ℕ) × IsStep acting served before (GivesUp c octets j) [] after
IsGivenUp acting served before (GivesUp c octets j) after = ⊥
IsGivenUp acting served before (Ends c) after = ⊥

-- a piece or an end of no connection that is there
abbrev pub IsAbsent : {S : Type 0} → World S Stream → Event → Type 0
IsAbsent before (Begins c) = ⊥
IsAbsent before (Brings c octets) = at c before.there ≡ None
IsAbsent before (GivesUp c octets j) = ⊥
IsAbsent before (Ends c) = at c before.there ≡ None

-- a begin of one that is
abbrev pub IsTwice : {S : Type 0} → World S Stream → Event → Type 0
IsTwice before (Begins c) = (kept : Stream) × (at c before.there ≡ Some kept)
IsTwice before (Brings c octets) = ⊥
IsTwice before (GivesUp c octets j) = ⊥
IsTwice before (Ends c) = ⊥

-- a begin of one that isn't while as many as there may be are
abbrev pub IsOneMore : {S : Type 0} → World S Stream → Event → Type 0
IsOneMore before (Begins c) = (at c before.there ≡ None) × (max_connections ≤ length before.there)
IsOneMore before (Brings c octets) = ⊥
IsOneMore before (GivesUp c octets j) = ⊥
IsOneMore before (Ends c) = ⊥

abbrev pub IsRefused : {S : Type 0} → Acting S → Served → World S Stream → Event → BrokerFault → World S Stream → Type 0
IsRefused acting served before event faults.NoSuchConnection after = IsAbsent before event × (after ≡ before)
IsRefused acting served before event faults.AlreadyThere after = IsTwice before event × (after ≡ before)
IsRefused acting served before event faults.TooMany after = IsOneMore before event × (after ≡ before)
IsRefused acting served before event faults.NoMemory after = IsGivenUp acting served before event after
