-- A stream that is served from its begin to its end.
use Rattle.std.specs.Prelude.{◌≡◌, ◌⊎◌, ◌<◌, ◌≤◌, ℕ, length, None, Result, Ok, Err}
use Rattle.broker_answers.specs.Streams.{Stream}
use Rattle.broker_answers.specs.Connections.{at, max_connections}
use Rattle.broker_answers.specs.Talk.{World}
use Rattle.broker_answers.specs.Servants.{Acting}
use Rattle.broker_answers.specs.Objects.{Served}
use Rattle.iiop_broker.specs.Listed.{IsThere}
use Rattle.iiop_broker.specs.declared.stream_fault.StreamFault.{StreamFault}
use Rattle.iiop_broker.specs.declared.stream_fault.StreamFault.TheVariants as faults
use Rattle.iiop_broker.specs.AnsweredStreams.{Talked, TalkedInPart}
use Rattle.iiop_broker.specs.Outcomes.{Ends, IsOutcome}

-- nothing changed
pub record Unchanged {S : Type 0} (before after : World S Stream) (from to : Ends) : Type 0 where
  pub world : after ≡ before
  pub ends : to ≡ from

-- the connection couldn't begin
pub record IsTwice {S : Type 0} (c : ℕ) (before after : World S Stream) (from to : Ends) : Type 0 where
  pub there : IsThere c before.there
  pub unchanged : Unchanged before after from to

-- it could, but memory was wanted
pub record IsNotBegun {S : Type 0} (c : ℕ) (before after : World S Stream) (from to : Ends) : Type 0 where
  pub absent : at c before.there ≡ None
  pub room : length before.there < max_connections
  pub unchanged : Unchanged before after from to

pub record IsOneMore {S : Type 0} (c : ℕ) (before after : World S Stream) (from to : Ends) : Type 0 where
  pub absent : at c before.there ≡ None
  pub full : max_connections ≤ length before.there
  pub unchanged : Unchanged before after from to

-- It could, and this became of it: what was read was answered as one stream, however it came in pieces, and it isn't
-- there any more.
pub record IsRun {S : Type 0} (acting : Acting S) (served : Served) (c reads : ℕ) (before : World S Stream)
    (from : Ends) (result : Result (Unit {0}) StreamFault) (after : World S Stream) (to : Ends) : Type 0 where
  pub absent : at c before.there ≡ None
  pub room : length before.there < max_connections
  pub outcome : IsOutcome (λ octets answer closes. Talked acting served before octets answer closes after)
      (λ octets answer more. TalkedInPart acting served before octets answer more after) reads from result to

abbrev pub IsServed : {S : Type 0} → Acting S → Served → ℕ → ℕ → World S Stream
    → Ends → Result (Unit {0}) StreamFault → World S Stream → Ends → Type 0
IsServed acting served c reads before from (Ok done) after to =
    IsRun acting served c reads before from (Ok done) after to
IsServed acting served c reads before from (Err faults.AlreadyThere) after to = IsTwice c before after from to
IsServed acting served c reads before from (Err faults.TooMany) after to = IsOneMore c before after from to
IsServed acting served c reads before from (Err faults.ReadFailed) after to =
    IsRun acting served c reads before from (Err faults.ReadFailed) after to
IsServed acting served c reads before from (Err (faults.WriteFailed sent)) after to =
    IsRun acting served c reads before from (Err (faults.WriteFailed sent)) after to
IsServed acting served c reads before from (Err faults.NoMemory) after to =
    IsNotBegun c before after from to ⊎ IsRun acting served c reads before from (Err faults.NoMemory) after to
IsServed acting served c reads before from (Err faults.ReadLimit) after to =
    IsRun acting served c reads before from (Err faults.ReadLimit) after to
