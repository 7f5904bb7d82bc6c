-- Connections that came, were served at the same time, and went.
use Rattle.std.specs.Prelude.{◌≡◌, ◌⊎◌, ℕ, ◌<◌, Bool, true, List, [], ◌∷◌, ◌++◌, length, Option, Some, slice_get}
use Rattle.broker_answers.specs.Streams.{Stream, Closed}
use Rattle.broker_answers.specs.Connections.{at}
use Rattle.broker_answers.specs.Talk.{World, world, rests, Follows, Talk, GivesUp}
use Rattle.broker_answers.specs.Servants.{Acting}
use Rattle.broker_answers.specs.Objects.{Served}
use Rattle.broker_answers.specs.Serving.{Moves, Serves}
use Rattle.giop_messages.specs.Messages.{Closes, Says}
use Rattle.iiop_broker.specs.Ends.{Adds, Gives, IsEmpty}
use Rattle.iiop_broker.specs.Outcomes.{Ends}
use Rattle.broker_loop.specs.declared.listener.End.{End}
use Rattle.broker_loop.specs.declared.listener.End.TheVariants.{Finished, Failed, GivenUp, Late}
use Rattle.broker_loop.specs.Carried.{Log, answered, brought}
use Rattle.broker_loop.specs.Limits.{IsTimed}
use Rattle.broker_loop.specs.Telling.{IsAsked, Trace}

-- at some time of the log the broker had closed the connection
pub record IsShut {S : Type 0} (acting : Acting S) (served : Served) (before : S) (said : Log) (c : ℕ) : Type 0 where
  pub front : Log
  pub later : Log
  pub split : said ≡ front ++ later
  pub then : World S Stream
  pub follows : Follows rests (Serves acting served) (Moves acting served) (world before []) front then
  pub closed : at c then.there ≡ Some Closed

-- octets of it were given up for want of memory
pub record IsGivenUp (said : Log) (c : ℕ) : Type 0 where
  pub front : Log
  pub later : Log
  pub octets : List ℕ
  pub j : ℕ
  pub split : said ≡ front ++ (GivesUp c octets j, []) ∷ later

-- all was read, or the broker closed the connection, and all answers are written
pub record IsFinished {S : Type 0} (acting : Acting S) (served : Served) (before : S) (said : Log) (c : ℕ)
    (waiting : List ℕ) (to : Ends) : Type 0 where
  pub sent : waiting ≡ []
  pub done : IsEmpty to.left ⊎ IsShut acting served before said c

-- memory was wanted for what came, or before anything did, and all answers are written
pub record IsForsaken (said : Log) (c : ℕ) (waiting : List ℕ) : Type 0 where
  pub sent : waiting ≡ []
  pub wanted : IsGivenUp said c ⊎ (brought c said ≡ [])

-- How a connection ended, of whose answers these aren't written. None passes a limit of 0.
abbrev pub HasEnded : {S : Type 0} → Acting S → Served → ℕ → S → Log → ℕ → List ℕ → Ends → End → Type 0
HasEnded acting served idle before said c waiting to Finished = IsFinished acting served before said c waiting to
HasEnded acting served idle before said c waiting to Failed =
    (to.unwritten ≡ true) ⊎ ((waiting ≡ []) × (to.unread ≡ true))
HasEnded acting served idle before said c waiting to GivenUp = IsForsaken said c waiting
HasEnded acting served idle before said c waiting to (Late limit) = 0 < idle

-- a front of the message that no more is heard (GIOP: CloseConnection)
pub record IsFarewell (octets : List ℕ) : Type 0 where
  pub message : List ℕ
  pub rest : List ℕ
  pub says : Says message Closes
  pub split : message ≡ octets ++ rest

-- what is written behind the answers: such a front where it passed a limit and none waits, and else nothing
abbrev pub IsLast : End → List ℕ → List ℕ → Type 0
IsLast (Late limit) waiting last = (last ≡ []) ⊎ ((waiting ≡ []) × IsFarewell last)
IsLast end waiting last = last ≡ []

-- it is shut where no call on it failed
abbrev pub IsShutAt : End → Bool → Type 0
IsShutAt Failed shut = Unit {0}
IsShutAt end shut = shut ≡ true

-- what a connection that was handed back told then, what it had noted, how often the listener had looked, and how it
-- ended
pub record Gone : Type 0 where
  pub told : Ends
  pub trace : Option Trace
  pub looks : ℕ
  pub end : End

abbrev pub gone : Ends → Option Trace → ℕ → End → Gone
gone told trace looks end = record { told = told; trace = trace; looks = looks; end = end }

-- A connection that told one thing when it came and another when it went: just the octets of its events were read, and
-- its answers are written, but for those that wait, and then what is last. Unless the limits are 0, the time was told
-- for it in each round, and it was let go of in that in which it had passed one.
pub record IsCarried {S : Type 0} (acting : Acting S) (served : Served) (idle : ℕ) (before : S) (said : Log) (c : ℕ)
    (from : Ends) (to : Gone) : Type 0 where
  pub sent : List ℕ
  pub waiting : List ℕ
  pub last : List ℕ
  pub answer_is : answered c said ≡ sent ++ waiting
  pub read : Gives from.left (brought c said) to.told.left
  pub wrote : Adds from.written (sent ++ last) to.told.written
  pub last_is : IsLast to.end waiting last
  pub ended : HasEnded acting served idle before said c waiting to.told to.end
  pub asked : 0 < idle → IsAsked to.looks to.trace
  pub timed : 0 < idle → IsTimed idle said c to.trace to.end

-- the connection that came as this number among all, and what it told when it was handed back
pub record IsVisit {S : Type 0} (acting : Acting S) (served : Served) (idle : ℕ) (before : S) (said : Log)
    (came : List Ends) (ended : List (ℕ × Gone)) (c : ℕ) : Type 0 where
  pub from : Ends
  pub to : Gone
  pub came_is : slice_get came c ≡ Some from
  pub ended_is : at c ended ≡ Some to
  pub carried : IsCarried acting served idle before said c from to

-- Each connection was served what the talk of all says, in which their events come in some order.
pub record AreServed {S : Type 0} (acting : Acting S) (served : Served) (idle : ℕ) (before : S) (came : List Ends)
    (ended : List (ℕ × Gone)) (after : S) : Type 0 where
  pub said : Log
  pub talk : Talk (Serves acting served) (Moves acting served) before said after
  pub each : (c : ℕ) → c < length came → IsVisit acting served idle before said came ended c

-- the same, for some list of those that went that may be told
abbrev pub AreServedBy : {S : Type 0} → (List (ℕ × Gone) → Type 0) → Acting S → Served → ℕ → S → List Ends → S
    → Type 0
AreServedBy Told acting served idle before came after =
    (ended : List (ℕ × Gone)) × Told ended × AreServed acting served idle before came ended after
