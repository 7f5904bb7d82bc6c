-- What becomes of a connection in its turn.
use Rattle.std.specs.Prelude.{◌≡◌, ◌⊎◌, ℕ, true, false, List, [], ◌++◌, Option, Some, None}
use Rattle.broker_answers.specs.Streams.{Stream, Closed}
use Rattle.broker_answers.specs.Connections.{at}
use Rattle.broker_answers.specs.Talk.{World, rests, Answers, Abandons}
use Rattle.broker_answers.specs.Servants.{Acting}
use Rattle.broker_answers.specs.Objects.{Served}
use Rattle.broker_answers.specs.Serving.{Moves, Serves}
use Rattle.iiop_broker.specs.Ends.{Adds, Gives, IsEmpty}
use Rattle.broker_loop.specs.declared.listener.End.{End}
use Rattle.broker_loop.specs.declared.limits.Standing.{Standing}
use Rattle.broker_loop.specs.declared.listener.End.TheVariants.{Finished, Failed, GivenUp, Late}
use Rattle.broker_loop.specs.declared.listener.Limit.{Limit}
use Rattle.broker_loop.specs.declared.slot.Course.{Course}
use Rattle.broker_loop.specs.declared.slot.Course.TheVariants.{Moved, Still, Over}
use Rattle.iiop_broker.specs.Outcomes.{Ends}
use Rattle.iiop_broker.specs.Room.{is_begun}
use Rattle.broker_loop.specs.Telling.{Got, Mark, Told, Took, Trace, noted}
use Rattle.broker_loop.specs.Visits.{Gone, IsFarewell}
use Rattle.broker_loop.specs.inner.Going.{Slotted, stays}
use Rattle.broker_loop.specs.inner.Waits.{IsPassed, later}

-- what a call noted that moved octets, or may have
abbrev pub HasNoted : Course → Mark → Option Trace → Option Trace → Type 0
HasNoted Moved mark before after = after ≡ noted mark before
HasNoted Still mark before after = after ≡ before
HasNoted (Over end) mark before after = (after ≡ before) ⊎ (after ≡ noted mark before)

-- some of what waits was sent; it is over where a write failed
pub record HasSent (before : Slotted) (course : Course) (after : Slotted) : Type 0 where
  pub taken : List ℕ
  pub number : after.number ≡ before.number
  pub waiting : before.waiting ≡ taken ++ after.waiting
  pub left : after.told.left ≡ before.told.left
  pub written : Adds before.told.written taken after.told.written
  pub trace : HasNoted course (Took taken) before.trace after.trace
  pub waits : after.waits ≡ before.waits
  pub still : course ≡ Still → taken ≡ []
  pub failed : (end : End) → course ≡ Over end → (end ≡ Failed) × (after.told.unwritten ≡ true)

-- octets came, and nothing else changed but what waits
pub record HasGot (before : Slotted) (octets waiting : List ℕ) (after : Slotted) : Type 0 where
  pub number : after.number ≡ before.number
  pub waiting_is : after.waiting ≡ waiting
  pub read : Gives before.told.left octets after.told.left
  pub written : after.told.written ≡ before.told.written
  pub waits : after.waits ≡ before.waits

pub record IsAnswered {S : Type 0} (acting : Acting S) (served : Served) (now : World S Stream) (before : Slotted)
    (then : World S Stream) (after : Slotted) : Type 0 where
  pub octets : List ℕ
  pub answer : List ℕ
  pub answers : Answers rests (Serves acting served) now before.number octets answer then
  pub got : HasGot before octets answer after
  pub trace : after.trace ≡ noted (Got octets) before.trace

pub record IsForgotten {S : Type 0} (acting : Acting S) (served : Served) (now : World S Stream) (before : Slotted)
    (then : World S Stream) (after : Slotted) : Type 0 where
  pub octets : List ℕ
  pub j : ℕ
  pub abandons : Abandons rests (Moves acting served) now before.number octets j [] then
  pub got : HasGot before octets before.waiting after
  pub trace : after.trace ≡ noted (Got octets) before.trace

-- nothing came, since all was read or the read failed
pub record IsAtEnd {S : Type 0} (now : World S Stream) (before : Slotted) (then : World S Stream) (after : Slotted)
    (ended : Type 0) : Type 0 where
  pub same : then ≡ now
  pub got : HasGot before [] before.waiting after
  pub trace : (after.trace ≡ before.trace) ⊎ (after.trace ≡ noted (Got []) before.trace)
  pub is : ended

-- what came was answered, or nothing came, or it is over
abbrev pub HasHeard : {S : Type 0} → Acting S → Served → World S Stream → Slotted → Course
    → World S Stream → Slotted → Type 0
HasHeard acting served now before Moved then after = IsAnswered acting served now before then after
HasHeard acting served now before Still then after = (then ≡ now) × (after ≡ before)
HasHeard acting served now before (Over Finished) then after = IsAtEnd now before then after (IsEmpty after.told.left)
HasHeard acting served now before (Over Failed) then after = IsAtEnd now before then after (after.told.unread ≡ true)
HasHeard acting served now before (Over GivenUp) then after = IsForgotten acting served now before then after
HasHeard acting served now before (Over (Late limit)) then after = ⊥

-- what holds of one when the time is told, which went so in its turn
pub record HasStood (there : List (ℕ × Stream)) (one : Slotted) (course : Course) (standing : Standing) : Type 0 where
  pub begun : standing.begun ≡ is_begun (at one.number there)
  pub taken : standing.untaken ≡ false → one.waiting ≡ []
  pub untaken : one.waiting ≡ [] → standing.untaken ≡ false
  pub silent : standing.silent ≡ true
      → (stays course ≡ true) × (standing.begun ≡ false) × (standing.untaken ≡ false)
  pub loud : stays course ≡ true → standing.begun ≡ false → standing.untaken ≡ false → standing.silent ≡ true

-- a limit that was passed when the time was told, if one was
abbrev pub IsLimit : ℕ → ℕ → Slotted → Option Limit → Type 0
IsLimit idle now one (Some limit) = IsPassed idle now one.waits limit
IsLimit idle now one None = (limit : Limit) → IsPassed idle now one.waits limit → ⊥

-- it was told the time
pub record HasAsked (idle looks : ℕ) (before : Slotted) (standing : Standing) (after : Slotted) (limit : Option Limit)
    : Type 0 where
  pub time : ℕ
  pub number : after.number ≡ before.number
  pub told : after.told ≡ before.told
  pub waiting : after.waiting ≡ before.waiting
  pub trace : after.trace ≡ noted (Told looks time) before.trace
  pub waits : after.waits ≡ later before.waits standing time
  pub is : IsLimit idle time after limit

-- all is sent to one that is closed
pub record IsDone (there : List (ℕ × Stream)) (before after : Slotted) : Type 0 where
  pub same : after ≡ before
  pub sent : before.waiting ≡ []
  pub closed : at before.number there ≡ Some Closed

-- it was told the time, and isn't done
pub record IsStanding (idle looks : ℕ) (there : List (ℕ × Stream)) (before : Slotted) (course : Course)
    (after : Slotted) (limit : Option Limit) : Type 0 where
  pub standing : Standing
  pub unclosed : before.waiting ≡ [] → at before.number there ≡ Some Closed → ⊥
  pub stood : HasStood there before course standing
  pub asked : HasAsked idle looks before standing after limit

-- what becomes of one that isn't over and went so in its turn
abbrev pub IsJudged : ℕ → ℕ → List (ℕ × Stream) → Slotted → Course → Slotted → Course → Type 0
IsJudged idle looks there before course after (Over Finished) = IsDone there before after
IsJudged idle looks there before course after (Over (Late limit)) =
    IsStanding idle looks there before course after (Some limit)
IsJudged idle looks there before course after (Over end) = ⊥
IsJudged idle looks there before course after judged =
    (judged ≡ course) × IsStanding idle looks there before course after None

-- a front of the message that no more is heard was written
pub record HasClosed (before : Ends) (trace : Option Trace) (after : Ends) (trace' : Option Trace) : Type 0 where
  pub last : List ℕ
  pub is : IsFarewell last
  pub left : after.left ≡ before.left
  pub written : Adds before.written last after.written
  pub noted : (trace' ≡ trace) ⊎ (trace' ≡ noted (Took last) trace)

-- one that passed a limit was let go of
pub record HasParted (before : Slotted) (told : Ends) (trace : Option Trace) : Type 0 where
  pub last : List ℕ
  pub last_is : (last ≡ []) ⊎ ((before.waiting ≡ []) × IsFarewell last)
  pub left : told.left ≡ before.told.left
  pub written : Adds before.told.written last told.written
  pub noted : (trace ≡ before.trace) ⊎ (trace ≡ noted (Took last) before.trace)

-- what one tells that was let go of
abbrev pub IsLetGo : Slotted → End → Ends → Option Trace → Type 0
IsLetGo before (Late limit) told trace = HasParted before told trace
IsLetGo before end told trace = (told ≡ before.told) × (trace ≡ before.trace)

-- so it was handed back, when the listener had looked so often
pub record IsHandedBack (before : Slotted) (end : End) (looks : ℕ) (to : Gone) : Type 0 where
  pub let_go : IsLetGo before end to.told to.trace
  pub looks_are : to.looks ≡ looks
  pub end_is : to.end ≡ end
