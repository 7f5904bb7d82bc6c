-- Connections that are served.
use Rattle.std.specs.Prelude.{◌≡◌, ℕ, suc, ◌+◌, ◌<◌, ◌≤◌, ◌⊎◌, ◌≢◌, Bool, true, false, List, [], ◌∷◌, ◌++◌, length, map, Option, Some, None, slice_get}
use Rattle.std.specs.List.{All, Contains}
use Rattle.broker_answers.specs.Streams.{Stream, Closed, cut}
use Rattle.broker_answers.specs.Connections.{at}
use Rattle.broker_answers.specs.Talk.{World, world, rests, Follows}
use Rattle.broker_answers.specs.Servants.{Acting}
use Rattle.broker_answers.specs.Objects.{Served}
use Rattle.broker_answers.specs.Serving.{Moves, Serves}
use Rattle.iiop_broker.specs.Ends.{Adds, Gives}
use Rattle.iiop_broker.specs.Outcomes.{Ends}
use Rattle.broker_loop.specs.declared.listener.End.{End}
use Rattle.broker_loop.specs.declared.slot.Course.{Course}
use Rattle.broker_loop.specs.declared.slot.Course.TheVariants.{Moved, Still, Over}
use Rattle.broker_loop.specs.declared.limits.Waits.{Waits}
use Rattle.broker_loop.specs.declared.listener.Limit.TheVariants.{Silence, Message, Answer}
use Rattle.broker_loop.specs.Carried.{Log, answered, brought, connection_of, hearings}
use Rattle.broker_loop.specs.Limits.{Deed, IsInTime, IsTimed, Lasts, answers, heard, is_still, mark_of, pieces, sent}
use Rattle.broker_loop.specs.Telling.{AreNoted, IsAsked, Trace}
use Rattle.broker_loop.specs.Visits.{Gone, HasEnded, IsCarried}
use Rattle.broker_loop.specs.inner.Waits.{Tells}

-- a connection: its number, what it tells, what it noted, since when it waits, the octets that wait to be sent
pub record Slotted : Type 0 where
  pub number : ℕ
  pub told : Ends
  pub trace : Option Trace
  pub waits : Waits
  pub waiting : List ℕ

abbrev pub slotted : ℕ → Ends → Option Trace → Waits → List ℕ → Slotted
slotted number told trace waits waiting =
    record { number = number; told = told; trace = trace; waits = waits; waiting = waiting }

abbrev pub numbers : List Slotted → List ℕ
numbers = map (λ one. one.number)

abbrev pub keys : {C : Type 0} → List (ℕ × C) → List ℕ
keys = map (λ one. one.0)

-- each is above the one before
abbrev pub IsRising : ℕ → List ℕ → Type 0
IsRising low [] = Unit {0}
IsRising low (n ∷ more) = (low ≤ n) × IsRising (suc n) more

-- one that is served: what was read came in its events, and its answers are written but for those that wait
pub record IsOpen (said : Log) (came : List Ends) (one : Slotted) : Type 0 where
  pub from : Ends
  pub came_is : slice_get came one.number ≡ Some from
  pub sent : List ℕ
  pub answer_is : answered one.number said ≡ sent ++ one.waiting
  pub read : Gives from.left (brought one.number said) one.told.left
  pub wrote : Adds from.written sent one.told.written

-- one that went
pub record IsGone {S : Type 0} (acting : Acting S) (served : Served) (idle : ℕ) (before : S) (said : Log)
    (came : List Ends) (slots : List Slotted) (one : ℕ × Gone) : Type 0 where
  pub from : Ends
  pub came_is : slice_get came one.0 ≡ Some from
  pub carried : IsCarried acting served idle before said one.0 from one.1
  pub apart : All (λ slot. slot.number ≢ one.0) slots

-- So far: the log leads to the broker's world, whose connections are those that are served; each that came is served or
-- went.
pub record IsGoing {S : Type 0} (acting : Acting S) (served : Served) (idle : ℕ) (before : S) (came : List Ends)
    (ended : List (ℕ × Gone)) (now : World S Stream) (slots : List Slotted) : Type 0 where
  pub said : Log
  pub follows : Follows rests (Serves acting served) (Moves acting served) (world before []) said now
  pub there : keys now.there ≡ numbers slots
  pub rising : IsRising 0 (numbers slots)
  pub known : All (λ one. connection_of one.0 < length came) said
  pub opened : All (IsOpen said came) slots
  pub gone : All (IsGone acting served idle before said came slots) ended
  pub all : (c : ℕ) → c < length came → Contains (numbers slots) c ⊎ Contains (keys ended) c

-- what is left of its stream is kept, and since when a message is begun
pub record IsHeard (there : List (ℕ × Stream)) (one : Slotted) (deeds : List Deed) : Type 0 where
  pub kept : at one.number there ≡ Some (cut None (heard deeds)).left
  pub begun : Tells (Lasts Message) deeds one.waits.begun

-- One that is in time: what it did, whether something moved since it was asked the time, since when it waits for what.
pub record IsTimedSo (idle : ℕ) (still : Bool) (said : Log) (there : List (ℕ × Stream)) (one : Slotted) : Type 0 where
  pub deeds : List Deed
  pub pieces_are : hearings one.number said ≡ pieces deeds
  pub noted : AreNoted (map mark_of deeds) one.trace
  pub still_is : is_still deeds ≡ still
  pub waiting_is : answers deeds ≡ sent deeds ++ one.waiting
  pub stream : (at one.number there ≡ Some Closed) ⊎ IsHeard there one deeds
  pub silent : Tells (Lasts Silence) deeds one.waits.silent
  pub untaken : Tells (Lasts Answer) deeds one.waits.untaken
  pub in_time : IsInTime idle deeds

abbrev pub AreInTime : ℕ → Log → List (ℕ × Stream) → List Slotted → Type 0
AreInTime idle said there slots = 0 < idle → All (IsTimedSo idle true said there) slots

-- each was asked the time in each round since it came
abbrev pub WereAsked : ℕ → ℕ → List Slotted → Type 0
WereAsked idle looks slots = 0 < idle → All (λ one. IsAsked looks one.trace) slots

-- the place of the next one behind one that went so in its turn
abbrev pub place_behind : Course → ℕ → ℕ
place_behind Moved place = place + 1
place_behind Still place = place + 1
place_behind (Over end) place = place

-- nothing moved
abbrev pub stays : Course → Bool
stays Moved = false
stays Still = true
stays (Over end) = false

-- what is known of the times of one in its turn
abbrev pub IsTurned : ℕ → Bool → Log → List (ℕ × Stream) → Slotted → Course → Type 0
IsTurned idle still said there slot (Over end) = IsTimed idle said slot.number slot.trace end
IsTurned idle still said there slot course = IsTimedSo idle still said there slot

-- one of them was served on: where it is over, it may be let go of
pub record IsOn {S : Type 0} (acting : Acting S) (served : Served) (idle : ℕ) (before : S) (came : List Ends)
    (ended : List (ℕ × Gone)) (now : World S Stream) (still : Bool) (front : List Slotted) (slot : Slotted)
    (back : List Slotted) (course : Course) : Type 0 where
  pub going : IsGoing acting served idle before came ended now (front ++ slot ∷ back)
  pub over : (end : End) → course ≡ Over end
      → HasEnded acting served idle before going.said slot.number slot.waiting slot.told end
  pub others : AreInTime idle going.said now.there (front ++ back)
  pub own : 0 < idle → IsTurned idle still going.said now.there slot course

-- the same, for some list of those that went that may be told
pub record GoesOn {S : Type 0} (Told : List (ℕ × Gone) → Type 0) (acting : Acting S) (served : Served) (idle : ℕ)
    (before : S) (came : List Ends) (now : World S Stream) (slots : List Slotted) : Type 0 where
  pub ended : List (ℕ × Gone)
  pub told : Told ended
  pub going : IsGoing acting served idle before came ended now slots
  pub in_time : AreInTime idle going.said now.there slots

pub record IsUnderWay {S : Type 0} (Told : List (ℕ × Gone) → Type 0) (acting : Acting S) (served : Served)
    (idle : ℕ) (came : List Ends) (now : World S Stream) (slots : List Slotted) : Type 0 where
  pub before : S
  pub goes : GoesOn Told acting served idle before came now slots
