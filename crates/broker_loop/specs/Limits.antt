-- How long a connection may wait, by the times that its listener told.
use Rattle.std.specs.Prelude.{◌≡◌, ◌⊎◌, ℕ, ◌+◌, ◌<◌, ◌≤◌, Bool, true, false, List, [], ◌∷◌, ◌++◌, length, map, Option, Some, None}
use Rattle.broker_answers.specs.Streams.{cut}
use Rattle.iiop_broker.specs.Room.{is_begun}
use Rattle.broker_loop.specs.declared.listener.End.{End}
use Rattle.broker_loop.specs.declared.listener.End.TheVariants.{Late}
use Rattle.broker_loop.specs.declared.listener.Limit.{Limit}
use Rattle.broker_loop.specs.declared.listener.Limit.TheVariants.{Silence, Message, Answer}
use Rattle.broker_loop.specs.Carried.{Log, hearings}
use Rattle.broker_loop.specs.Telling.{AreNoted, Got, Mark, Told, Took, Trace}

-- what was done on a connection: octets were heard and answered so, octets were sent, in some round the time was asked
-- and told
pub data Deed : Type 0 where
  Hears : List ℕ → List ℕ → Deed
  Sends : List ℕ → Deed
  Asks : ℕ → ℕ → Deed

-- what the connection notes of it
abbrev pub mark_of : Deed → Mark
mark_of (Hears octets answer) = Got octets
mark_of (Sends octets) = Took octets
mark_of (Asks round time) = Told round time

-- Of deeds the last stands first. What was heard, piece by piece in order, each with its answer:
abbrev pub pieces : List Deed → List (List ℕ × List ℕ)
pieces [] = []
pieces (Hears octets answer ∷ past) = pieces past ++ (octets, answer) ∷ []
pieces (Sends octets ∷ past) = pieces past
pieces (Asks round time ∷ past) = pieces past

-- the octets that were heard
abbrev pub heard : List Deed → List ℕ
heard [] = []
heard (Hears octets answer ∷ past) = heard past ++ octets
heard (Sends octets ∷ past) = heard past
heard (Asks round time ∷ past) = heard past

-- what they were answered
abbrev pub answers : List Deed → List ℕ
answers [] = []
answers (Hears octets answer ∷ past) = answers past ++ answer
answers (Sends octets ∷ past) = answers past
answers (Asks round time ∷ past) = answers past

-- what of that was sent
abbrev pub sent : List Deed → List ℕ
sent [] = []
sent (Hears octets answer ∷ past) = sent past
sent (Sends octets ∷ past) = sent past ++ octets
sent (Asks round time ∷ past) = sent past

-- nothing has moved since the time was told
abbrev pub is_still : List Deed → Bool
is_still [] = true
is_still (Hears octets answer ∷ past) = false
is_still (Sends octets ∷ past) = false
is_still (Asks round time ∷ past) = true

-- a message is begun and isn't whole (GIOP: a request in fragments is one message)
abbrev pub IsBegun : List Deed → Type 0
IsBegun past = is_begun (Some (cut None (heard past)).left) ≡ true

-- an answer isn't taken whole
abbrev pub IsUntaken : List Deed → Type 0
IsUntaken past = length (sent past) < length (answers past)

-- nothing moves between messages
pub record IsSilent (past : List Deed) : Type 0 where
  pub still : is_still past ≡ true
  pub unbegun : IsBegun past → ⊥
  pub taken : IsUntaken past → ⊥

-- what a limit allows for so long
abbrev pub Lasts : Limit → List Deed → Type 0
Lasts Silence past = IsSilent past
Lasts Message past = IsBegun past
Lasts Answer past = IsUntaken past

-- It holds, and has held whenever the time was told since this one.
abbrev pub IsSince : (List Deed → Type 0) → ℕ → List Deed → Type 0
IsSince Holds time [] = ⊥
IsSince Holds time (Hears octets answer ∷ past) = IsSince Holds time past
IsSince Holds time (Sends octets ∷ past) = IsSince Holds time past
IsSince Holds time (Asks round now ∷ past) =
    Holds past × (IsSince Holds time past ⊎ (((other : ℕ) → IsSince Holds other past → ⊥) × (time ≡ now)))

-- while an answer waits its limit counts, and not that of the message
abbrev pub IsDue : Limit → List Deed → Type 0
IsDue Silence past = Unit {0}
IsDue Message past = IsUntaken past → ⊥
IsDue Answer past = Unit {0}

-- a limit of so many milliseconds is passed when this time is told
pub record HasPassed (idle : ℕ) (limit : Limit) (round now : ℕ) (past : List Deed) : Type 0 where
  pub time : ℕ
  pub since : IsSince (Lasts limit) time (Asks round now ∷ past)
  pub long : time + idle ≤ now
  pub due : IsDue limit past

-- whenever the time was told, no limit was passed
abbrev pub IsInTime : ℕ → List Deed → Type 0
IsInTime idle [] = Unit {0}
IsInTime idle (Hears octets answer ∷ past) = IsInTime idle past
IsInTime idle (Sends octets ∷ past) = IsInTime idle past
IsInTime idle (Asks round now ∷ past) =
    ((limit : Limit) → HasPassed idle limit round now past → ⊥) × IsInTime idle past

-- It was let go of as soon as the time was told and it had passed a limit, for this cause only where it had passed it.
abbrev pub IsTimely : ℕ → End → List Deed → Type 0
IsTimely idle (Late limit) (Asks round now ∷ past) = HasPassed idle limit round now past × IsInTime idle past
IsTimely idle (Late limit) past = ⊥
IsTimely idle end past = IsInTime idle past

-- the deeds of a connection that ended so, by the log and by what it noted; behind them octets may have moved that
-- weren't heard, or that were the last
pub record IsTimed (idle : ℕ) (said : Log) (c : ℕ) (trace : Option Trace) (end : End) : Type 0 where
  pub deeds : List Deed
  pub last : List Mark
  pub pieces_are : hearings c said ≡ pieces deeds
  pub noted : AreNoted (last ++ map mark_of deeds) trace
  pub timely : IsTimely idle end deeds
