-- What is told at the front of the octets of a direction.
use Rattle.std.specs.Prelude.{◌≡◌, ℕ, ◌-◌, ◌<◌, ◌≤◌, List, ◌++◌, length, take, min, nat_lt, if◌then◌else◌, Option, Some, None}
use Rattle.std.specs.String.{string_bytes}
use Rattle.giop_dumps.specs.declared.captures.follow.Side.{Side}
use Rattle.giop_dumps.specs.declared.direction.Raw.{Raw}
use Rattle.giop_dumps.specs.declared.direction.Raw.TheVariants.{No, Next, All}
use Rattle.giop_dumps.specs.declared.front.Front.{Front}
use Rattle.giop_dumps.specs.declared.front.Front.TheVariants.{More, Message, Older, Long, Lost}
use Rattle.giop_dumps.specs.declared.told.Told.{Told}
use Rattle.giop_dumps.specs.Fronts.{front_of}
use Rattle.giop_dumps.specs.OpenRuns.{Runs, IsBehind, whole_at}

-- at most so many octets that are none of a message that is read stand in a line (own)
abbrev pub some_of : List ℕ → ℕ
some_of octets = min (length octets) 4096

-- how many octets are told of what stands where a message is to stand; none where more have to come
abbrev pub front_count : List ℕ → Front → ℕ
front_count octets More = 0
front_count octets (Message count) = count
front_count octets (Older count) = count
front_count octets (Long count) = some_of octets
front_count octets (Lost fault) = some_of octets

-- how many octets are told
abbrev pub count_at : Raw → List ℕ → ℕ
count_at No octets = front_count octets (front_of octets)
count_at (Next left) octets = min left (some_of octets)
count_at All octets = some_of octets

-- what is left of so many octets that are none of a message that is read, some of which are told
abbrev pub left_behind : ℕ → ℕ → Raw
left_behind left count = if nat_lt count left then Next (left - count) else No

abbrev pub front_raw : List ℕ → Front → Raw
front_raw octets (Long count) = left_behind count (some_of octets)
front_raw octets (Lost fault) = All
front_raw octets front = No

-- how many octets behind those are none of a message that is read
abbrev pub raw_behind : Raw → List ℕ → Raw
raw_behind No octets = front_raw octets (front_of octets)
raw_behind (Next left) octets = left_behind left (min left (some_of octets))
raw_behind All octets = All

abbrev pub message_in : List ℕ → Front → Option (List ℕ)
message_in octets (Message count) = Some (take count octets)
message_in octets front = None

-- the message of GIOP 1.2 that stands at the front, a piece of one included
abbrev pub message_at : Raw → List ℕ → Option (List ℕ)
message_at No octets = message_in octets (front_of octets)
message_at raw octets = None

-- what it makes of the runs that are open
abbrev pub RunsBehind : ℕ → Option (List ℕ) → Runs → Runs → Type 0
RunsBehind place None runs after = after ≡ runs
RunsBehind place (Some message) runs after = IsBehind place message runs after

-- the whole message that is told with it
abbrev pub whole_told : Option (List ℕ) → Runs → Option (List ℕ)
whole_told None runs = None
whole_told (Some message) runs = whole_at message runs

-- how words of a whole message are told: the state before, the direction, the message, its lines, the state after
abbrev pub Saying : Type 0 → Type 1
Saying W = W → Side → List ℕ → List ℕ → W → Type 0

abbrev pub EndsWith : List ℕ → List ℕ → Type 0
EndsWith lines words = (front : List ℕ) × (words ≡ front ++ lines)

-- the lines of the whole message end these words; without one the words of no message are asked for
abbrev pub AreWords : {W : Type 0} → Saying W → Side → Option (List ℕ) → W → List ℕ → W → Type 0
AreWords says side None before words after = after ≡ before
AreWords says side (Some whole) before words after =
    (lines : List ℕ) × EndsWith lines words × says before side whole lines after

-- so many octets are told of those that are there, one at least, and so many behind them are none of a message that is
-- read
pub record IsTelling (raw : Raw) (octets : List ℕ) (told : Told) : Type 0 where
  pub count_is : told.count ≡ count_at raw octets
  pub raw_is : told.raw ≡ raw_behind raw octets
  pub some : 0 < told.count
  pub within : told.count ≤ length octets

-- what is told at a place, while runs are open, by words that were in a state before and are in another after
pub record IsHeard {W : Type 0} (says : Saying W) (side : Side) (place : ℕ) (raw : Raw) (octets : List ℕ)
    (old new : Runs) (before after : W) (told : Told) : Type 0 where
  pub telling : IsTelling raw octets told
  pub runs_are : RunsBehind place (message_at raw octets) old new
  pub words_are : AreWords says side (whole_told (message_at raw octets) old) before (string_bytes told.words) after

-- so, or nothing, and then nothing has changed
abbrev pub IsFront : {W : Type 0} → Saying W → Side → ℕ → Raw → List ℕ → Runs → Runs → W → W → Option Told → Type 0
IsFront says side place raw octets old new before after (Some told) =
    IsHeard says side place raw octets old new before after told
IsFront says side place raw octets old new before after None =
    (count_at raw octets ≡ 0) × (new ≡ old) × (after ≡ before)

-- all that is left
pub record IsEnd (octets : List ℕ) (told : Told) : Type 0 where
  pub some : 0 < told.count
  pub all : told.count ≡ length octets
