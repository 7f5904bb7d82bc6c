-- What of the octets of a connection waits to be told, and the lines that tell it.
use Rattle.std.specs.Prelude.{◌≡◌, ℕ, ◌<◌, ◌≤◌, List, [], ◌∷◌, ◌++◌, length, drop}
use Rattle.std.specs.Fmt.{decimal}
use Rattle.giop_dumps.specs.declared.captures.follow.Side.{Side}
use Rattle.giop_dumps.specs.declared.captures.follow.Side.TheVariants.{First, Second}
use Rattle.giop_dumps.specs.Backlogs.{behind}
use Rattle.giop_dumps.specs.declared.direction.Direction.{Direction}
use Rattle.giop_dumps.specs.declared.direction.Raw.{Raw}
use Rattle.giop_dumps.specs.declared.direction.Raw.TheVariants.{No}
use Rattle.giop_dumps.specs.OpenRuns.{Runs}
use Rattle.giop_dumps.specs.Tellings.{Saying, AreWords, RunsBehind, count_at, message_at, raw_behind, whole_told}

-- Of a direction: how many octets were told, those that have come and weren't, how many of these are none of a message
-- that is read, and the runs that are open.
pub record Waiting : Type 0 where
  pub place : ℕ
  pub octets : List ℕ
  pub raw : Raw
  pub open_runs : Runs

-- one of which nothing has come
abbrev pub fresh : Waiting
fresh = record { place = 0; octets = []; raw = No; open_runs = [] }

-- those of both directions
pub record Pending : Type 0 where
  pub first : Waiting
  pub second : Waiting

abbrev pub waiting_of : Direction → Waiting
waiting_of direction = record {
  place = direction.backlog.place;
  octets = direction.backlog.octets.items;
  raw = direction.raw;
  open_runs = direction.open_runs;
}

abbrev pub of_side : Side → Pending → Waiting
of_side First pending = pending.first
of_side Second pending = pending.second

abbrev pub of_other : Side → Pending → Waiting
of_other First pending = pending.second
of_other Second pending = pending.first

-- the mark of a direction, `>` or `<`
abbrev pub mark_of : Side → ℕ
mark_of First = 62
mark_of Second = 60

-- what is told of so many octets at a place
abbrev pub line_of : Side → ℕ → ℕ → List ℕ → List ℕ
line_of side place count words =
    mark_of side ∷ 32 ∷ decimal place ++ 32 ∷ decimal count ++ 32 ∷ words

-- so many octets at the front, one at least, wait no more
pub record IsPassed (count : ℕ) (old new : Waiting) : Type 0 where
  pub some : 0 < count
  pub within : count ≤ length old.octets
  pub octets_are : new.octets ≡ drop count old.octets
  pub place_is : new.place ≡ behind old.place count

-- what stands at the front was told in this text, by words that were in a state before and are in another after
pub record IsToldOf {W : Type 0} (says : Saying W) (side : Side) (before : W) (old new : Waiting) (text : List ℕ)
    (after : W) : Type 0 where
  pub passed : IsPassed (count_at old.raw old.octets) old new
  pub raw_is : new.raw ≡ raw_behind old.raw old.octets
  pub runs_are : RunsBehind old.place (message_at old.raw old.octets) old.open_runs new.open_runs
  pub words : List ℕ
  pub words_are : AreWords says side (whole_told (message_at old.raw old.octets) old.open_runs) before words after
  pub text_is : text ≡ line_of side old.place (count_at old.raw old.octets) words

-- nothing is told where more octets have to come, and then nothing has changed
pub record IsWaiting {W : Type 0} (before : W) (old new : Waiting) (after : W) : Type 0 where
  pub none : count_at old.raw old.octets ≡ 0
  pub same : new ≡ old
  pub words_same : after ≡ before

-- so of a direction, and the other is as it was
pub record IsTold {W : Type 0} (says : Saying W) (side : Side) (before : W) (old new : Pending) (text : List ℕ)
    (after : W) : Type 0 where
  pub own : IsToldOf says side before (of_side side old) (of_side side new) text after
  pub other : of_other side new ≡ of_other side old

pub record IsStill {W : Type 0} (side : Side) (before : W) (old new : Pending) (after : W) : Type 0 where
  pub none : count_at (of_side side old).raw (of_side side old).octets ≡ 0
  pub same : new ≡ old
  pub words_same : after ≡ before

-- octets have come behind those of a direction
abbrev pub with_octets : Waiting → List ℕ → Waiting
with_octets waiting more = record waiting { octets = waiting.octets ++ more }

-- all octets that were left of a direction were told in this text
pub record IsEndOf (side : Side) (old new : Waiting) (text : List ℕ) : Type 0 where
  pub passed : IsPassed (length old.octets) old new
  pub runs_are : new.open_runs ≡ old.open_runs
  pub words : List ℕ
  pub text_is : text ≡ line_of side old.place (length old.octets) words

pub record IsToldEnd (side : Side) (old new : Pending) (text : List ℕ) : Type 0 where
  pub own : IsEndOf side (of_side side old) (of_side side new) text
  pub other : of_other side new ≡ of_other side old
