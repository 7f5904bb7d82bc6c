-- What a connection tells on which no call waits.
use Rattle.std.specs.Prelude.{◌≡◌, ◌||◌, ℕ, ◌<◌, ◌≤◌, true, List, [], ◌∷◌, take, Option, Some, None}
use Rattle.std.specs.List.{Contains}
use Rattle.iiop_broker.specs.Ends.{Adds, Gives, is_stuck}
use Rattle.iiop_broker.specs.Outcomes.{Ends}

-- octets were read, and nothing else changed
pub record HasRead (before : Ends) (got : List ℕ) (after : Ends) : Type 0 where
  pub read : Gives before.left got after.left
  pub written : after.written ≡ before.written
  pub unread : after.unread ≡ before.unread
  pub unwritten : after.unwritten ≡ before.unwritten

-- so many of some octets were written, and nothing else changed; it fails too where it takes none of some
pub record HasWritten (before : Ends) (octets : List ℕ) (n : ℕ) (after : Ends) : Type 0 where
  pub left : after.left ≡ before.left
  pub written : Adds before.written (take n octets) after.written
  pub unread : after.unread ≡ before.unread
  pub unwritten : after.unwritten ≡ (before.unwritten || is_stuck octets n)

-- a call failed, and nothing moved
abbrev pub with_failed_read : Ends → Ends
with_failed_read told = record told { unread = true }

abbrev pub with_failed_write : Ends → Ends
with_failed_write told = record told { unwritten = true }

-- what it notes: octets that it gave, octets that it took, how often its listener had looked when that told the time,
-- which follows, in milliseconds
pub data Mark : Type 0 where
  Got : List ℕ → Mark
  Took : List ℕ → Mark
  Told : ℕ → ℕ → Mark

-- how often its listener had looked when it came, and what it noted since, the last first
pub record Trace : Type 0 where
  pub born : ℕ
  pub marks : List Mark

-- one more is noted, where anything is
abbrev pub noted : Mark → Option Trace → Option Trace
noted mark None = None
noted mark (Some trace) = Some record { born = trace.born; marks = mark ∷ trace.marks }

-- just these are noted, where anything is
abbrev pub AreNoted : List Mark → Option Trace → Type 0
AreNoted marks None = Unit {0}
AreNoted marks (Some trace) = trace.marks ≡ marks

-- nothing is noted yet on one that came when its listener had looked so often
abbrev pub IsNew : ℕ → Option Trace → Type 0
IsNew looks None = Unit {0}
IsNew looks (Some trace) = (trace.born ≡ looks) × (trace.marks ≡ [])

-- the rounds in which it was told the time, a round being told by how often its listener has looked before
abbrev pub rounds : List Mark → List ℕ
rounds [] = []
rounds (Got octets ∷ marks) = rounds marks
rounds (Took octets ∷ marks) = rounds marks
rounds (Told round time ∷ marks) = round ∷ rounds marks

-- it was told the time in each round since it came, where its listener has looked so often by now
abbrev pub IsAsked : ℕ → Option Trace → Type 0
IsAsked looks None = Unit {0}
IsAsked looks (Some trace) = (round : ℕ) → trace.born ≤ round → round < looks → Contains (rounds trace.marks) round
