-- How a stream ends.
use Rattle.std.specs.Prelude.{◌≡◌, ◌⊎◌, ◌≤◌, ℕ, Bool, true, false, List, ◌++◌, length, take, Option, None, Result, Ok, Err}
use Rattle.broker_answers.specs.Streams.{Closed, cut}
use Rattle.broker_answers.specs.Talk.{rests, kept_or_shut}
use Rattle.iiop_broker.specs.declared.stream_fault.StreamFault.{StreamFault}
use Rattle.iiop_broker.specs.declared.stream_fault.StreamFault.TheVariants as faults
use Rattle.iiop_broker.specs.Ends.{Adds, Gives, IsEmpty}

-- what a reader and a writer tell: the octets left, the octets written, whether a call has failed
pub record Ends : Type 0 where
  pub left : Option (List ℕ)
  pub written : Option (List ℕ)
  pub unread : Bool
  pub unwritten : Bool

abbrev pub ends : Option (List ℕ) → Option (List ℕ) → Bool → Bool → Ends
ends left written unread unwritten = record { left = left; written = written; unread = unread; unwritten = unwritten }

-- what these octets are answered, and whether that closes the connection
abbrev pub Telling : Type 1
Telling = List ℕ → List ℕ → Bool → Type 0

-- what these octets are answered, behind which more were given up
abbrev pub TellingInPart : Type 1
TellingInPart = List ℕ → List ℕ → List ℕ → Type 0

-- no more is heard on the connection
abbrev pub IsShut : List ℕ → Bool → Type 0
IsShut octets closes = kept_or_shut rests closes (cut None octets).left ≡ Closed

-- all was read, or the broker closed the connection, and the whole answer is written
pub record Finished (Told : Telling) (before after : Ends) : Type 0 where
  pub octets : List ℕ
  pub answer : List ℕ
  pub closes : Bool
  pub told : Told octets answer closes
  pub read : Gives before.left octets after.left
  pub wrote : Adds before.written answer after.written
  pub finished : IsShut octets closes ⊎ IsEmpty after.left

-- a read failed; the whole answer to what was read is written
pub record Unread (Told : Telling) (before after : Ends) : Type 0 where
  pub octets : List ℕ
  pub answer : List ℕ
  pub told : Told octets answer false
  pub read : Gives before.left octets after.left
  pub wrote : Adds before.written answer after.written
  pub failed : after.unread ≡ true

-- so many reads gave octets; the whole answer is written
pub record Unended (Told : Telling) (reads : ℕ) (before after : Ends) : Type 0 where
  pub octets : List ℕ
  pub answer : List ℕ
  pub told : Told octets answer false
  pub read : Gives before.left octets after.left
  pub wrote : Adds before.written answer after.written
  pub many : reads ≤ length octets

-- a write failed; just so many octets of the answer are written
pub record Unwritten (Told : Telling) (sent : ℕ) (before after : Ends) : Type 0 where
  pub octets : List ℕ
  pub answer : List ℕ
  pub closes : Bool
  pub told : Told octets answer closes
  pub read : Gives before.left octets after.left
  pub within : sent ≤ length answer
  pub wrote : Adds before.written (take sent answer) after.written
  pub failed : after.unwritten ≡ true

-- octets were given up for want of memory; the whole answer to those before is written
pub record Unserved (ToldInPart : TellingInPart) (before after : Ends) : Type 0 where
  pub octets : List ℕ
  pub answer : List ℕ
  pub more : List ℕ
  pub told : ToldInPart octets answer more
  pub read : Gives before.left (octets ++ more) after.left
  pub wrote : Adds before.written answer after.written

-- how a stream ends that was begun
abbrev pub IsOutcome : Telling → TellingInPart → ℕ → Ends → Result (Unit {0}) StreamFault → Ends → Type 0
IsOutcome Told ToldInPart reads before (Ok done) after = Finished Told before after
IsOutcome Told ToldInPart reads before (Err faults.AlreadyThere) after = ⊥
IsOutcome Told ToldInPart reads before (Err faults.ReadFailed) after = Unread Told before after
IsOutcome Told ToldInPart reads before (Err (faults.WriteFailed sent)) after = Unwritten Told sent before after
IsOutcome Told ToldInPart reads before (Err faults.NoMemory) after = Unserved ToldInPart before after
IsOutcome Told ToldInPart reads before (Err faults.ReadLimit) after = Unended Told reads before after
IsOutcome Told ToldInPart reads before (Err faults.TooMany) after = ⊥
