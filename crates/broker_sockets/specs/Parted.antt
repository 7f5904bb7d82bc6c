-- Connections that are let go of.
use Rattle.std.specs.Prelude.{◌≡◌, ◌⊎◌, ◌+◌, ◌≤◌, ℕ, Bool, true, List, [], ◌∷◌, ◌++◌, length, drop, if◌then◌else◌, nat_lt, Option, None, Some}
use Rattle.std.specs.Io.KnownBytes.{Consumes, IsAtEnd, Keeps}
use Rattle.broker_sockets.specs.declared.partings.parting.Limits.{Limits}
use Rattle.broker_sockets.specs.declared.partings.parting.Skip.{Skip}
use Rattle.broker_sockets.specs.declared.partings.parting.Skip.TheVariants.{Octets, NotNow, End, Failed}
use Rattle.broker_sockets.specs.declared.partings.parting.Turn.{Turn}
use Rattle.broker_sockets.specs.declared.partings.parting.Turn.TheVariants.{Moved, Still, Over}

-- What a connection tells: whether the side that is written to is shut, the octets that are left, what the last read
-- gave since, how many reads have given octets since, and how many milliseconds had passed when that was asked last.
pub record Parted : Type 0 where
  pub shut : Bool
  pub left : Option (List ℕ)
  pub last : Option Skip
  pub skips : ℕ
  pub late : ℕ

abbrev pub just_shut : Option (List ℕ) → Parted
just_shut left = record { shut = true; left = left; last = None; skips = 0; late = 0 }

-- it was asked how late it is, and nothing else changed
pub record IsAsked (before after : Parted) : Type 0 where
  pub shut : after.shut ≡ before.shut
  pub left : after.left ≡ before.left
  pub last : after.last ≡ before.last
  pub skips : after.skips ≡ before.skips

-- how many reads gave octets behind one that gave this
abbrev pub counted : Skip → ℕ → ℕ
counted Octets n = n + 1
counted NotNow n = n
counted End n = n
counted Failed n = n

-- a read gave octets, or none, and at the end nothing is left
abbrev pub Gave : Skip → Option (List ℕ) → Option (List ℕ) → Type 0
Gave Octets before after = (octets : List ℕ) × Consumes before after octets
Gave NotNow before after = Keeps before after
Gave End before after = Keeps before after × IsAtEnd after
Gave Failed before after = Keeps before after

pub record HasSkipped (before : Parted) (skip : Skip) (after : Parted) : Type 0 where
  pub shut : after.shut ≡ before.shut
  pub gave : Gave skip before.left after.left
  pub last : after.last ≡ Some skip
  pub skips : after.skips ≡ counted skip before.skips

-- the end came, a read failed, or it was read for long enough
abbrev pub IsOver : Limits → Parted → Type 0
IsOver limits told =
    (told.last ≡ Some End) ⊎ (told.last ≡ Some Failed) ⊎ (limits.millis ≤ told.late) ⊎ (limits.reads ≤ told.skips)

-- no more than what came next was read, if anything
pub record IsRead (before after : Parted) : Type 0 where
  pub octets : List ℕ
  pub shut : after.shut ≡ before.shut
  pub read : Consumes before.left after.left octets

-- one was read of once at most
abbrev pub HasStepped : Limits → Parted → Turn → Parted → Type 0
HasStepped limits before Moved after = IsRead before after × (after.skips ≡ before.skips + 1)
HasStepped limits before Still after = IsRead before after × (after.last ≡ Some NotNow)
HasStepped limits before Over after = IsRead before after × IsOver limits after

-- It was shut, and then read until it is over or a read found nothing.
pub record HasParted (limits : Limits) (before after : Parted) : Type 0 where
  pub octets : List ℕ
  pub shut : after.shut ≡ true
  pub read : Consumes before.left after.left octets
  pub over : IsOver limits after ⊎ (after.last ≡ Some NotNow)

-- room for one more where 64 may be there
abbrev pub with_room : {A : Type 0} → List A → List A
with_room told = (if nat_lt (length told) 64 then told else drop 1 told)

-- one was shut, and is there if there was memory
abbrev pub IsTaken : List Parted → Parted → List Parted → Type 0
IsTaken before one after = (after ≡ with_room before ++ just_shut one.left ∷ []) ⊎ (after ≡ with_room before)

-- Each was read of once at most, and just those that are over aren't there any more.
abbrev pub HaveGone : Limits → List Parted → List Parted → Type 0
HaveGone limits [] now = now ≡ []
HaveGone limits (one ∷ more) now =
    (after : Parted) × IsRead one after
    × ((IsOver limits after × HaveGone limits more now)
    ⊎ ((later : List Parted) × (now ≡ after ∷ later) × HaveGone limits more later))

-- what one tells
abbrev pub parted : Bool → Option (List ℕ) → Option Skip → ℕ → ℕ → Parted
parted shut left last skips late = record { shut = shut; left = left; last = last; skips = skips; late = late }
