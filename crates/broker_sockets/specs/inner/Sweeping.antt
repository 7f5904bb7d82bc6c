-- How far a sweep is.
use Rattle.std.specs.Prelude.{◌≡◌, ◌⊎◌, ℕ, true, List, [], ◌∷◌, ◌++◌, length, map}
use Rattle.std.specs.List.{All}
use Rattle.broker_sockets.specs.declared.partings.parting.Limits.{Limits}
use Rattle.broker_sockets.specs.declared.partings.parting.Turn.{Turn}
use Rattle.broker_sockets.specs.declared.partings.parting.Turn.TheVariants.{Moved, Still, Over}
use Rattle.broker_sockets.specs.Parted.{Parted, HaveGone, IsOver, IsRead, with_room}

-- those before the place were seen to, and those from there on are as they were
pub record IsFar {P : Type 0} (parted : P → Parted) (limits : Limits) (before : List Parted) (now : List P) (at : ℕ)
    : Type 0 where
  pub front : List Parted
  pub done : List P
  pub back : List P
  pub before_is : before ≡ front ++ map parted back
  pub now_is : now ≡ done ++ back
  pub at_is : at ≡ length done
  pub gone : HaveGone limits front (map parted done)
  pub all : All (λ one. (parted one).shut ≡ true) now

-- where one stands, and what it was and is
pub record IsTurnedAt {P : Type 0} (parted : P → Parted) (before : List P) (at : ℕ) : Type 0 where
  pub front : List P
  pub one : P
  pub back : List P
  pub before_is : before ≡ front ++ one ∷ back
  pub at_is : at ≡ length front
  pub after : P
  pub read : IsRead (parted one) (parted after)
  pub all : All (λ one. (parted one).shut ≡ true) (front ++ after ∷ back)

pub record HasStayed {P : Type 0} (parted : P → Parted) (before : List P) (at : ℕ) (now : List P) : Type 0 where
  pub turned : IsTurnedAt parted before at
  pub now_is : now ≡ turned.front ++ turned.after ∷ turned.back

pub record HasLeft {P : Type 0} (parted : P → Parted) (limits : Limits) (before : List P) (at : ℕ) (now : List P)
    : Type 0 where
  pub turned : IsTurnedAt parted before at
  pub over : IsOver limits (parted turned.after)
  pub now_is : now ≡ turned.front ++ turned.back

-- the one at the place was read of: it stays, or it is over and isn't there any more
abbrev pub HasTurned : {P : Type 0} → (P → Parted) → Limits → List P → ℕ → Turn → List P → Type 0
HasTurned parted limits before at Moved now = HasStayed parted before at now
HasTurned parted limits before at Still now = HasStayed parted before at now
HasTurned parted limits before at Over now = HasLeft parted limits before at now

-- one is there behind the others, if there was memory
abbrev pub IsAdded : {P : Type 0} → List P → P → List P → Type 0
IsAdded before one after = (after ≡ with_room before ++ one ∷ []) ⊎ (after ≡ with_room before)
