-- Connections served one after the other.
use Rattle.std.specs.Prelude.{◌≡◌, ℕ, ◌<◌, List, [], ◌∷◌, ◌++◌, length, Result, Ok, Err, None, Bool, true, false}
use Rattle.broker_answers.specs.Talk.{world}
use Rattle.broker_answers.specs.Servants.{Acting}
use Rattle.broker_answers.specs.Objects.{Served}
use Rattle.iiop_broker.specs.Outcomes.{Ends, ends}
use Rattle.iiop_broker.specs.Serving.{IsServed}
use Rattle.iiop_broker.specs.declared.stream_fault.StreamFault.{StreamFault}
use Rattle.iiop_broker.specs.declared.stream_fault.StreamFault.TheVariants.{ReadFailed, WriteFailed}

-- a connection that tells nothing
abbrev pub untold : Ends
untold = ends None None false false

-- it is shut where no call on it failed
abbrev pub IsShutAt : Result (Unit {0}) StreamFault → Bool → Type 0
IsShutAt (Ok done) shut = shut ≡ true
IsShutAt (Err ReadFailed) shut = Unit {0}
IsShutAt (Err (WriteFailed sent)) shut = Unit {0}
IsShutAt (Err fault) shut = shut ≡ true

-- what a connection that was handed back told then, and how its stream ended
pub record Went : Type 0 where
  pub told : Ends
  pub result : Result (Unit {0}) StreamFault

abbrev pub went_as : Ends → Result (Unit {0}) StreamFault → Went
went_as told result = record { told = told; result = result }

-- One that told `from` when it came was served alone, as one stream, with the servant as it was before and is after.
abbrev pub IsSeen : {S : Type 0} → Acting S → Served → Ends → Went → S → S → Type 0
IsSeen acting served from to before after =
    IsServed acting served 1 4294967296 (world before []) from to.result (world after []) to.told

-- each of those that came was, one after the other, and went so
abbrev pub AreSeen : {S : Type 0} → Acting S → Served → List Ends → List Went → S → S → Type 0
AreSeen acting served [] [] before after = after ≡ before
AreSeen acting served [] (to ∷ later) before after = ⊥
AreSeen acting served (from ∷ more) [] before after = ⊥
AreSeen {S} acting served (from ∷ more) (to ∷ later) before after =
    (between : S) × IsSeen acting served from to before between × AreSeen acting served more later between after

-- one more came than had come, was served, and went: of those that go, what may be told
pub record IsOneMore {S : Type 0} (Told Told' : List Went → Type 0) (acting : Acting S) (served : Served)
    (came : List Ends) (before : S) (came' : List Ends) (after : S) : Type 0 where
  pub from : Ends
  pub to : Went
  pub came_is : came' ≡ came ++ from ∷ []
  pub gone : (all : List Went) → Told all → Told' (all ++ to ∷ [])
  pub seen : IsSeen acting served from to before after

-- just so many came, were served, and went
pub record AreServed {S : Type 0} (Told : List Went → Type 0) (acting : Acting S) (served : Served) (count : ℕ)
    (came : List Ends) (before : S) (came' : List Ends) (after : S) : Type 0 where
  pub more : List Ends
  pub gone : List Went
  pub count_is : length more ≡ count
  pub came_is : came' ≡ came ++ more
  pub told : Told gone
  pub seen : AreSeen acting served more gone before after

-- fewer were
pub record AreCut {S : Type 0} (Told : List Went → Type 0) (acting : Acting S) (served : Served) (count : ℕ)
    (came : List Ends) (before : S) (came' : List Ends) (after : S) : Type 0 where
  pub fewer : ℕ
  pub within : fewer < count
  pub all : AreServed Told acting served fewer came before came' after
