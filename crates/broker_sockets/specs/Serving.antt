-- How serving an object ends.
use Rattle.std.specs.Prelude.{◌≡◌, ◌⊎◌, ◌*◌, ⊤, ℕ, zero, suc, List, [], ◌∷◌, replicate, Option, Some, None}
use Rattle.std.specs.Io.KnownBytes.{Appends, Keeps}
use Rattle.type_model.specs.ModelRules.{Parts}
use Rattle.broker_answers.specs.Objects.{served}
use Rattle.broker_answers.specs.Servants.{acts}
use Rattle.iiop_broker.specs.Outcomes.{Ends}
use Rattle.broker_answers.specs.Keeping.{Keeping, first_keeping, says, after}
use Rattle.broker_sockets.specs.declared.fault.ServeFault.{ServeFault}
use Rattle.broker_sockets.specs.declared.fault.ServeFault.TheVariants.{BadObject, NoInterface, Socket, Unwritten, NoMemory}
use Rattle.broker_sockets.specs.Lines.{serving}
use Rattle.broker_sockets.specs.Objects.{IsObjectFault, IsObjectOf}
use Rattle.broker_loop.specs.Visits.{AreServedBy, Gone}
use Rattle.broker_sockets.specs.Visits.{AreServed, Went, untold}

-- Just so many connections came, and the object that the word names was served to each of them, by a keeper that had
-- its attributes as they are at first, and kept them from one to the next; of those that went some list may be told.
pub record IsDone (Told : List Went → Type 0) (model : Parts) (word : List ℕ) (count : ℕ) (came came' : List Ends)
    : Type 0 where
  pub object : List ℕ × ℕ
  pub is : IsObjectOf model word object
  pub last : Keeping
  pub served_all : AreServed Told (acts says after) (served model (object ∷ [])) count came
      (first_keeping model (object ∷ [])) came' last

-- The object that the word names was served to connections that came, at the same time, by such a keeper; of those that
-- went some list may be told.
pub record IsDoneTogether (Told : List (ℕ × Gone) → Type 0) (model : Parts) (word : List ℕ) (idle : ℕ)
    (came : List Ends) : Type 0 where
  pub object : List ℕ × ℕ
  pub is : IsObjectOf model word object
  pub last : Keeping
  pub served_all : AreServedBy Told (acts says after) (served model (object ∷ [])) idle
      (first_keeping model (object ∷ [])) came last

-- how many are served at the same time at most, or that it is one after the other, with calls that wait
abbrev pub places_of : Option ℕ → ℕ → Option ℕ
places_of (Some at_once) idle = Some at_once
places_of None zero = None
places_of None (suc idle) = Some 1

-- Just so many connections came that tell nothing, and were served one after the other or at the same time; those that
-- were idle for so many seconds ended, unless these are none.
abbrev pub IsServed : Parts → List ℕ → Option ℕ → ℕ → ℕ → Type 0
IsServed model word None idle count = IsDone (λ gone. ⊤) model word count [] (replicate count untold)
IsServed model word (Some places) idle count =
    IsDoneTogether (λ ended. ⊤) model word (idle * 1000) (replicate count untold)

-- the word names an object of an interface that is there
pub record HasObject (model : Parts) (word : List ℕ) : Type 0 where
  pub object : List ℕ × ℕ
  pub is : IsObjectOf model word object

-- the cause of a fault; that of the object comes before the others
abbrev pub IsFaultOf : Parts → List ℕ → ServeFault → Type 0
IsFaultOf model word BadObject = IsObjectFault model word BadObject
IsFaultOf model word (NoInterface name) = IsObjectFault model word (NoInterface name)
IsFaultOf model word Socket = HasObject model word
IsFaultOf model word Unwritten = HasObject model word
IsFaultOf model word NoMemory = Unit {0}

-- it is one of the object
abbrev pub IsOfObject : ServeFault → Type 0
IsOfObject BadObject = Unit {0}
IsOfObject (NoInterface name) = Unit {0}
IsOfObject fault = ⊥

-- what a printer held before and holds after: the line or nothing was printed, but where that failed
abbrev pub IsLineOrNothing : ℕ → Option (List ℕ) → Option (List ℕ) → ServeFault → Type 0
IsLineOrNothing port old new Unwritten = Unit {0}
IsLineOrNothing port old new fault = Appends old new (serving port) ⊎ Keeps old new

-- the same, and where the line or a part of it was printed the port is listened on
abbrev pub IsHeardOrNothing : ℕ → Option ℕ → Option (List ℕ) → Option (List ℕ) → ServeFault → Type 0
IsHeardOrNothing port listened old new Unwritten = listened ≡ Some port
IsHeardOrNothing port listened old new fault =
    (Appends old new (serving port) × (listened ≡ Some port)) ⊎ Keeps old new

-- The line isn't printed: the port isn't listened on, or memory is wanted for it; or printing failed.
abbrev pub IsUnprinted : ℕ → Option ℕ → Option (List ℕ) → Option (List ℕ) → ServeFault → Type 0
IsUnprinted port listened old new Unwritten = listened ≡ Some port
IsUnprinted port listened old new Socket = Keeps old new
IsUnprinted port listened old new NoMemory = Keeps old new
IsUnprinted port listened old new fault = ⊥
