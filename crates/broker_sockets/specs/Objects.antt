-- The object that a word names.
use Rattle.std.specs.Prelude.{◌≡◌, ℕ, List, [], ◌∷◌, slice_get, Some, None}
use Rattle.type_model.specs.declared.signatures.Interface.{Interface}
use Rattle.type_model.specs.ModelRules.{Parts}
use Rattle.broker_answers.specs.Talk.{world}
use Rattle.broker_answers.specs.Objects.{Objects, served}
use Rattle.iiop_broker.specs.World.{Broking, broking}
use Rattle.broker_answers.specs.Keeping.{Keeping, first_keeping}
use Rattle.command_tables.specs.References.{IsObject, interface_named}
use Rattle.broker_sockets.specs.declared.fault.ServeFault.{ServeFault}
use Rattle.broker_sockets.specs.declared.fault.ServeFault.TheVariants.{BadObject, NoInterface, Socket, Unwritten, NoMemory}

-- the word names one object: this key, and a place of the first interface of the name
pub record IsObjectOf (model : Parts) (word : List ℕ) (object : List ℕ × ℕ) : Type 0 where
  pub key : List ℕ
  pub name : List ℕ
  pub names : IsObject word key name
  pub key_is : object.0 ≡ key
  pub interface : Interface
  pub named : interface_named name model.interfaces ≡ Some interface
  pub there : slice_get model.interfaces object.1 ≡ Some interface

-- the word names an object, whose interface isn't there
pub record HasNoInterface (model : Parts) (word name : List ℕ) : Type 0 where
  pub key : List ℕ
  pub names : IsObject word key name
  pub missing : interface_named name model.interfaces ≡ None

-- the objects are just the one that the word names, and the keeper has its attributes as they are at first
pub record AreOf (model : Parts) (word : List ℕ) (objects : Objects) (keeper : Keeping) : Type 0 where
  pub object : List ℕ × ℕ
  pub is : IsObjectOf model word object
  pub alone : objects ≡ object ∷ []
  pub first : keeper ≡ first_keeping model (object ∷ [])

-- the broker of the object, with the keeper of its attributes as they are at first
pub record IsBrokerOf (model : Parts) (word : List ℕ) (broker : Broking Keeping) : Type 0 where
  pub object : List ℕ × ℕ
  pub is : IsObjectOf model word object
  pub new : broker ≡ broking (served model (object ∷ [])) (world (first_keeping model (object ∷ [])) [])

-- why there is none
abbrev pub IsObjectFault : Parts → List ℕ → ServeFault → Type 0
IsObjectFault model word BadObject = (key name : List ℕ) → IsObject word key name → ⊥
IsObjectFault model word (NoInterface name) = HasNoInterface model word name.now
IsObjectFault model word Socket = ⊥
IsObjectFault model word Unwritten = ⊥
IsObjectFault model word NoMemory = Unit {0}
