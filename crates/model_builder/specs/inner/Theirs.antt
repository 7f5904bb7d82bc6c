-- What is lowered speaks of no entry that isn't among the names; its frames and its places are numbers of 32 bits.
use Rattle.std.specs.Prelude.{ℕ, ◌+◌, ◌<◌, ◌≤◌, ◌^◌, List, length, All, IfSome}
use Rattle.lowered_types.specs.declared.place.Place.{Place}
use Rattle.lowered_types.specs.declared.place.Place.TheVariants.{Typed, Raised, Called, Got, GotAndSet}
use Rattle.lowered_operations.specs.declared.signature.Offered.{Offered}
use Rattle.lowered_operations.specs.declared.signature.Signature.{Signature}
use Rattle.lowered_operations.specs.Operations.{Defined}

-- the frames of a place
abbrev pub HasFrames : Place → Type 0
HasFrames (Typed number) = Unit {0}
HasFrames (Raised frame place) = Unit {0}
HasFrames (Called request) = request + 1 < 2 ^ 32
HasFrames (Got request) = request + 1 < 2 ^ 32
HasFrames (GotAndSet request) = request + 3 < 2 ^ 32

abbrev pub ArePlaces : List ℕ → Type 0
ArePlaces places = All (λ place. place < 2 ^ 32) places

-- the entry is among so many
pub record IsSignature (entries : ℕ) (s : Signature) : Type 0 where
  pub entry : s.entry < entries
  pub frames : s.request + 1 < 2 ^ 32
  pub raises : ArePlaces s.raises

pub record IsOffered (entries : ℕ) (o : Offered) : Type 0 where
  pub operations : ArePlaces o.operations
  pub bases : All (λ base. base < entries) o.bases

-- what is lowered, where there are so many entries
pub record AreTheirs (entries : ℕ) (d : Defined) : Type 0 where
  pub places : All (λ place. IfSome place HasFrames) d.types.places
  pub exceptions : All (λ exception. exception.0 < entries) d.types.exceptions
  pub operations : All (IsSignature entries) d.operations
  pub interfaces : length d.interfaces ≤ entries
  pub offered : All (λ offered. IfSome offered (IsOffered entries)) d.interfaces
