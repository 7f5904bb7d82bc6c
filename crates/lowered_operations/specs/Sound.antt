-- What the types, operations and interfaces of a file keep of the rules of graphs and models, under its own names.
use Rattle.std.specs.Prelude.{◌≡◌, ◌⊎◌, ℕ, ◌+◌, ◌<◌, ◌≤◌, length, All, Option, Some, IfSome}
use Rattle.lowered_types.specs.declared.place.Place.{Place}
use Rattle.lowered_types.specs.declared.place.Place.TheVariants.{Raised, Called, Got, GotAndSet}
use Rattle.lowered_types.specs.Sound.{AreSoundTypes, IsFrameAt, IsIdFrame, IsPlaceAmong}
use Rattle.lowered_types.specs.Lowered.{Lowered, place_of}
use Rattle.lowered_operations.specs.declared.signature.Offered.{Offered}
use Rattle.lowered_operations.specs.declared.signature.Role.{Role}
use Rattle.lowered_operations.specs.declared.signature.Role.TheVariants.{Operation, Getting, Setting}
use Rattle.lowered_operations.specs.declared.signature.Signature.{Signature}
use Rattle.lowered_operations.specs.Operations.{Defined}

-- the place has the frames of a call in the role, from that of the request on
abbrev pub HasFrames : Role → ℕ → Option Place → Type 0
HasFrames Operation request p = p ≡ Some (Called request)
HasFrames Getting request p = (p ≡ Some (Got request)) ⊎ (p ≡ Some (GotAndSet request))
HasFrames Setting request p = (got : ℕ) × (p ≡ Some (GotAndSet got)) × (request ≡ got + 2)

-- its entry is among so many and has its frames, and what it raises are exceptions that are lowered
pub record IsSoundSignature (entries : ℕ) (w : Lowered) (s : Signature) : Type 0 where
  pub entry : s.entry < entries
  pub request : IsFrameAt w.nodes s.request
  pub reply : IsFrameAt w.nodes (s.request + 1)
  pub raises : All (λ place. place < length w.exceptions) s.raises
  pub named : HasFrames s.role s.request (place_of w s.entry)

-- its operations and bases are among so many
pub record IsSoundOffer (entries operations : ℕ) (o : Offered) : Type 0 where
  pub operations_there : All (λ place. place < operations) o.operations
  pub bases : All (λ base. base < entries) o.bases

-- an entry of so many has the exception, whose frame begins with a repository id
pub record IsSoundException (entries : ℕ) (w : Lowered) (x : ℕ × ℕ) : Type 0 where
  pub entry : x.0 < entries
  pub frame : IsIdFrame w.nodes x.1
  pub named : (place : ℕ) × (place_of w x.0 ≡ Some (Raised x.1 place))

-- What is lowered where there are so many entries. Each exception and each operation has a frame of its own, so there
-- are no more than nodes.
pub record IsSoundFile (entries : ℕ) (d : Defined) : Type 0 where
  pub types_sound : AreSoundTypes d.types
  pub places_long : length d.types.places ≡ entries
  pub places : All (λ p. IfSome p (IsPlaceAmong d.types.nodes (length d.types.exceptions))) d.types.places
  pub exceptions_few : length d.types.exceptions ≤ length d.types.nodes
  pub exceptions : All (IsSoundException entries d.types) d.types.exceptions
  pub operations_few : length d.operations ≤ length d.types.nodes
  pub signatures : All (IsSoundSignature entries d.types) d.operations
  pub interfaces_long : length d.interfaces ≡ entries
  pub offers : All (λ offered. IfSome offered (IsSoundOffer entries (length d.operations))) d.interfaces
