-- What is told of the front of a stream, while a run may be open.
use Rattle.std.specs.Prelude.{◌≡◌, ◌⊎◌, ℕ, ◌≤◌, Bool, true, false, List, length, take, drop, Option, Some, None, IsSomeAnd}
use Rattle.giop_messages.specs.declared.fault.FramingFault.{FramingFault}
use Rattle.giop_messages.specs.declared.fault.FramingFault.TheVariants.{BadFragment}
use Rattle.giop_messages.specs.Framing.{Front, More, Broken, Piece, Whole, front, begun, added, id_in}
use Rattle.giop_messages.specs.Runs.{IsFirst, IsNext}
use Rattle.giop_messages.specs.declared.fault.GiopFault.{GiopFault}
use Rattle.giop_messages.specs.declared.fault.GiopFault.TheVariants as faults
use Rattle.giop_messages.specs.declared.message.Message.{Message}
use Rattle.giop_messages.specs.Faults.{framing_as}
use Rattle.giop_messages.specs.Messages.{Content, Says, content_of}
use Rattle.giop.specs.declared.front.Front.{Front as Told}
use Rattle.giop.specs.declared.front.Front.TheVariants as told

-- a whole message of so many octets, which says this
pub record IsWhole (run : Option (List ℕ)) (octets : List ℕ) (message : Message) (taken : ℕ) : Type 0 where
  pub within : taken ≤ length octets
  pub says : Says (take taken octets) (content_of message)
  pub run_behind : Option (List ℕ)
  pub front_is : front run octets ≡ Whole (take taken octets) run_behind (drop taken octets)

-- What stands at the front with a piece: a run with the piece, or, with the last one, the message that all are.
abbrev pub with_piece : Bool → Bool → Option (List ℕ) → List ℕ → List ℕ → Front
with_piece true last run piece rest = Piece (begun piece) rest
with_piece false last None piece rest = Broken BadFragment
with_piece false false (Some there) piece rest = Piece (added there piece) rest
with_piece false true (Some there) piece rest = Whole (added there piece) None rest

-- a piece of so many octets, which begins a run or is the next of the open one
pub record IsPart (run : Option (List ℕ)) (octets : List ℕ) (id : ℕ) (first last : Bool) (taken : ℕ) : Type 0 where
  pub within : taken ≤ length octets
  pub id_is : id ≡ id_in (take taken octets)
  pub begins : first ≡ true → IsFirst (take taken octets)
  pub goes_on : first ≡ true → last ≡ false
  pub adds : first ≡ false → IsSomeAnd run (λ there. IsNext there (take taken octets))
  pub front_is : front run octets ≡ with_piece first last run (take taken octets) (drop taken octets)

abbrev pub IsFound : Option (List ℕ) → List ℕ → Told → Type 0
IsFound run octets told.More = front run octets ≡ More
IsFound run octets (told.Whole message taken) = IsWhole run octets message taken
IsFound run octets (told.Part id first last taken) = IsPart run octets id first last taken

-- no message stands at the front, for a rule of framing
pub record IsBroken (run : Option (List ℕ)) (octets : List ℕ) (fault : GiopFault) : Type 0 where
  pub broken : FramingFault
  pub fault_is : fault ≡ framing_as broken
  pub front_is : front run octets ≡ Broken broken

-- A whole message of the stream's own octets stands there that says nothing. One that a last piece completes is none of
-- these: the piece is told.
pub record IsSilent (run : Option (List ℕ)) (octets : List ℕ) : Type 0 where
  pub taken : ℕ
  pub within : taken ≤ length octets
  pub run_behind : Option (List ℕ)
  pub front_is : front run octets ≡ Whole (take taken octets) run_behind (drop taken octets)
  pub says_nothing : (content : Content) → Says (take taken octets) content → ⊥

-- Want of memory; a message that says nothing is refused for its header; else a rule of framing is broken.
abbrev pub IsRefused : Option (List ℕ) → List ℕ → GiopFault → Type 0
IsRefused run octets faults.NoMemory = Unit {0}
IsRefused run octets faults.BadHead = IsBroken run octets faults.BadHead ⊎ IsSilent run octets
IsRefused run octets fault = IsBroken run octets fault
