-- What pieces of a run are, and what a run keeps.
use Rattle.std.specs.Prelude.{◌≡◌, ℕ, ◌+◌, ◌≤◌, true, false, List, length, take, drop, Option, Some, None, IsSomeAnd, Result, Ok, Err}
use Rattle.giop_messages.specs.declared.fault.FramingFault.{FramingFault}
use Rattle.giop_messages.specs.declared.head.MessageKind.{MessageKind}
use Rattle.giop_messages.specs.declared.head.MessageKind.TheVariants.{Request}
use Rattle.giop_messages.specs.declared.head.Head.{Head}
use Rattle.giop_messages.specs.declared.frame.Frame.{Frame}
use Rattle.giop_messages.specs.Heads.{head_in, max_size}
use Rattle.giop_messages.specs.Framing.{More, Broken, front, placed, is_fragment, is_cut, breaks_run, id_in}

-- a whole message, and what its head says
pub record IsMessage (head : Head) (message : List ℕ) : Type 0 where
  pub head_is : head_in message ≡ Ok head
  pub whole : length message ≡ 12 + head.size

-- the first piece of a run
pub record IsFirst (message : List ℕ) : Type 0 where
  pub head : Head
  pub is : IsMessage head message
  pub request : is_fragment head.kind ≡ false
  pub goes_on : head.goes_on ≡ true
  pub uncut : is_cut head ≡ false

-- the next piece of a run
pub record IsNext (run message : List ℕ) : Type 0 where
  pub head : Head
  pub is : IsMessage head message
  pub fragment : is_fragment head.kind ≡ true
  pub kept : breaks_run run head ≡ false
  pub same : id_in message ≡ id_in run

-- The message at the front. One that others follow begins a run; a fragment is the next piece of the run that is open.
pub record IsFrame (run : Option (List ℕ)) (octets : List ℕ) (frame : Frame) : Type 0 where
  pub within : frame.len ≤ length octets
  pub is : IsMessage frame.head (take frame.len octets)
  pub first : is_fragment frame.head.kind ≡ false → frame.head.goes_on ≡ true → IsFirst (take frame.len octets)
  pub next : is_fragment frame.head.kind ≡ true → IsSomeAnd run (λ there. IsNext there (take frame.len octets))
  pub front_is : front run octets ≡ placed run frame.head (take frame.len octets) (drop frame.len octets)

-- what is told of the front of a stream
abbrev pub IsFront : Option (List ℕ) → List ℕ → Result (Option Frame) FramingFault → Type 0
IsFront run octets (Err fault) = front run octets ≡ Broken fault
IsFront run octets (Ok None) = front run octets ≡ More
IsFront run octets (Ok (Some frame)) = IsFrame run octets frame

-- one whole message of a kind that no fragments follow, with the number of its request
pub record IsAlone (kind : MessageKind) (octets : List ℕ) : Type 0 where
  pub numbered : 16 ≤ length octets
  pub sized : length octets ≤ 12 + max_size
  pub head : Head
  pub is : IsMessage head octets
  pub kind_is : head.kind ≡ kind
  pub alone : head.goes_on ≡ false

-- what a run keeps
abbrev pub IsRun : List ℕ → Type 0
IsRun octets = IsAlone Request octets
