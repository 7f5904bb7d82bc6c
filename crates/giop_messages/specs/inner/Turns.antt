-- One message at the front of a stream.
use Rattle.std.specs.Prelude.{◌≡◌, ℕ, ◌<◌, ◌≤◌, List, length, drop, Option}
use Rattle.giop_messages.specs.Fronts.{Front, More, Broken, Passed, Piece, Whole, Closes, Fails}
use Rattle.giop_messages.specs.declared.reply_streams.turn.Turn.{Turn}
use Rattle.giop_messages.specs.declared.reply_streams.turn.Turn.TheVariants as turns

-- the front that a turn tells, by the octets behind its own
abbrev pub front_of : (ℕ → List ℕ) → Turn → Front
front_of behind (turns.Waits run) = More
front_of behind (turns.Passes run len) = Passed (behind len)
front_of behind (turns.Goes run len) = Piece run (behind len)
front_of behind (turns.Replies reply) = Whole reply
front_of behind (turns.Breaks fault) = Broken fault
front_of behind turns.Ends = Closes
front_of behind turns.Refuses = Fails

-- the run that it leaves as it was
abbrev pub Keeps : Option (List ℕ) → Turn → Type 0
Keeps before (turns.Waits run) = run ≡ before
Keeps before (turns.Passes run len) = run ≡ before
Keeps before (turns.Goes run len) = Unit {0}
Keeps before (turns.Replies reply) = Unit {0}
Keeps before (turns.Breaks fault) = Unit {0}
Keeps before turns.Ends = Unit {0}
Keeps before turns.Refuses = Unit {0}

-- so many octets it takes
abbrev pub Takes : ℕ → Turn → Type 0
Takes whole (turns.Waits run) = Unit {0}
Takes whole (turns.Passes run len) = len ≡ whole
Takes whole (turns.Goes run len) = len ≡ whole
Takes whole (turns.Replies reply) = Unit {0}
Takes whole (turns.Breaks fault) = Unit {0}
Takes whole turns.Ends = Unit {0}
Takes whole turns.Refuses = Unit {0}

-- a part of the stream
abbrev pub IsPart : List ℕ → Turn → Type 0
IsPart octets (turns.Waits run) = Unit {0}
IsPart octets (turns.Passes run len) = (0 < len) × (len ≤ length octets)
IsPart octets (turns.Goes run len) = (0 < len) × (len ≤ length octets)
IsPart octets (turns.Replies reply) = Unit {0}
IsPart octets (turns.Breaks fault) = Unit {0}
IsPart octets turns.Ends = Unit {0}
IsPart octets turns.Refuses = Unit {0}

-- what is told of a front
pub record IsTurn (run : Option (List ℕ)) (there : Front) (octets : List ℕ) (turn : Turn) : Type 0 where
  pub front_is : there ≡ front_of (λ len. drop len octets) turn
  pub keeps : Keeps run turn
  pub part : IsPart octets turn

-- what is told of a message of so many octets, whatever stands behind it
pub record IsTaken (run : Option (List ℕ)) (there : List ℕ → Front) (whole : ℕ) (turn : Turn) : Type 0 where
  pub front_is : (rest : List ℕ) → there rest ≡ front_of (λ len. rest) turn
  pub keeps : Keeps run turn
  pub takes : Takes whole turn
