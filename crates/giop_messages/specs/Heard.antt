-- What the stream that a server sends says to a client that awaits the reply to the request of a number.
use Rattle.std.specs.Prelude.{ℕ, zero, suc, List, ◌++◌, length, Option, Some, None}
use Rattle.giop_messages.specs.declared.fault.FramingFault.{FramingFault}
use Rattle.giop_messages.specs.Fronts.{Front, More, Broken, Passed, Piece, Whole, Closes, Fails, front}

-- Nothing yet: the run of fragments that is open, and the octets behind; or else the first of these.
pub data Heard : Type 0 where
  Waits : Option (List ℕ) → List ℕ → Heard
  -- the reply with the number, its fragments joined
  Replies : List ℕ → Heard
  -- no message
  Breaks : FramingFault → Heard
  -- CloseConnection
  Ends : Heard
  -- MessageError
  Refuses : Heard

abbrev pub heard_front : (Option (List ℕ) → List ℕ → Heard) → Option (List ℕ) → List ℕ → Front → Heard
heard_front further run octets More = Waits run octets
heard_front further run octets (Broken fault) = Breaks fault
heard_front further run octets (Passed rest) = further run rest
heard_front further run octets (Piece joined rest) = further (Some joined) rest
heard_front further run octets (Whole message) = Replies message
heard_front further run octets Closes = Ends
heard_front further run octets Fails = Refuses

-- by so many messages at most
abbrev pub heard_within : ℕ → ℕ → Option (List ℕ) → List ℕ → Heard
heard_within zero id run octets = Waits run octets
heard_within (suc n) id run octets = heard_front (heard_within n id) run octets (front id run octets)

-- by all of them: each has an octet at least
abbrev pub heard_from : ℕ → Option (List ℕ) → List ℕ → Heard
heard_from id run octets = heard_within (length octets) id run octets

-- What a stream says, from its begin.
abbrev pub heard : ℕ → List ℕ → Heard
heard id octets = heard_from id None octets

-- A number that no request has: by it a stream says what it says to a client that awaits no reply.
abbrev pub no_number : ℕ
no_number = 4294967296

-- what it says when more octets come
abbrev pub heard_more : ℕ → Heard → List ℕ → Heard
heard_more id (Waits run rest) more = heard_from id run (rest ++ more)
heard_more id (Replies message) more = Replies message
heard_more id (Breaks fault) more = Breaks fault
heard_more id Ends more = Ends
heard_more id Refuses more = Refuses
