-- How much is read of a connection at a time (own).
use Rattle.std.specs.Prelude.{ℕ, ◌-◌, min, max, if◌then◌else◌, nat_lt, Bool, true, false, List, [], ◌∷◌, length, Option, Some, None}
use Rattle.broker_answers.specs.Streams.{Stream, Open, Closed}
use Rattle.giop_messages.specs.Heads.{head_in}
use Rattle.giop_messages.specs.Room.{wanted_by}

-- what the message at the front of these still wants, or its head; nothing that is known where that is none
abbrev pub wanted : List ℕ → ℕ
wanted rest = (if nat_lt (length rest) 12 then 12 - length rest else wanted_by (head_in rest) (length rest))

-- No octet behind that message, and 65,536 at most; one at least.
abbrev pub room_of : Option Stream → ℕ
room_of (Some (Open run rest)) = max (min (wanted rest) 65536) 1
room_of (Some Closed) = 12
room_of None = 12

-- a message is begun and isn't whole, also a request whose fragments are coming
abbrev pub is_begun : Option Stream → Bool
is_begun (Some (Open None [])) = false
is_begun (Some (Open None (octet ∷ more))) = true
is_begun (Some (Open (Some run) rest)) = true
is_begun (Some Closed) = false
is_begun None = false
