-- How much of a server's stream is still to come (own).
use Rattle.std.specs.Prelude.{ℕ, ◌-◌, if◌then◌else◌, nat_lt, List, length}
use Rattle.giop_messages.specs.Room.{wanted_by}
use Rattle.giop_messages.specs.ReplyStreamsHeads.{reply_head}

-- what the message at the front of these still wants, or its head; nothing that is known where that is none
abbrev pub wanted : List ℕ → ℕ
wanted rest = (if nat_lt (length rest) 12 then 12 - length rest else wanted_by (reply_head rest) (length rest))
