-- How much of a message is still to come.
use Rattle.std.specs.Prelude.{ℕ, ◌+◌, ◌-◌, Result, Ok, Err}
use Rattle.giop_messages.specs.declared.fault.FramingFault.{FramingFault}
use Rattle.giop_messages.specs.declared.head.Head.{Head}

-- what the message of a head still wants behind so many octets of it
abbrev pub wanted_by : Result Head FramingFault → ℕ → ℕ
wanted_by (Ok head) n = head.size + 12 - n
wanted_by (Err fault) n = 0
