-- What a run of fragments of a reply keeps.
use Rattle.std.specs.Prelude.{◌≡◌, ℕ, ◌+◌, ◌≤◌, false, List, length, Ok}
use Rattle.giop_messages.specs.declared.head.MessageKind.TheVariants.{Reply}
use Rattle.giop_messages.specs.declared.head.Head.{Head}
use Rattle.giop_messages.specs.Framing.{breaks_run}
use Rattle.giop_messages.specs.ReplyStreamsHeads.{reply_head}

-- a whole message, and what its head says to a client
abbrev pub IsSent : Head → List ℕ → Type 0
IsSent head message = (reply_head message ≡ Ok head) × (length message ≡ 12 + head.size)

-- a whole reply with a number, or its first piece
pub record IsFirst (message : List ℕ) : Type 0 where
  pub head : Head
  pub is : IsSent head message
  pub reply : head.kind ≡ Reply
  pub numbered : 4 ≤ head.size

-- a later piece of it that breaks no rule
pub record IsNext (run message : List ℕ) : Type 0 where
  pub head : Head
  pub is : IsSent head message
  pub kept : breaks_run run head ≡ false
  pub long : 16 ≤ length message
