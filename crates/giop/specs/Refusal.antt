-- Why a message isn't written.
use Rattle.std.specs.Prelude.{ℕ, ◌+◌, ◌<◌, List, length, Option}
use Rattle.type_graph.specs.declared.width.Order.{Order}
use Rattle.type_graph.specs.Words.{writing}
use Rattle.type_graph.specs.Value.{Tree}
use Rattle.giop_messages.specs.Heads.{max_size}
use Rattle.giop_types.specs.Fields.{Holds}
use Rattle.giop_messages.specs.declared.fault.GiopFault.{GiopFault}
use Rattle.giop_messages.specs.declared.fault.GiopFault.TheVariants as faults
use Rattle.giop_messages.specs.Written.{Given, IsBody, IsWritten}

-- It would have more than 1,048,576 octets behind its head.
pub record IsTooLong (order : Order) (kind node : ℕ) (value : Tree) (body : Option Given) : Type 0 where
  pub octets : List ℕ
  pub is : IsWritten order kind node value body octets
  pub long : 12 + max_size < length octets

-- The header is there, but no octets are those of the body behind it.
pub record HasBadBody (order : Order) (node : ℕ) (value : Tree) (body : Option Given) : Type 0 where
  pub header : List ℕ
  pub header_is : Holds (writing order) node 12 value header
  pub none : (behind : List ℕ) → IsBody order body (12 + length header) behind → ⊥

-- Want of memory; a message that is too long; no octets are those of the header; none are those of the body.
abbrev pub IsNotWritten : GiopFault → Order → ℕ → ℕ → Tree → Option Given → Type 0
IsNotWritten faults.NoMemory order kind node value body = Unit {0}
IsNotWritten faults.TooLong order kind node value body = IsTooLong order kind node value body
IsNotWritten faults.BadHead order kind node value body =
    (header : List ℕ) → Holds (writing order) node 12 value header → ⊥
IsNotWritten faults.BadBody order kind node value body = HasBadBody order node value body
IsNotWritten fault order kind node value body = ⊥
