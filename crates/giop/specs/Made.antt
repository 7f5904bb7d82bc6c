-- What is made of the tape of a header and a body.
use Rattle.std.specs.Prelude.{◌≡◌, ℕ, ◌+◌, ◌<◌, List, ◌++◌, length, Option, Some, None}
use Rattle.std.specs.Borrow.{Bor}
use Rattle.position_checker.specs.declared.accepted.Accepted.{Accepted}
use Rattle.type_graph.specs.declared.width.Order.{Order}
use Rattle.type_graph.specs.declared.node.Node.{Node}
use Rattle.type_graph.specs.Words.{writing}
use Rattle.type_graph.specs.Encoding.{Means}
use Rattle.giop_messages.specs.Heads.{max_size}
use Rattle.giop_types.specs.GiopNodes.{giop_nodes}
use Rattle.giop_messages.specs.declared.fault.GiopFault.{GiopFault}
use Rattle.giop_messages.specs.declared.fault.GiopFault.TheVariants as faults
use Rattle.giop_messages.specs.Written.{Given, IsBody, head_octets}

abbrev pub given : List Node → ℕ → List ℕ → Given
given graph node tape = record { graph = graph; node = node; tape = tape }

-- the body that accepted types, the number of a node and a tape give, if there is one
abbrev pub given_by : Option (Bor Accepted × ℕ × Bor (List ℕ)) → Option Given
given_by None = None
given_by (Some body) = Some (given body.0.now.model.graph body.1 body.2.now)

-- these octets are those of a header with this tape
abbrev pub IsHeader : Order → ℕ → List ℕ → List ℕ → Type 0
IsHeader order node tape header = Means giop_nodes (writing order) 64 node 12 tape header

-- head, header and body
pub record IsMade (order : Order) (kind node : ℕ) (tape : List ℕ) (body : Option Given) (octets : List ℕ) : Type 0 where
  pub header : List ℕ
  pub behind : List ℕ
  pub octets_are : octets ≡ head_octets order kind (length header + length behind) ++ (header ++ behind)
  pub header_is : IsHeader order node tape header
  pub body_is : IsBody order body (12 + length header) behind

-- they are too many
pub record IsLong (order : Order) (kind node : ℕ) (tape : List ℕ) (body : Option Given) : Type 0 where
  pub octets : List ℕ
  pub is : IsMade order kind node tape body octets
  pub long : 12 + max_size < length octets

-- the header is there, but no octets are those of the body behind it
pub record HasNoBody (order : Order) (node : ℕ) (tape : List ℕ) (body : Option Given) : Type 0 where
  pub header : List ℕ
  pub header_is : IsHeader order node tape header
  pub none : (behind : List ℕ) → IsBody order body (12 + length header) behind → ⊥

-- why none are made
abbrev pub IsNotMade : GiopFault → Order → ℕ → ℕ → List ℕ → Option Given → Type 0
IsNotMade faults.NoMemory order kind node tape body = Unit {0}
IsNotMade faults.TooLong order kind node tape body = IsLong order kind node tape body
IsNotMade faults.BadHead order kind node tape body = (header : List ℕ) → IsHeader order node tape header → ⊥
IsNotMade faults.BadBody order kind node tape body = HasNoBody order node tape body
IsNotMade fault order kind node tape body = ⊥
