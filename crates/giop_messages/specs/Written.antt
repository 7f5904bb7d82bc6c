-- The messages that a writer makes (ISO/IEC 19500-2, GIOP message formats).
use Rattle.std.specs.Prelude.{◌≡◌, ℕ, ◌+◌, List, [], ◌∷◌, ◌++◌, length, codes, replicate, Option, Some, None}
use Rattle.type_graph.specs.declared.width.Width.TheVariants.{Four}
use Rattle.type_graph.specs.declared.width.Order.{Order}
use Rattle.type_graph.specs.declared.width.Order.TheVariants.{Big, Little}
use Rattle.type_graph.specs.declared.node.Node.{Node}
use Rattle.type_graph.specs.Words.{writing, plain_word, pad}
use Rattle.type_graph.specs.Value.{Tree}
use Rattle.type_graph.specs.Encoding.{Means}
use Rattle.giop_types.specs.Fields.{Holds}
use Rattle.giop_messages.specs.Messages.{body_after}

-- only bit 0 of the flags is set, for little order
abbrev pub flags_of : Order → ℕ
flags_of Big = 0
flags_of Little = 1

-- the head of a message of the type with this number, behind which so many octets stand
abbrev pub head_octets : Order → ℕ → ℕ → List ℕ
head_octets order kind size = codes "GIOP" ++ 1 ∷ 2 ∷ flags_of order ∷ kind ∷ plain_word order Four size

-- a body: the types of which it is, the number of its own there, and its tape
pub record Given : Type 0 where
  pub graph : List Node
  pub node : ℕ
  pub tape : List ℕ

-- the gap before a body, behind a header that ends at p; none before a body that is empty
abbrev pub body_gap : ℕ → List ℕ → List ℕ
body_gap p [] = []
body_gap p (octet ∷ more) = replicate (pad p 8) 0

-- the body behind a header that ends at p
pub record IsGiven (order : Order) (given : Given) (p : ℕ) (octets : List ℕ) : Type 0 where
  pub body : List ℕ
  pub octets_are : octets ≡ body_gap p given.tape ++ body
  pub is : Means given.graph (writing order) 64 given.node (body_after p) given.tape body

abbrev pub IsBody : Order → Option Given → ℕ → List ℕ → Type 0
IsBody order None p octets = octets ≡ []
IsBody order (Some given) p octets = IsGiven order given p octets

-- Head, header and body: a message of the type with this number, whose header is this value of the node.
pub record IsWritten (order : Order) (kind node : ℕ) (value : Tree) (body : Option Given)
    (octets : List ℕ) : Type 0 where
  pub header : List ℕ
  pub behind : List ℕ
  pub octets_are : octets ≡ head_octets order kind (length header + length behind) ++ (header ++ behind)
  pub header_is : Holds (writing order) node 12 value header
  pub body_is : IsBody order body (12 + length header) behind
