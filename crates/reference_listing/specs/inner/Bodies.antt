-- The tapes of bodies of profiles, and the fronts of octets that hold them.
use Rattle.std.specs.Prelude.{◌≡◌, ℕ, zero, suc, ◌<◌, ◌^◌, pos, Bool, true, false, List, [], ◌++◌}
use Rattle.type_graph.specs.declared.width.Order.{Order}
use Rattle.type_graph.specs.declared.width.Order.TheVariants.{Big}
use Rattle.type_graph.specs.declared.width.Width.TheVariants.{One, Two}
use Rattle.type_graph.specs.Words.{reading, word}
use Rattle.giop_types.specs.Fields.{Holds}
use Rattle.giop_types.specs.TapeParts.{counted, IsCounted, tagged_list, AreTagged}
use Rattle.reference_texts.specs.Profiles.{Body, body_node, body_tree}

-- a body of minor version 0 has no components, a later one has
abbrev pub is_later : ℕ → Bool
is_later zero = false
is_later (suc n) = true

abbrev pub minor_of : Bool → ℕ
minor_of true = 1
minor_of false = 0

-- the tape of a host, a port and a key, and any more
pub record IsAddress (tape host : List ℕ) (port : ℕ) (key rest : List ℕ) : Type 0 where
  pub host_short : IsCounted host
  pub port_small : port < 2 ^ 16
  pub key_short : IsCounted key
  pub front : tape ≡ counted host ++ (word Big Two (pos port) ++ (counted key ++ rest))

-- the components behind a key, where the version has them
abbrev pub AreBehind : Bool → List ℕ → List (ℕ × List ℕ) → Type 0
AreBehind false tape components = components ≡ []
AreBehind true tape components = AreTagged components × ((rest : List ℕ) × (tape ≡ tagged_list components ++ rest))

-- the tape of a body, of version 1.0 or a later one
pub record IsBodyTape (later : Bool) (tape : List ℕ) (body : Body) : Type 0 where
  pub major_small : body.major < 2 ^ 8
  pub minor_small : body.minor < 2 ^ 8
  pub address : List ℕ
  pub rest : List ℕ
  pub tape_is : tape ≡ word Big One (pos body.major) ++ (word Big One (pos body.minor) ++ address)
  pub address_is : IsAddress address body.host body.port body.key rest
  pub components_are : AreBehind later rest body.components

-- octets behind a flag that begin with a body of major version 1, later than 1.0 or not
pub record IsFront (octets : List ℕ) (order : Order) (later : Bool) (body : Body) (behind : List ℕ) : Type 0 where
  pub major : body.major ≡ 1
  pub minor : is_later body.minor ≡ later
  pub bare : later ≡ false → body.components ≡ []
  pub front : List ℕ
  pub octets_are : octets ≡ front ++ behind
  pub holds : Holds (reading order) (body_node (minor_of later)) 1 (body_tree body (minor_of later)) front

-- the same whether later than 1.0 or not
pub record IsSomeFront (octets : List ℕ) (order : Order) (body : Body) (behind : List ℕ) : Type 0 where
  pub later : Bool
  pub is : IsFront octets order later body behind
