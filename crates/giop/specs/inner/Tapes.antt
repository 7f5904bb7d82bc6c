-- What stands at the front of the tape of a header.
use Rattle.std.specs.Prelude.{◌≡◌, ℕ, ◌<◌, ◌^◌, pos, List, [], ◌++◌, Option, Some, None}
use Rattle.type_graph.specs.declared.width.Width.TheVariants.{Two, Four}
use Rattle.type_graph.specs.declared.width.Order.{Order}
use Rattle.type_graph.specs.declared.width.Order.TheVariants.{Big}
use Rattle.type_graph.specs.Words.{word}
use Rattle.type_graph.specs.Value.{Tree, node_at, Fits, tape_of}
use Rattle.giop_types.specs.GiopNodes.{giop_nodes, target_address_node}
use Rattle.reference_texts.specs.Profiles.{HasKey}
use Rattle.giop_messages.specs.Messages.{HasHeader}
use Rattle.giop_types.specs.TapeParts.{counted, IsCounted, tagged, IsTagged, tagged_list, AreTagged}

-- the tape of this value of the node, and then the rest
pub record Begins (node : ℕ) (value : Tree) (tape rest : List ℕ) : Type 0 where
  pub fits : Fits giop_nodes (node_at giop_nodes node) value 64
  pub tape_is : tape ≡ tape_of giop_nodes (node_at giop_nodes node) value ++ rest

-- that of some value of the node
pub record HasValue (node : ℕ) (tape : List ℕ) : Type 0 where
  pub value : Tree
  pub rest : List ℕ
  pub begins : Begins node value tape rest

-- counted octets, and then the rest
pub record CountedFront (tape octets rest : List ℕ) : Type 0 where
  pub short : IsCounted octets
  pub front : tape ≡ counted octets ++ rest

-- a tag with its octets, and then the rest
pub record TaggedFront (tape : List ℕ) (profile : ℕ × List ℕ) (rest : List ℕ) : Type 0 where
  pub short : IsTagged profile
  pub front : tape ≡ tagged profile ++ rest

-- a place among the profiles of an object reference, the reference, and then the rest
pub record SelectedFront (tape : List ℕ) (selected : ℕ) (type_id : List ℕ) (profiles : List (ℕ × List ℕ))
    (rest : List ℕ) : Type 0 where
  pub small : selected < 2 ^ 32
  pub short : IsCounted type_id
  pub are : AreTagged profiles
  pub front : tape ≡ word Big Four (pos selected) ++ (counted type_id ++ (tagged_list profiles ++ rest))

-- the key that a profile tells, none where it tells none
abbrev pub IsIn : ℕ × List ℕ → Option (List ℕ) → Type 0
IsIn profile (Some key) = HasKey profile key
IsIn profile None = (key : List ℕ) → HasKey profile key → ⊥

-- the same of the profile at some place; none where there is no such place
abbrev pub IsAt : Option (ℕ × List ℕ) → Option (List ℕ) → Type 0
IsAt (Some profile) key = IsIn profile key
IsAt None key = key ≡ None

-- a discriminator, and then the tape behind that of a target
pub record BeginsBehind (label : ℕ) (target : Tree) (tape rest : List ℕ) : Type 0 where
  pub whole : List ℕ
  pub begins : Begins target_address_node target whole rest
  pub is : whole ≡ word Big Two (pos label) ++ tape

-- Behind the head stands a value of the node, which ends at this place and has this tape.
pub record IsTapeAt (octets : List ℕ) (order : Order) (node : ℕ) (tape : List ℕ) (stop : ℕ) : Type 0 where
  pub value : Tree
  pub header : HasHeader octets order node value stop
  pub begins : Begins node value tape []
