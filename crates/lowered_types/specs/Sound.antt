-- What the types of a file keep of the rules of graphs, and what is there of what names have, under its own names.
use Rattle.std.specs.Prelude.{◌≡◌, ℕ, ◌+◌, ◌<◌, ◌≤◌, List, length, All, Some, slice_get, IsSomeAnd}
use Rattle.type_graph.specs.declared.node.Node.{Node}
use Rattle.type_graph.specs.declared.node.Node.TheVariants.{Frame, Text}
use Rattle.type_graph.specs.GraphRules.{IsNode, IsPart, all_members}
use Rattle.lowered_types.specs.declared.fault.BuildFault.{BuildFault}
use Rattle.lowered_types.specs.declared.fault.BuildFault.TheVariants.{Types, OtherNames, NoMemory}
use Rattle.lowered_types.specs.declared.place.Place.{Place}
use Rattle.lowered_types.specs.declared.place.Place.TheVariants.{Typed, Raised, Called, Got, GotAndSet}
use Rattle.lowered_types.specs.Faults.{max_all_members, max_nodes}
use Rattle.lowered_types.specs.Lowered.{Lowered}

-- a fault of the types of a file, and none of its names
abbrev pub IsOfTypes : BuildFault → Type 0
IsOfTypes (Types fault) = Unit {0}
IsOfTypes OtherNames = ⊥
IsOfTypes NoMemory = ⊥

-- The types keep the rules of a graph but that on paths, and each has its sites but for the basic ones.
pub record AreSoundTypes (w : Lowered) : Type 0 where
  pub limited : length w.nodes ≤ max_nodes
  pub nodes : All (IsNode w.nodes) w.nodes
  pub members : all_members w.nodes ≤ max_all_members
  pub sites : length w.nodes ≡ length w.sites + 14

-- ---- frames

abbrev pub IsFrame : Node → Type 0
IsFrame (Frame members) = Unit {0}
IsFrame node = ⊥

-- the number is that of a frame
abbrev pub IsFrameAt : List Node → ℕ → Type 0
IsFrameAt graph n = IsSomeAnd (slice_get graph n) IsFrame

-- the first of the members is the unbounded text
abbrev pub BeginsWithText : List Node → Node → Type 0
BeginsWithText graph (Frame members) = IsSomeAnd (slice_get members 0) (λ n. slice_get graph n ≡ Some (Text 0))
BeginsWithText graph node = ⊥

-- the number is that of a frame that begins with a repository id
abbrev pub IsIdFrame : List Node → ℕ → Type 0
IsIdFrame graph n = IsSomeAnd (slice_get graph n) (BeginsWithText graph)

-- what a name has is there, among the nodes and so many exceptions
abbrev pub IsPlaceAmong : List Node → ℕ → Place → Type 0
IsPlaceAmong graph exceptions (Typed n) = IsPart graph n
IsPlaceAmong graph exceptions (Raised frame place) = IsIdFrame graph frame × (place < exceptions)
IsPlaceAmong graph exceptions (Called n) = IsFrameAt graph n × IsFrameAt graph (n + 1)
IsPlaceAmong graph exceptions (Got n) = IsFrameAt graph n × IsFrameAt graph (n + 1)
IsPlaceAmong graph exceptions (GotAndSet n) =
    IsFrameAt graph n × IsFrameAt graph (n + 1) × IsFrameAt graph (n + 2) × IsFrameAt graph (n + 3)
