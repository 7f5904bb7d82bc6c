-- When a list of nodes is refused, and where it breaks the rules.
use Rattle.std.specs.Prelude.{◌≡◌, ℕ, suc, ◌<◌, ℤ, ◌≤ℤ◌, List, length, Option, All, IfSome, Bool, true, false}
use Rattle.type_graph.specs.declared.fault.GraphFault.{GraphFault}
use Rattle.type_graph.specs.declared.fault.GraphFault.TheVariants.{NoMemory}
use Rattle.type_graph.specs.declared.fault.NodeRule.{NodeRule}
use Rattle.type_graph.specs.declared.fault.NodeRule.TheVariants.{LabelTwice, LabelRange, BadNode}
use Rattle.type_graph.specs.declared.fault.RuleFault.{RuleFault}
use Rattle.type_graph.specs.declared.fault.RuleFault.TheVariants.{TooManyNodes, TooManyMembers, InNode, SelfHeld, LongPath}
use Rattle.type_graph.specs.declared.node.Node.{Node}
use Rattle.type_graph.specs.declared.node.Node.TheVariants.{Integer, Enum, Seq, Array, Struct, Union, Frame}
use Rattle.type_graph.specs.Value.{node_at, IsNumber}
use Rattle.type_graph.specs.GraphRules.{IsNode, IsPart, IsShallow, IsWide, all_members, label_at}

-- whether memory was wanted
abbrev pub wants_memory : GraphFault → Bool
wants_memory NoMemory = true
wants_memory fault = false

-- the label at a place is no value of the discriminator
pub record IsOutside (switch : Node) (arms : List (ℤ × ℕ)) (place : ℕ) : Type 0 where
  pub within : place < length arms
  pub outside : IsNumber switch (label_at arms place) → ⊥

-- the label at a place is that of the arm before it
pub record IsRepeated (arms : List (ℤ × ℕ)) (place : ℕ) : Type 0 where
  pub within : place < length arms
  pub before : ℕ
  pub next : place ≡ suc before
  pub same : label_at arms before ≡ label_at arms place

-- what a rule of a union's labels tells of the place
abbrev pub IsPlace : List Node → ℕ → List (ℤ × ℕ) → NodeRule → Type 0
IsPlace graph switch arms (LabelRange place) = IsOutside (node_at graph switch) arms place
IsPlace graph switch arms (LabelTwice place) = IsRepeated arms place
IsPlace graph switch arms rule = Unit {0}

-- of any node
abbrev pub IsPlaceIn : List Node → Node → NodeRule → Type 0
IsPlaceIn graph (Union switch arms default) rule = IsPlace graph switch arms rule
IsPlaceIn graph node rule = Unit {0}

-- no label is below the one before it
abbrev pub NeverFall : List (ℤ × ℕ) → Type 0
NeverFall arms = (place : ℕ) → suc place < length arms → label_at arms place ≤ℤ label_at arms (suc place)

-- a union that refers to nodes that it may refer to, and whose labels are in order
pub record IsUnionOfParts (graph : List Node) (switch : ℕ) (arms : List (ℤ × ℕ)) (default : Option ℕ) : Type 0 where
  pub switches : IsPart graph switch
  pub in_order : NeverFall arms
  pub parts : All (λ arm. IsPart graph arm.1) arms
  pub default_part : IfSome default (IsPart graph)

-- The rules of one node that have no name of their own: they are told as BadNode.
abbrev pub IsWellFormed : List Node → Node → Type 0
IsWellFormed graph (Integer width signed) = IsWide width
IsWellFormed graph (Enum n) = 0 < n
IsWellFormed graph (Seq elem bound) = IsPart graph elem
IsWellFormed graph (Array elem n) = IsPart graph elem × (0 < n)
IsWellFormed graph (Struct members) = (0 < length members) × All (IsPart graph) members
IsWellFormed graph (Union switch arms default) = IsUnionOfParts graph switch arms default
IsWellFormed graph (Frame members) = All (IsPart graph) members
IsWellFormed graph node = Unit {0}

-- BadNode tells that the fact doesn't hold, the other rules don't tell of it
abbrev pub DeniesIfBad : NodeRule → Type 0 → Type 0
DeniesIfBad BadNode fact = fact → ⊥
DeniesIfBad rule fact = Unit {0}

-- the node breaks the rules of nodes, this one at its place
pub record BreaksRule (graph : List Node) (node : Node) (rule : NodeRule) : Type 0 where
  pub broken : IsNode graph node → ⊥
  pub place : IsPlaceIn graph node rule
  pub bad : DeniesIfBad rule (IsWellFormed graph node)

-- The list breaks the rule that the fault says: one of the list, one of a node in it, or that on paths from a node.
abbrev pub IsFault : List Node → RuleFault → Type 0
IsFault graph TooManyNodes = 4096 < length graph
IsFault graph (TooManyMembers node) = (node < length graph) × (32768 < all_members graph)
IsFault graph (InNode node rule) = (node < length graph) × BreaksRule graph (node_at graph node) rule
IsFault graph (SelfHeld node place) = (node < length graph) × (IsShallow 64 graph node → ⊥)
IsFault graph (LongPath node) = (node < length graph) × (IsShallow 64 graph node → ⊥)
