-- Paths downwards from a type to one that it holds, and so on. None passes a sequence: a sequence holds nothing.
use Rattle.std.specs.Prelude.{◌≡◌, ℕ, zero, suc, ◌<◌, ◌≤◌, List, length, Some, slice_get}
use Rattle.idl_tree.specs.declared.names.At.{At}
use Rattle.type_graph.specs.declared.node.Node.{Node}
use Rattle.type_graph.specs.Value.{node_at}
use Rattle.type_graph.specs.GraphRules.{held_by, IsShallow}
use Rattle.type_paths.specs.declared.fault.PathFault.{PathFault}
use Rattle.type_paths.specs.declared.fault.PathFault.TheVariants.{SelfHeld, LongPath}
use Rattle.type_paths.specs.Sites.{Sites, Types, line_of, own_at, token_at}

-- a node holds another by a member that stands at most at the token
pub record HoldsBy (types : Types) (token node part : ℕ) : Type 0 where
  pub place : ℕ
  pub there : slice_get (held_by (node_at types.nodes node)) place ≡ Some part
  pub early : token_at types node place ≤ token

-- a node holds one of those that are meant
pub record HoldsOne (Holds : ℕ → ℕ → Type 0) (Meant : ℕ → Type 0) (node : ℕ) : Type 0 where
  pub part : ℕ
  pub holds : Holds node part
  pub meant : Meant part

-- from a node a path of so many steps leads downwards
unfoldable pub HasPath : (ℕ → ℕ → Type 0) → ℕ → ℕ → Type 0
HasPath Holds zero node = Unit {0}
HasPath Holds (suc steps) node = HoldsOne Holds (HasPath Holds steps) node

-- paths of any length
abbrev pub IsEndless : (ℕ → ℕ → Type 0) → ℕ → Type 0
IsEndless Holds node = (steps : ℕ) → HasPath Holds steps node

-- With the members up to a token a type holds itself: a path without end comes back, since a list has finitely many
-- nodes.
pub record GoesRoundBy (types : Types) (token : ℕ) : Type 0 where
  pub node : ℕ
  pub within : node < length types.nodes
  pub endless : IsEndless (HoldsBy types token) node

-- from a node so many steps lead to another
unfoldable pub LeadsTo : (ℕ → ℕ → Type 0) → ℕ → ℕ → ℕ → Type 0
LeadsTo Holds zero node other = node ≡ other
LeadsTo Holds (suc steps) node other = HoldsOne Holds (λ part. LeadsTo Holds steps part other) node

-- a node that some steps lead back to: what going round comes to, by a law
pub record HoldsItself (types : Types) (token : ℕ) : Type 0 where
  pub node : ℕ
  pub steps : ℕ
  pub back : LeadsTo (HoldsBy types token) (suc steps) node node

-- the first token at which a member closes a circle
pub record ClosesCircle (types : Types) (token : ℕ) : Type 0 where
  pub round : GoesRoundBy types token
  pub first : (less : ℕ) → less < token → GoesRoundBy types less → ⊥

-- the member that closes the first circle stands there
pub record IsClosedAt (types : Types) (at : At) : Type 0 where
  pub closes : ClosesCircle types at.token
  pub line : at.line ≡ line_of types at.token

-- no type holds itself, and the first type that isn't shallow stands there
pub record IsTooDeep (types : Types) (at : At) : Type 0 where
  pub never : (any : ℕ) → GoesRoundBy types any → ⊥
  pub node : ℕ
  pub within : node < length types.nodes
  pub deep : IsShallow 64 types.nodes node → ⊥
  pub first : (less : ℕ) → less < node → IsShallow 64 types.nodes less
  pub stands : at ≡ own_at types node

abbrev pub IsFaultOf : Types → PathFault → Type 0
IsFaultOf types (SelfHeld at) = IsClosedAt types at
IsFaultOf types (LongPath at) = IsTooDeep types at

-- The fault of nodes, where `sites` are those of the nodes from the first that has some.
abbrev pub IsPathFault : List Node → ℕ → List Sites → PathFault → Type 0
IsPathFault nodes first sites fault = IsFaultOf (record { nodes = nodes; first = first; sites = sites }) fault
