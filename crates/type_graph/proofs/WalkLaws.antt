-- What is found within 64 levels of a graph is what a further level would find.
use Rattle.std.proofs.Common.{◌≡◌, ℕ, zero, suc, pos, List, [], ◌∷◌, ◌++◌, replicate, refl, ap, ap₂}
use Rattle.std.specs.List.{AllByRecursion, flat_map}
use Rattle.type_graph.specs.declared.width.Width.{Width}
use Rattle.type_graph.specs.declared.node.Node.{Node}
use Rattle.type_graph.specs.declared.node.Node.TheVariants.{Array, Struct, Union, Frame}
use Rattle.type_graph.specs.Value.{Tree, Items, Choice, AndTree, node_at, arm_of}
use Rattle.type_graph.specs.GraphRules.{held_by, IsShallow, IsGraph}
use Rattle.type_graph.specs.Walks.{first_lead, lead_by, lead_within, lead_of}
use Rattle.type_graph.specs.Leaves.{leaves_by, leaves_within, leaves_of}
use Rattle.type_graph.specs.Zero.{trees_of, zero_by, zero_value, zero_of}
use Rattle.type_graph.proofs.WordLaws.{all_weaken}
use Rattle.type_graph.proofs.HeldEach.{all_chosen, all_repeated, shallow_all}

-- both give the same
abbrev Agree : {A : Type 0} → (ℕ → A) → (ℕ → A) → ℕ → Type 0
Agree f g number = f number ≡ g number

-- ---- the lead

-- that of a first member
first_lead_same : (lead other : ℕ → Width) (members : List ℕ) → AllByRecursion (Agree lead other) members
    → first_lead lead members ≡ first_lead other members
first_lead_same lead other [] a = refl
first_lead_same lead other (number ∷ numbers) a = a.0

-- that of a node
lead_by_same : (graph : List Node) (lead other : ℕ → Width) (node : Node)
    → AllByRecursion (Agree lead other) (held_by node) → lead_by lead graph node ≡ lead_by other graph node
lead_by_same graph lead other (Array elem n) a = a.0
lead_by_same graph lead other (Struct members) a = first_lead_same lead other members a
lead_by_same graph lead other (Frame members) a = first_lead_same lead other members a
lead_by_same graph lead other node a = refl

-- a further level finds the same
lead_steady : (graph : List Node) (levels number : ℕ) → IsShallow levels graph number
    → lead_within levels graph number ≡ lead_within (suc levels) graph number
unfolding IsShallow lead_within
lead_steady graph zero number h = absurd h
lead_steady graph (suc levels) number h =
    lead_by_same graph (lead_within levels graph) (lead_within (suc levels) graph) (node_at graph number)
    (all_weaken (IsShallow levels graph) (Agree (lead_within levels graph) (lead_within (suc levels) graph))
    (held_by (node_at graph number)) (λ m s. lead_steady graph levels m s) h)

-- in a graph
pub lead_unfolds : (graph : List Node) → IsGraph graph → (number : ℕ)
    → lead_of graph number ≡ lead_by (lead_of graph) graph (node_at graph number)
unfolding lead_within
lead_unfolds graph rules number = lead_steady graph 64 number (shallow_all graph rules number)

-- ---- the leaves

-- those of parts
flat_map_same : (leaves other : ℕ → List Node) (numbers : List ℕ) → AllByRecursion (Agree leaves other) numbers
    → flat_map leaves numbers ≡ flat_map other numbers
flat_map_same leaves other [] a = refl
flat_map_same leaves other (number ∷ numbers) a =
    ap₂ (λ front back. front ++ back) a.0 (flat_map_same leaves other numbers a.1)

-- those of a node
leaves_by_same : (leaves other : ℕ → List Node) (node : Node) → AllByRecursion (Agree leaves other) (held_by node)
    → leaves_by leaves node ≡ leaves_by other node
leaves_by_same leaves other (Array elem n) a =
    flat_map_same leaves other (replicate n elem) (all_repeated (Agree leaves other) n elem a.0)
leaves_by_same leaves other (Struct members) a = flat_map_same leaves other members a
leaves_by_same leaves other (Frame members) a = flat_map_same leaves other members a
leaves_by_same leaves other node a = refl

-- a further level finds the same
leaves_steady : (graph : List Node) (levels number : ℕ) → IsShallow levels graph number
    → leaves_within levels graph number ≡ leaves_within (suc levels) graph number
unfolding IsShallow leaves_within
leaves_steady graph zero number h = absurd h
leaves_steady graph (suc levels) number h =
    leaves_by_same (leaves_within levels graph) (leaves_within (suc levels) graph) (node_at graph number)
    (all_weaken (IsShallow levels graph) (Agree (leaves_within levels graph) (leaves_within (suc levels) graph))
    (held_by (node_at graph number)) (λ m s. leaves_steady graph levels m s) h)

-- in a graph
pub leaves_unfold : (graph : List Node) → IsGraph graph → (number : ℕ)
    → leaves_of graph number ≡ leaves_by (leaves_of graph) (node_at graph number)
unfolding leaves_within
leaves_unfold graph rules number = leaves_steady graph 64 number (shallow_all graph rules number)

-- ---- the value of zeros

-- those of parts
trees_same : (tree other : ℕ → Tree) (numbers : List ℕ) → AllByRecursion (Agree tree other) numbers
    → trees_of tree numbers ≡ trees_of other numbers
trees_same tree other [] a = refl
trees_same tree other (number ∷ numbers) a = ap₂ AndTree a.0 (trees_same tree other numbers a.1)

-- that of a node
zero_by_same : (tree other : ℕ → Tree) (node : Node) → AllByRecursion (Agree tree other) (held_by node)
    → zero_by tree node ≡ zero_by other node
zero_by_same tree other (Array elem n) a =
    ap Items (trees_same tree other (replicate n elem) (all_repeated (Agree tree other) n elem a.0))
zero_by_same tree other (Struct members) a = ap Items (trees_same tree other members a)
zero_by_same tree other (Frame members) a = ap Items (trees_same tree other members a)
zero_by_same tree other (Union switch arms default) a =
    ap (Choice (pos 0)) (trees_same tree other (arm_of arms default (pos 0))
    (all_chosen (Agree tree other) arms default (pos 0) a))
zero_by_same tree other node a = refl

-- a further level finds the same
zero_steady : (graph : List Node) (levels number : ℕ) → IsShallow levels graph number
    → zero_value levels graph number ≡ zero_value (suc levels) graph number
unfolding IsShallow zero_value
zero_steady graph zero number h = absurd h
zero_steady graph (suc levels) number h =
    zero_by_same (zero_value levels graph) (zero_value (suc levels) graph) (node_at graph number)
    (all_weaken (IsShallow levels graph) (Agree (zero_value levels graph) (zero_value (suc levels) graph))
    (held_by (node_at graph number)) (λ m s. zero_steady graph levels m s) h)

-- in a graph
pub zero_unfolds : (graph : List Node) → IsGraph graph → (number : ℕ)
    → zero_of graph number ≡ zero_by (zero_of graph) (node_at graph number)
unfolding zero_value
zero_unfolds graph rules number = zero_steady graph 64 number (shallow_all graph rules number)
