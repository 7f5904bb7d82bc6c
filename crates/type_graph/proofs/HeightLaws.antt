-- Heights: that of a node is just above those of its parts.
use Rattle.std.proofs.Common.{◌≡◌, ℕ, zero, suc, ◌<◌, ◌≤◌, max, ℤ, List, ◌∷◌, [], ◌++◌, replicate, Option, refl, sym, ap₂, subst, arith}
use Rattle.std.specs.List.{AllByRecursion}
use Rattle.type_graph.specs.declared.node.Node.{Node}
use Rattle.type_graph.specs.declared.node.Node.TheVariants.{Union}
use Rattle.type_graph.specs.Value.{node_at, arm_of}
use Rattle.type_graph.specs.GraphRules.{held_by, IsShallow, IsGraph}
use Rattle.type_graph.specs.Walks.{above, height_within, height_of}
use Rattle.type_graph.proofs.WordLaws.{all_weaken}
use Rattle.type_graph.proofs.HeldEach.{all_chosen, shallow_all}

-- heights that are the same have the same above them
pub above_same : (h k : ℕ → ℕ) (numbers : List ℕ) → AllByRecursion (λ number. h number ≡ k number) numbers
    → above h numbers ≡ above k numbers
above_same h k [] same = refl
above_same h k (number ∷ numbers) same = ap₂ (λ a b. max (suc a) b) same.0 (above_same h k numbers same.1)

-- one level more doesn't change the height of a shallow node
pub height_steady : (graph : List Node) (levels number : ℕ) → IsShallow levels graph number
    → height_within levels graph number ≡ height_within (suc levels) graph number
unfolding IsShallow height_within
height_steady graph zero number shallow = absurd shallow
height_steady graph (suc levels) number shallow =
    above_same (height_within levels graph) (height_within (suc levels) graph) (held_by (node_at graph number))
    (all_weaken (IsShallow levels graph)
    (λ part. height_within levels graph part ≡ height_within (suc levels) graph part)
    (held_by (node_at graph number)) (λ part s. height_steady graph levels part s) shallow)

-- a height in a graph is just above those of the parts
pub height_unfolds : (graph : List Node) → IsGraph graph → (number : ℕ)
    → height_of graph number ≡ above (height_of graph) (held_by (node_at graph number))
unfolding height_within
height_unfolds graph rules number = height_steady graph 64 number (shallow_all graph rules number)

-- what lies above heights of at most n
above_bound : (h : ℕ → ℕ) (n : ℕ) (numbers : List ℕ) → ((number : ℕ) → h number ≤ n) → above h numbers ≤ suc n
above_bound h n [] low = omega arith
above_bound h n (number ∷ numbers) low =
    let here = low number in
    let more = above_bound h n numbers low in
    omega arith

-- what lies above heights below n
above_low : (h : ℕ → ℕ) (n : ℕ) (numbers : List ℕ) → AllByRecursion (λ number. h number < n) numbers
    → above h numbers < suc n
above_low h n [] low = omega arith
above_low h n (number ∷ numbers) low = let more = above_low h n numbers low.1 in omega (arith, low.0, more)

-- above two lists is above the one or the other
pub above_joined : (h : ℕ → ℕ) (numbers more : List ℕ)
    → above h (numbers ++ more) ≡ max (above h numbers) (above h more)
above_joined h [] more = omega arith
above_joined h (number ∷ numbers) more = let rest = above_joined h numbers more in omega (arith, rest)

-- a height is looked for within so many levels
pub height_bound : (levels : ℕ) (graph : List Node) (number : ℕ) → height_within levels graph number ≤ levels
unfolding height_within
height_bound zero graph number = omega arith
height_bound (suc levels) graph number =
    above_bound (height_within levels graph) levels (held_by (node_at graph number)) (height_bound levels graph)

-- of copies of a node
pub above_copies : (h : ℕ → ℕ) (n number : ℕ) → above h (replicate n number) ≤ suc (h number)
above_copies h zero number = omega arith
above_copies h (suc n) number = let more = above_copies h n number in omega arith

-- each height is below
pub above_each : (h : ℕ → ℕ) (most : ℕ) (numbers : List ℕ) → above h numbers ≤ most
    → AllByRecursion (λ number. h number < most) numbers
above_each h most [] le = tt
above_each h most (number ∷ numbers) le = (omega arith, above_each h most numbers (omega arith))

-- that of a union's chosen member too
pub above_arm : (h : ℕ → ℕ) (switch : ℕ) (arms : List (ℤ × ℕ)) (default : Option ℕ) (a : ℤ) (number : ℕ)
    → number ∷ [] ≡ arm_of arms default a → h number < above h (held_by (Union switch arms default))
above_arm h switch arms default a number chosen =
    let most = above h (held_by (Union switch arms default)) in
    let each = all_chosen (λ m. h m < most) arms default a
    (above_each h most (held_by (Union switch arms default)) (omega arith)) in
    (subst (AllByRecursion (λ m. h m < most)) (sym chosen) each).0

-- a shallow node's height is less than its levels
pub height_shallow : (levels : ℕ) (graph : List Node) (number : ℕ) → IsShallow levels graph number
    → height_within levels graph number < levels
unfolding IsShallow height_within
height_shallow zero graph number shallow = absurd shallow
height_shallow (suc levels) graph number shallow =
    above_low (height_within levels graph) levels (held_by (node_at graph number))
    (all_weaken (IsShallow levels graph) (λ part. height_within levels graph part < levels)
    (held_by (node_at graph number)) (height_shallow levels graph) shallow)
