-- Paths: shorter and longer ones, by more or fewer members, and what they have to do with shallow nodes.
use Rattle.std.proofs.Common.{◌≡◌, ℕ, zero, suc, ◌+◌, ◌≤◌, List, [], ◌∷◌, length, Some, slice_get, refl, subst, add-zero, add-suc, arith}
use Rattle.std.specs.List.{AllByRecursion}
use Rattle.std.proofs.lemmas.List.{get_or_past}
use Rattle.type_graph.specs.declared.node.Node.{Node}
use Rattle.type_graph.specs.declared.node.Node.TheVariants.{Octet}
use Rattle.type_graph.specs.Value.{node_at}
use Rattle.type_graph.specs.GraphRules.{held_by, IsShallow}
use Rattle.type_paths.specs.Sites.{Types, token_at}
use Rattle.type_paths.specs.Paths.{HoldsBy, HoldsOne, HasPath, GoesRoundBy}

-- ---- paths

-- more are meant
pub one_of_more : (Holds : ℕ → ℕ → Type 0) (Few Many : ℕ → Type 0) (node : ℕ) → ((part : ℕ) → Few part → Many part)
    → HoldsOne Holds Few node → HoldsOne Holds Many node
one_of_more Holds Few Many node more h = record { part = h.part; holds = h.holds; meant = more h.part h.meant }

-- the front of a path is one
pub path_front : (Holds : ℕ → ℕ → Type 0) (steps node : ℕ) → HasPath Holds (suc steps) node → HasPath Holds steps node
unfolding HasPath
path_front Holds zero node h = tt
path_front Holds (suc steps) node h =
    one_of_more Holds (HasPath Holds (suc steps)) (HasPath Holds steps) node (path_front Holds steps) h

pub path_shorter : (Holds : ℕ → ℕ → Type 0) (steps more node : ℕ) → HasPath Holds (steps + more) node
    → HasPath Holds steps node
path_shorter Holds steps zero node h = rw add-zero at h
path_shorter Holds steps (suc more) node h =
    path_shorter Holds steps more node (path_front Holds (steps + more) node (rw add-suc at h))

-- where other nodes hold no less
pub path_by : (Holds Others : ℕ → ℕ → Type 0) (steps node : ℕ)
    → ((holder part : ℕ) → Holds holder part → Others holder part) → HasPath Holds steps node
    → HasPath Others steps node
unfolding HasPath
path_by Holds Others zero node by h = tt
path_by Holds Others (suc steps) node by h =
    record { part = h.part; holds = by node h.part h.holds; meant = path_by Holds Others steps h.part by h.meant }

-- where a step more loses no node, none does
pub path_endless : (Holds : ℕ → ℕ → Type 0) (steps : ℕ)
    → ((node : ℕ) → HasPath Holds steps node → HoldsOne Holds (HasPath Holds steps) node)
    → (more node : ℕ) → HasPath Holds steps node → HasPath Holds more node
unfolding HasPath
path_endless Holds steps stays zero node h = tt
path_endless Holds steps stays (suc more) node h =
    one_of_more Holds (HasPath Holds steps) (HasPath Holds more) node (path_endless Holds steps stays more)
    (stays node h)

-- where each node that is meant holds one, paths from it have no end
pub endless : (Holds : ℕ → ℕ → Type 0) (Meant : ℕ → Type 0) → ((node : ℕ) → Meant node → HoldsOne Holds Meant node)
    → (steps node : ℕ) → Meant node → HasPath Holds steps node
unfolding HasPath
endless Holds Meant each zero node h = tt
endless Holds Meant each (suc steps) node h =
    one_of_more Holds Meant (HasPath Holds steps) node (endless Holds Meant each steps) (each node h)

-- a path of a step
pub first_step : (Holds : ℕ → ℕ → Type 0) (steps node : ℕ) → HasPath Holds (suc steps) node
    → HoldsOne Holds (HasPath Holds steps) node
unfolding HasPath
first_step Holds steps node h = h

-- ---- shallow nodes

-- what holds of all holds of the one at a place
all_at : (P : ℕ → Type 0) (xs : List ℕ) (place x : ℕ) → slice_get xs place ≡ Some x → AllByRecursion P xs → P x
all_at P [] place x there all = absurd cc
all_at P (y ∷ xs) zero x there all = let e : y ≡ x = cc in subst P e all.0
all_at P (y ∷ xs) (suc place) x there all = all_at P xs place x there all.1

all_from : (P : ℕ → Type 0) (xs : List ℕ) → ((place x : ℕ) → slice_get xs place ≡ Some x → P x) → AllByRecursion P xs
all_from P [] each = tt
all_from P (x ∷ xs) each = (each 0 x refl, all_from P xs (λ place y there. each (suc place) y there))

-- from a shallow node no path leads as long
pub shallow_no_path : (types : Types) (token levels node : ℕ) → IsShallow levels types.nodes node
    → HasPath (HoldsBy types token) levels node → ⊥
unfolding IsShallow HasPath
shallow_no_path types token zero node shallow path = absurd shallow
shallow_no_path types token (suc levels) node shallow path =
    shallow_no_path types token levels path.part
    (all_at (IsShallow levels types.nodes) (held_by (node_at types.nodes node)) path.holds.place path.part
    path.holds.there shallow) path.meant

-- a node is shallow from which none does by any member
pub no_path_shallow : (types : Types) (token : ℕ) → ((node place : ℕ) → token_at types node place ≤ token)
    → (levels node : ℕ) → (HasPath (HoldsBy types token) levels node → ⊥) → IsShallow levels types.nodes node
unfolding IsShallow HasPath
no_path_shallow types token all zero node none = none tt
no_path_shallow types token all (suc levels) node none =
    all_from (IsShallow levels types.nodes) (held_by (node_at types.nodes node))
    (λ place part there. no_path_shallow types token all levels part
    (λ path. none (record {
      part = part;
      holds =
          record { place = place; there = there; early = all node place };
      meant = path;
    })))

-- ---- sites

-- what goes round by the members up to a token does up to each later one
pub round_later : (types : Types) (token later : ℕ) → token ≤ later → GoesRoundBy types token → GoesRoundBy types later
round_later types token later le h = record {
  node = h.node;
  within = h.within;
  endless = λ steps. path_by (HoldsBy types token) (HoldsBy types later) steps h.node
      (λ holder part holds. record { place = holds.place; there = holds.there; early = omega (arith, holds.early) })
      (h.endless steps);
}

-- up to the last one too
pub round_last : (types : Types) (token last : ℕ) → ((node place : ℕ) → token_at types node place ≤ last)
    → GoesRoundBy types token → GoesRoundBy types last
round_last types token last all h = record {
  node = h.node;
  within = h.within;
  endless = λ steps. path_by (HoldsBy types token) (HoldsBy types last) steps h.node
      (λ holder part holds. record { place = holds.place; there = holds.there; early = all holder holds.place })
      (h.endless steps);
}

-- no node is shallow on a circle
pub round_not_shallow : (types : Types) (token : ℕ) → (h : GoesRoundBy types token) → (levels : ℕ)
    → IsShallow levels types.nodes h.node → ⊥
round_not_shallow types token h levels shallow = shallow_no_path types token levels h.node shallow (h.endless levels)

-- a number past the end holds nothing
pub holds_within : (types : Types) (token : ℕ) (Meant : ℕ → Type 0) (node : ℕ) → length types.nodes ≤ node
    → HoldsOne (HoldsBy types token) Meant node → ⊥
holds_within types token Meant node past h =
    let there = subst (λ (n : Node). slice_get (held_by n) h.holds.place ≡ Some h.part)
    (get_or_past types.nodes node Octet past) h.holds.there in
    absurd cc
