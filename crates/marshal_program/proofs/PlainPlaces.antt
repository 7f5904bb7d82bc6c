-- The plain program of a graph, place by place.
use Rattle.std.proofs.Common.{◌≡◌, ◌∙◌, Bool, true, false, cond, ◌==◌, ◌&&◌, not, nat_lt, eq-eqb, None, inl, inr, sym, ℕ, zero, suc, ◌+◌, ◌<◌, List, [], ◌∷◌, length, Some, slice_get, slice_index_or, refl, ap, add-zero, zero-add, arith}
use Rattle.std.specs.List.{position_or_len}
use Rattle.std.proofs.lemmas.Bool.{lt-ltb, ltb-true}
use Rattle.std.proofs.lemmas.Bool.Decides.{eqb_tells}
use Rattle.type_graph.specs.declared.node.Node.{Node}
use Rattle.type_graph.specs.declared.node.Node.TheVariants.{Octet}
use Rattle.type_graph.specs.Value.{node_at}
use Rattle.marshal_program.specs.Plain.{plain_routine, plain_from, plain_program}
use Rattle.marshal_program.specs.Served.{is_serving, served_by}

-- numbers that differ aren't tested equal
not_eq : (a b : ℕ) → a < b → (a == b) ≡ false
not_eq a b lt = elim (eqb_tells a b) as (λ v. (a == b) ≡ false) [
  | inl same ↦ absurd (omega (arith, same.1))
  | inr other ↦ other.0
]

length-plain_from : (graph : List Node) (from : ℕ) (list : List Node)
    → length (plain_from graph from list) ≡ length list
length-plain_from graph from [] = refl
length-plain_from graph from (node ∷ more) = ap suc (length-plain_from graph (suc from) more)

pub length-plain_program : (graph : List Node) → length (plain_program graph) ≡ length graph
length-plain_program graph = length-plain_from graph 0 graph

plain_from_at : (graph : List Node) (from : ℕ) (list : List Node) (k : ℕ) → k < length list
    → slice_get (plain_from graph from list) k ≡ Some (plain_routine graph (from + k) (slice_index_or list k Octet))
plain_from_at graph from [] k lt = absurd (omega arith)
plain_from_at graph from (node ∷ more) zero lt = rw add-zero refl
plain_from_at graph from (node ∷ more) (suc k) lt =
    plain_from_at graph (suc from) more k (omega arith)
    ∙ ap (λ (n : ℕ). Some (plain_routine graph n (slice_index_or more k Octet))) (omega arith)

-- the routine of a node stands at the node's place
pub plain_program_at : (graph : List Node) (k : ℕ) → k < length graph
    → slice_get (plain_program graph) k ≡ Some (plain_routine graph k (node_at graph k))
plain_program_at graph k lt = plain_from_at graph 0 graph k lt
    ∙ ap (λ (n : ℕ). Some (plain_routine graph n (node_at graph k))) (zero-add k)

-- the first routine of a node's number that may start everywhere stands at that number
serves_from : (graph : List Node) (from : ℕ) (list : List Node) (k : ℕ) → k < length list
    → position_or_len (is_serving (from + k)) (plain_from graph from list) ≡ k
serves_from graph from [] k lt = absurd (omega arith)
serves_from graph from (node ∷ more) zero lt =
    ap (λ (b : Bool). cond (not (b && true))
    (1 + position_or_len (is_serving (from + 0)) (plain_from graph (suc from) more)) 0)
    (eq-eqb from (from + 0) (omega arith))
serves_from graph from (node ∷ more) (suc k) lt =
    ap (λ (b : Bool). cond (not (b && true))
    (1 + position_or_len (is_serving (from + suc k)) (plain_from graph (suc from) more)) 0)
    (not_eq from (from + suc k) (omega arith))
    ∙ ap (λ (m : ℕ). 1 + m) (ap (λ (n : ℕ). position_or_len (is_serving n) (plain_from graph (suc from) more))
    (omega arith) ∙ serves_from graph (suc from) more k (omega arith))
    ∙ omega arith

pub plain_serves : (graph : List Node) (number : ℕ) → number < length graph
    → served_by (plain_program graph) number ≡ Some number
plain_serves graph number lt =
    let here : position_or_len (is_serving number) (plain_program graph) ≡ number =
    ap (λ (n : ℕ). position_or_len (is_serving n) (plain_program graph)) (sym (zero-add number))
    ∙ serves_from graph 0 graph number lt in
    let long = length-plain_program graph in
    let inside : nat_lt number (length (plain_program graph)) ≡ true =
    lt-ltb number (length (plain_program graph)) (omega (arith, long)) in
    ap (λ (n : ℕ). cond (nat_lt n (length (plain_program graph))) (Some n) None) here
    ∙ ap (λ (b : Bool). cond b (Some number) None) inside

-- what is served is a node of the graph, by the routine of its number
found_from : (graph : List Node) (node from : ℕ) (list : List Node)
    → position_or_len (is_serving node) (plain_from graph from list) < length (plain_from graph from list)
    → node ≡ from + position_or_len (is_serving node) (plain_from graph from list)
found_from graph node from [] lt = absurd (omega arith)
found_from graph node from (first ∷ more) lt =
    let rest : ℕ = position_or_len (is_serving node) (plain_from graph (suc from) more) in
    let at : Bool → ℕ = λ b. cond (not (b && true)) (1 + rest) 0 in
    elim (eqb_tells from node) as
    (λ v. node ≡ from + position_or_len (is_serving node) (plain_from graph from (first ∷ more))) [
      | inl same ↦
          let value : at (from == node) ≡ 0 = ap at same.0 in
          let here = same.1 in
          omega (arith, value, here)
      | inr other ↦
          let value : at (from == node) ≡ 1 + rest = ap at other.0 in
          let behind = found_from graph node (suc from) more (omega (arith, value, lt)) in
          omega (arith, value, behind)
    ]

cond_is : (b : Bool) (n k : ℕ) → cond b (Some n) None ≡ Some k → (b ≡ true) × (n ≡ k)
cond_is true n k e = (refl, cc)
cond_is false n k e = absurd cc

pub plain_served_is : (graph : List Node) (node routine : ℕ) → node < length graph
    → served_by (plain_program graph) node ≡ Some routine → node ≡ routine
plain_served_is graph node routine lt e = let there = plain_serves graph node lt in cc

pub plain_served_within : (graph : List Node) (node routine : ℕ) → served_by (plain_program graph) node ≡ Some routine
    → node < length graph
plain_served_within graph node routine e =
    let told = cond_is (nat_lt (position_or_len (is_serving node) (plain_program graph)) (length (plain_program graph)))
    (position_or_len (is_serving node) (plain_program graph)) routine e in
    let lt = ltb-true (position_or_len (is_serving node) (plain_program graph)) (length (plain_program graph)) told.0 in
    let is = found_from graph node 0 graph lt in
    let long = length-plain_program graph in
    omega (arith, lt, is, long)
