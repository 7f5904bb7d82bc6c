-- Faults of lists worked out by hand.
use Rattle.std.proofs.Common.{◌≡◌, ℕ, zero, suc, max, ◌<◌, ◌≤◌, List, [], ◌∷◌, Some, slice_get, refl, subst, arith}
use Rattle.idl_tree.specs.declared.names.At.{At}
use Rattle.type_graph.specs.declared.node.Node.{Node}
use Rattle.type_graph.specs.declared.node.Node.TheVariants.{Struct}
use Rattle.type_paths.specs.declared.fault.PathFault.TheVariants.{SelfHeld}
use Rattle.type_paths.specs.Sites.{Sites, Types, token_at}
use Rattle.type_paths.specs.Paths.{ClosesCircle, HoldsBy, HoldsOne, HasPath, IsPathFault}
use Rattle.type_paths.proofs.PathLaws.{endless, first_step}

-- what a structure of one member holds
only : (member place part : ℕ) → slice_get (member ∷ []) place ≡ Some part → (place ≡ 0) × (part ≡ member)
only member zero part there = let e : Some member ≡ Some part = there in (refl, cc)
only member (suc place) part there = absurd cc

-- ---- struct A { A x; }; in one line

abbrev site : ℕ → ℕ → At
site token line = record { token = token; line = line }

abbrev own_nodes : List Node
own_nodes = Struct (0 ∷ []) ∷ []

-- A and x stand there
abbrev own_sites : At → At → List Sites
own_sites s a = record { at = s; held = a ∷ [] } ∷ []

abbrev own : At → At → Types
own s a = record { nodes = own_nodes; first = 0; sites = own_sites s a }

own_holds : (s a : At) (node : ℕ) → node ≡ 0 → HoldsOne (HoldsBy (own s a) a.token) (λ part. part ≡ 0) node
own_holds s a zero is = record {
  part = 0;
  holds = record { place = 0; there = refl; early = omega arith };
  meant =
      refl;
}
own_holds s a (suc node) is = absurd (omega arith)

own_early : (s a : At) (token node part : ℕ) → HoldsBy (own s a) token node part → a.token ≤ token
own_early s a token zero part holds =
    subst (λ (p : ℕ). token_at (own s a) 0 p ≤ token) (only 0 holds.place part holds.there).0 holds.early
own_early s a token (suc node) part holds = let there = holds.there in absurd cc

-- it closes the circle
own_closes : (s a : At) → ClosesCircle (own s a) a.token
own_closes s a = record {
  round = record {
    node = 0;
    within = omega arith;
    endless =
        λ steps. endless (HoldsBy (own s a) a.token) (λ part. part ≡ 0) (own_holds s a) steps 0 refl;
  };
  first = λ less lt round.
      let step = first_step (HoldsBy (own s a) less) 0 round.node (round.endless 1) in
      let early = own_early s a less round.node step.part step.holds in
      omega arith;
}

-- x is the fifth token
pub holds_itself : IsPathFault own_nodes 0 (own_sites (site 1 1) (site 4 1)) (SelfHeld (site 4 1))
holds_itself = record { closes = own_closes (site 1 1) (site 4 1); line = refl }

-- ---- struct A; struct B; struct A { B x; }; struct B { A y; };

abbrev pair_nodes : List Node
pair_nodes = Struct (1 ∷ []) ∷ Struct (0 ∷ []) ∷ []

-- A and x, B and y stand there
abbrev pair_sites : At → At → At → At → List Sites
pair_sites s a t b = record { at = s; held = a ∷ [] } ∷ record { at = t; held = b ∷ [] } ∷ []

abbrev pair : At → At → At → At → Types
pair s a t b = record { nodes = pair_nodes; first = 0; sites = pair_sites s a t b }

pair_holds : (s a t b : At) (node : ℕ) → node < 2
    → HoldsOne (HoldsBy (pair s a t b) (max a.token b.token)) (λ part. part < 2) node
pair_holds s a t b zero lt =
    record { part = 1; holds = record { place = 0; there = refl; early = omega arith }; meant = omega arith }
pair_holds s a t b (suc zero) lt =
    record { part = 0; holds = record { place = 0; there = refl; early = omega arith }; meant = omega arith }
pair_holds s a t b (suc (suc node)) lt = absurd (omega arith)

-- what A holds, and what B does
a_holds : (s a t b : At) (token part : ℕ) → HoldsBy (pair s a t b) token 0 part → (a.token ≤ token) × (part ≡ 1)
a_holds s a t b token part holds =
    let is = only 1 holds.place part holds.there in
    (subst (λ (p : ℕ). token_at (pair s a t b) 0 p ≤ token) is.0 holds.early, is.1)

b_holds : (s a t b : At) (token part : ℕ) → HoldsBy (pair s a t b) token 1 part → (b.token ≤ token) × (part ≡ 0)
b_holds s a t b token part holds =
    let is = only 0 holds.place part holds.there in
    (subst (λ (p : ℕ). token_at (pair s a t b) 1 p ≤ token) is.0 holds.early, is.1)

-- two steps pass both members
pair_early : (s a t b : At) (token node : ℕ) → HasPath (HoldsBy (pair s a t b) token) 2 node
    → max a.token b.token ≤ token
pair_early s a t b token zero path =
    let step = first_step (HoldsBy (pair s a t b) token) 1 0 path in
    let here = a_holds s a t b token step.part step.holds in
    let next = first_step (HoldsBy (pair s a t b) token) 0 step.part step.meant in
    let there = b_holds s a t b token next.part
    (subst (λ (n : ℕ). HoldsBy (pair s a t b) token n next.part) here.1 next.holds) in
    omega (arith, here.0, there.0)
pair_early s a t b token (suc zero) path =
    let step = first_step (HoldsBy (pair s a t b) token) 1 1 path in
    let here = b_holds s a t b token step.part step.holds in
    let next = first_step (HoldsBy (pair s a t b) token) 0 step.part step.meant in
    let there = a_holds s a t b token next.part
    (subst (λ (n : ℕ). HoldsBy (pair s a t b) token n next.part) here.1 next.holds) in
    omega (arith, here.0, there.0)
pair_early s a t b token (suc (suc node)) path =
    let step = first_step (HoldsBy (pair s a t b) token) 1 (suc (suc node)) path in
    let there = step.holds.there in
    absurd cc

-- the later member closes the circle
pair_closes : (s a t b : At) → ClosesCircle (pair s a t b) (max a.token b.token)
pair_closes s a t b = record {
  round = record {
    node = 0;
    within = omega arith;
    endless =
        λ steps. endless (HoldsBy (pair s a t b) (max a.token b.token)) (λ part. part < 2) (pair_holds s a t b) steps 0
        (omega arith);
  };
  first = λ less lt round.
      let early = pair_early s a t b less round.node (round.endless 2) in
      omega arith;
}

-- struct A; in line 1, struct B { A y; }; in line 2, struct A { B x; }; in line 3
pub first_ahead : IsPathFault pair_nodes 0 (pair_sites (site 1 1) (site 15 3) (site 4 2) (site 7 2))
    (SelfHeld (site 15 3))
first_ahead = record { closes = pair_closes (site 1 1) (site 15 3) (site 4 2) (site 7 2); line = refl }

-- both ahead in line 1, struct A { B x; }; in line 2, struct B { A y; }; in line 3
pub both_ahead : IsPathFault pair_nodes 0 (pair_sites (site 1 1) (site 10 2) (site 4 1) (site 18 3))
    (SelfHeld (site 18 3))
both_ahead = record { closes = pair_closes (site 1 1) (site 10 2) (site 4 1) (site 18 3); line = refl }
