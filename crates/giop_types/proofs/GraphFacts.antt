-- The types of GIOP keep the rules of a graph.
use Rattle.std.proofs.Common.{◌≡◌, ℕ, zero, suc, ◌+◌, ◌<◌, ◌≤◌, Bool, true, ◌&&◌, List, [], ◌∷◌, length, refl, subst, arith, nat_lt, pos, None}
use Rattle.std.specs.Prelude.{◌<ℤ◌}
use Rattle.std.specs.List.{AllByRecursion, EachIndex, list_all}
use Rattle.std.proofs.lemmas.Bool.{and_parts, ltb-true}
use Rattle.std.proofs.lemmas.List.Elements.{All-from_recursion}
use Rattle.type_graph.specs.declared.node.Node.{Node}
use Rattle.type_graph.specs.declared.node.Node.TheVariants.{Struct}
use Rattle.type_graph.specs.Value.{node_at, IsNumber}
use Rattle.type_graph.specs.GraphRules.{held_by, IsNode, IsPart, AreMembers, IsUnion, label_at, IsShallow, IsGraph}
use Rattle.giop_types.specs.GiopNodes.{giop_nodes}

-- each node holds nodes before it alone
abbrev falls : ℕ → List Node → Bool
falls k [] = true
falls k (node ∷ more) = list_all (λ number. nat_lt number k) (held_by node) && falls (suc k) more

falls_at : (k : ℕ) (nodes : List Node) → falls k nodes ≡ true → (i : ℕ)
    → list_all (λ number. nat_lt number (i + k)) (held_by (node_at nodes i)) ≡ true
falls_at k [] e i = refl
falls_at k (node ∷ more) e zero =
    let same : k ≡ 0 + k = omega arith in
    subst (λ (n : ℕ). list_all (λ number. nat_lt number n) (held_by node) ≡ true) same
    (and_parts (list_all (λ number. nat_lt number k) (held_by node)) (falls (suc k) more) e).0
falls_at k (node ∷ more) e (suc i) =
    let p = and_parts (list_all (λ number. nat_lt number k) (held_by node)) (falls (suc k) more) e in
    let same : i + suc k ≡ suc i + k = omega arith in
    subst (λ (n : ℕ). list_all (λ number. nat_lt number n) (held_by (node_at more i)) ≡ true) same
    (falls_at (suc k) more p.1 i)

held_below : (P : ℕ → Type 0) (k : ℕ) (numbers : List ℕ) → list_all (λ number. nat_lt number k) numbers ≡ true
    → ((number : ℕ) → number < k → P number) → AllByRecursion P numbers
held_below P k [] e each = tt
held_below P k (number ∷ more) e each =
    let p = and_parts (nat_lt number k) (list_all (λ n. nat_lt n k) more) e in
    (each number (ltb-true number k p.0), held_below P k more p.1 each)

falling_shallow : (graph : List Node) → falls 0 graph ≡ true → (levels number : ℕ) → number < levels
    → IsShallow levels graph number
unfolding IsShallow
falling_shallow graph e zero number within = absurd (omega (arith, within))
falling_shallow graph e (suc levels) number within =
    held_below (IsShallow levels graph) (number + 0) (held_by (node_at graph number)) (falls_at 0 graph e number)
    (λ n below. falling_shallow graph e levels n (omega (arith, within, below)))

each_shallow : EachIndex giop_nodes (IsShallow 64 giop_nodes)
each_shallow number within = falling_shallow giop_nodes refl 64 number (omega (arith, within))

members : (numbers : List ℕ) → length numbers ≤ 1024 → AllByRecursion (IsPart giop_nodes) numbers
    → AreMembers giop_nodes numbers
members numbers limited parts =
    record { limited = limited; parts = All-from_recursion (IsPart giop_nodes) numbers parts }

-- a union without a default over three ways
targets : IsUnion giop_nodes 3 ((pos 0, 10) ∷ (pos 1, 11) ∷ (pos 2, 15) ∷ []) None
targets = record {
  switches = tt;
  limited = omega arith;
  rising = rises;
  labels = All-from_recursion (λ arm. IsNumber (node_at giop_nodes 3) arm.0)
      ((pos 0, 10) ∷ (pos 1, 11) ∷ (pos 2, 15) ∷ []) (omega arith, (omega arith, (omega arith, tt)));
  parts = All-from_recursion (λ arm. IsPart giop_nodes arm.1) ((pos 0, 10) ∷ (pos 1, 11) ∷ (pos 2, 15) ∷ [])
      (tt, (tt, (tt, tt)));
  default_part = tt;
  needed = tt;
} where
  rises : (place : ℕ) → suc place < 3
      → label_at ((pos 0, 10) ∷ (pos 1, 11) ∷ (pos 2, 15) ∷ []) place <ℤ label_at
      ((pos 0, 10) ∷ (pos 1, 11) ∷ (pos 2, 15) ∷ []) (suc place)
  rises zero within = omega arith
  rises (suc zero) within = omega arith
  rises (suc (suc place)) within = absurd (omega (arith, within))

some : (numbers : List ℕ) → 0 < length numbers → length numbers ≤ 1024 → AllByRecursion (IsPart giop_nodes) numbers
    → IsNode giop_nodes (Struct numbers)
some numbers there limited parts = (there, members numbers limited parts)

each_node : AllByRecursion (IsNode giop_nodes) giop_nodes
each_node = (
  tt,
  (
    tt,
    (
      tt,
      (
        tt,
        (
          tt,
          (
            tt,
            (
              tt,
              (
                tt,
                (
                  tt,
                  (
                    omega arith,
                    (
                      (tt, omega arith),
                      (
                        some (6 ∷ 10 ∷ []) (omega arith) (omega arith) (tt, (tt, tt)),
                        (
                          (tt, omega arith),
                          (
                            some (9 ∷ 12 ∷ []) (omega arith) (omega arith) (tt, (tt, tt)),
                            (
                              (tt, omega arith, omega arith),
                              (
                                some (6 ∷ 13 ∷ []) (omega arith) (omega arith) (tt, (tt, tt)),
                                (
                                  targets,
                                  (
                                    some (6 ∷ 0 ∷ 14 ∷ 16 ∷ 9 ∷ 12 ∷ []) (omega arith) (omega arith)
                                        (tt, (tt, (tt, (tt, (tt, (tt, tt)))))),
                                    (
                                      (omega arith, omega arith),
                                      (
                                        some (6 ∷ 18 ∷ 12 ∷ []) (omega arith) (omega arith) (tt, (tt, (tt, tt))),
                                        (
                                          some (6 ∷ 16 ∷ []) (omega arith) (omega arith) (tt, (tt, tt)),
                                          (
                                            some (6 ∷ 6 ∷ []) (omega arith) (omega arith) (tt, (tt, tt)),
                                            (
                                              some (6 ∷ []) (omega arith) (omega arith) (tt, tt),
                                              (
                                                members (9 ∷ 6 ∷ 6 ∷ []) (omega arith) (tt, (tt, (tt, tt))),
                                                (
                                                  some (0 ∷ 0 ∷ 9 ∷ 4 ∷ 10 ∷ []) (omega arith) (omega arith)
                                                      (tt, (tt, (tt, (tt, (tt, tt))))),
                                                  (
                                                    some (0 ∷ 0 ∷ 9 ∷ 4 ∷ 10 ∷ 12 ∷ []) (omega arith) (omega arith)
                                                        (tt, (tt, (tt, (tt, (tt, (tt, tt)))))),
                                                    (
                                                      members (9 ∷ []) (omega arith) (tt, tt),
                                                      (
                                                        members (2 ∷ []) (omega arith) (tt, tt),
                                                        (members [] (omega arith) tt, tt),
                                                      ),
                                                    ),
                                                  ),
                                                ),
                                              ),
                                            ),
                                          ),
                                        ),
                                      ),
                                    ),
                                  ),
                                ),
                              ),
                            ),
                          ),
                        ),
                      ),
                    ),
                  ),
                ),
              ),
            ),
          ),
        ),
      ),
    ),
  ),
)

pub giop_is_graph : IsGraph giop_nodes
giop_is_graph = record {
  limited = omega arith;
  nodes = All-from_recursion (IsNode giop_nodes) giop_nodes each_node;
  members = omega arith;
  shallow = each_shallow;
}
