-- Going down while a node has one part.
use Rattle.std.proofs.Common.{◌≡◌, ℕ, zero, suc, ◌-◌, ◌<◌, Bool, true, false, List, Option, if◌then◌else◌, refl, ap, ◌∙◌, arith}
use Rattle.type_graph.specs.declared.node.Node.{Node}
use Rattle.type_graph.specs.Value.{node_at}
use Rattle.routine_checker.specs.Taking.{only_part, is_one}
use Rattle.routine_checker.specs.inner.Kinds.{part_holds}

-- one level down
pub one_next : (levels : ℕ) (holds : Node → Bool) (graph : List Node) (number : ℕ) → 0 < levels
    → is_one levels holds graph number
    ≡ (if holds (node_at graph number) then true
    else only_part (is_one (levels - 1) holds graph) (node_at graph number))
unfolding is_one
one_next zero holds graph number h = absurd (omega (arith, h))
one_next (suc levels) holds graph number h = let e : suc levels - 1 ≡ levels = omega arith in rw e refl

-- the node itself
pub one_here : (levels : ℕ) (holds : Node → Bool) (graph : List Node) (number : ℕ) → 0 < levels
    → holds (node_at graph number) ≡ true → is_one levels holds graph number ≡ true
one_here levels holds graph number h e = one_next levels holds graph number h
    ∙ ap (λ b. if b then true else only_part (is_one (levels - 1) holds graph) (node_at graph number)) e

-- the only part, if there is one
pub one_below : (levels : ℕ) (holds : Node → Bool) (graph : List Node) (number : ℕ) (part : Option ℕ) → 0 < levels
    → holds (node_at graph number) ≡ false
    → ((test : ℕ → Bool) → only_part test (node_at graph number) ≡ part_holds test part)
    → is_one levels holds graph number ≡ part_holds (is_one (levels - 1) holds graph) part
one_below levels holds graph number part h e only =
    one_next levels holds graph number h
    ∙ ap (λ b. if b then true else only_part (is_one (levels - 1) holds graph) (node_at graph number)) e
    ∙ only (is_one (levels - 1) holds graph)
