use Rattle.std.proofs.Common.{◌≡◌, ◌<◌, ◌≤◌, ℕ, Some, slice_get}
use Rattle.type_graph.specs.GraphRules.{held_by}
use Rattle.type_paths.specs.Sites.{token_at}
use Rattle.type_paths.specs.Levels.{IsIn}
use Rattle.type_paths.proofs.levels.holds_one.Given as goal

abbrev pub invariant-loop-place : goal.invariant-loop-place
invariant-loop-place l =
    (place part : ℕ) → place < l.place → slice_get (held_by l.node) place ≡ Some part
    → token_at l.types l.number place ≤ l.token
    → IsIn l.table l.past part → ⊥
