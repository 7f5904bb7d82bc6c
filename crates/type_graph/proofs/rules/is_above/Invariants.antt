use Rattle.std.proofs.Common.{◌≡◌, true, false, slice_index_or, All, take}
use Rattle.type_graph.specs.GraphRules.{held_by}
use Rattle.type_graph.proofs.rules.is_above.Given as goal

abbrev pub invariant-loop-place : goal.invariant-loop-place
invariant-loop-place l = All (λ number. slice_index_or l.table number false ≡ true) (take l.place (held_by l.node))
