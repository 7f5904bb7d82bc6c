use Rattle.std.proofs.Common.{◌≡◌, ◌-◌}
use Rattle.type_graph.specs.Walks.{lead_within, lead_of}
use Rattle.type_graph.proofs.shape.lead_from.Given as goal

abbrev pub invariant-loop : goal.invariant-loop
invariant-loop l = lead_within (64 - l.counter) l.nodes l.at ≡ lead_of l.nodes l.number
