use Rattle.std.proofs.Common.{All, take}
use Rattle.type_graph.specs.GraphRules.{IsNode}
use Rattle.type_graph.proofs.rules.find_in_nodes.Given as goal

abbrev pub invariant-loop-number : goal.invariant-loop-number
invariant-loop-number l = All (IsNode l.nodes) (take l.number l.nodes)
