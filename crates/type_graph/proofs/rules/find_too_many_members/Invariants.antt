use Rattle.std.proofs.Common.{◌≡◌, ◌+◌, take}
use Rattle.type_graph.specs.GraphRules.{all_members}
use Rattle.type_graph.proofs.rules.find_too_many_members.Given as goal

abbrev pub invariant-loop-number : goal.invariant-loop-number
invariant-loop-number l = l.left + all_members (take l.number l.nodes) ≡ 32768
