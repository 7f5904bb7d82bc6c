use Rattle.std.proofs.Common.{take_all, sym, subst, arith}
use Rattle.std.proofs.lemmas.List.Elements.{All-more, All-same}
use Rattle.type_graph.specs.GraphRules.{IsNode}
use Rattle.type_graph.proofs.rules.find_in_nodes.Goals as goal

pub loop-number-preserved : goal.loop-number-preserved
loop-number-preserved c =
    All-more (IsNode c.args.nodes.now) c.args.nodes.now c.loop-number.number c.index-nodes-number.result
    c.loop-number-test.true c.loop-number.invariant
    (subst (IsNode c.args.nodes.now) c.index-nodes-number.is c.in_default.ensures.ok)

pub returns-clause-none : goal.returns-clause-none
returns-clause-none c = All-same (IsNode c.args.nodes.now) _ _
    (sym (take_all c.loop-number.number c.args.nodes.now (omega arith))) c.loop-number.invariant
