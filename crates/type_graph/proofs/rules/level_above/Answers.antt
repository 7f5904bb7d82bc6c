use Rattle.std.proofs.Common.{◌↔◌, IsTrue, All, subst, rules}
use Rattle.std.proofs.lemmas.List.{get_or_read}
use Rattle.type_graph.specs.declared.node.Node.{Node}
use Rattle.type_graph.specs.declared.node.Node.TheVariants.{Octet}
use Rattle.type_graph.specs.GraphRules.{held_by}
use Rattle.type_graph.specs.inner.Levels.{IsIn}
use Rattle.type_graph.proofs.LevelLaws.{above_more}
use Rattle.type_graph.proofs.rules.level_above.Goals as goal

pub loop-node-preserved : goal.loop-node-preserved
loop-node-preserved c = record {
  long = search rules;
  above =
      let here = subst (λ (node : Node). IsTrue c.is_above.result ↔ All (IsIn c.args.table.now) (held_by node))
      (get_or_read c.args.nodes.now c.loop-node.node-index c.node-item.result c.loop-node-test.true c.node-item.is
      Octet) c.is_above.ensures in
      rw c.in_ok-push.ensures.items
      (above_more c.args.nodes.now c.args.table.now c.loop-node.next.items c.loop-node.node-index c.is_above.result
      c.loop-node.invariant.long c.loop-node.invariant.above here);
}
