use Rattle.std.proofs.Common.{sym, arith, rules}
use Rattle.std.proofs.lemmas.List.{get_or_read}
use Rattle.type_graph.specs.declared.node.Node.TheVariants.{Octet}
use Rattle.type_graph.proofs.ShapeLevels.{shape_pushed, shapes_all}
use Rattle.type_graph.proofs.shape.shapes_above.Goals as goal

pub loop-node-preserved : goal.loop-node-preserved
loop-node-preserved c = record {
  long = search rules;
  at =
      let is = sym (get_or_read c.args.nodes.now c.loop-node.node-index c.node-item.result c.loop-node-test.true
      c.node-item.is Octet) in
      rw c.in_ok-push.ensures.items
      (shape_pushed c.args.nodes.now c.args.table.now c.loop-node.next.items c.loop-node.node-index
      c.node-item.result c.shape_of.result c.loop-node.invariant.long is c.loop-node.invariant.at
      c.shape_of.ensures);
}

pub returns : goal.returns
returns c = shapes_all c.args.nodes.now c.args.table.now c.loop-node.next.items c.loop-node.node-index
    c.loop-node.invariant.long (omega arith) (omega arith) c.loop-node.invariant.at
