use Rattle.std.proofs.Common.{rules}
use Rattle.type_graph.proofs.KnownHeights.{heights_more}
use Rattle.type_graph.proofs.heights.find_heights.Goals as goal

pub loop-number-preserved : goal.loop-number-preserved
loop-number-preserved c = record {
  known = c.find_height.ensures.keeps c.loop-number.invariant.known;
  long = search rules;
  told =
      rw c.in_ok-push.ensures.items
      (heights_more c.args.graph.now c.loop-number.heights.items c.loop-number.number c.find_height.result
      c.loop-number.invariant.long c.loop-number.invariant.told
      (c.find_height.ensures.value c.loop-number.invariant.known));
}
