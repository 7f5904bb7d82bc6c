use Rattle.std.proofs.Common.{rules}
use Rattle.type_paths.specs.Levels.{IsIn}
use Rattle.type_paths.specs.Paths.{HoldsBy, HoldsOne}
use Rattle.type_paths.proofs.TableLaws.{told_more}
use Rattle.type_paths.proofs.levels.level_above.Goals as goal

pub loop-number-preserved : goal.loop-number-preserved
loop-number-preserved c = record {
  long = search rules;
  above =
      rw c.in_ok-push.ensures.items
      (told_more (HoldsOne (HoldsBy c.args.types.now c.args.token) (IsIn c.args.table.now c.args.past))
      c.loop-number.next.items c.loop-number.number c.holds_one.result c.loop-number.invariant.long
      c.loop-number.invariant.above c.holds_one.ensures);
}
