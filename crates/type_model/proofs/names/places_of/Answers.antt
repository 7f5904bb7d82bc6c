use Rattle.std.proofs.Common.{◌∙◌, sym}
use Rattle.type_model.proofs.NameOrder.{twice_is, differ_first, differ_next, places_more}
use Rattle.type_model.proofs.names.places_of.Goals.{else-at-gt0-via-then-at-gt0+else-eq, else-at-gt0-via-else-at-gt0}
use Rattle.type_model.proofs.names.places_of.Goals as goal

pub returns-then-eq-clause-refused : goal.returns-then-eq-clause-refused
returns-then-eq-clause-refused c =
    twice_is c.args.keys.now c.loop-at.at _ _ c.if-at-gt0.true c.loop-at-test.true (sym c.eq.ensures ∙ c.if-eq.true)

pub loop-at-preserved : goal.loop-at-preserved
loop-at-preserved c = record {
  places = c.in_ok-push.ensures.items
      ∙ places_more c.args.keys.now c.loop-at.at c.loop-at.places.items _ c.loop-at-test.true
      c.loop-at.invariant.places;
  differ = elim c.else-at-gt0.branch [
    | else-at-gt0-via-then-at-gt0+else-eq w ↦
        differ_next c.args.keys.now c.loop-at.at _ _ c.loop-at-test.true c.loop-at.invariant.differ
        (sym w.eq.ensures ∙ w.if-eq.false)
    | else-at-gt0-via-else-at-gt0 w ↦ differ_first c.args.keys.now c.loop-at.at w.if-at-gt0.false
  ];
}
