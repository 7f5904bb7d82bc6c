use Rattle.std.proofs.Common.{◌≡◌, ◌<◌, ◌++◌, ◌∷◌, [], inr, ap, arith, length}
use Rattle.std.proofs.lemmas.List.{length-append}
use Rattle.type_faults.proofs.Found.{cut_stands, found_part, found_stuck, stands_more}
use Rattle.type_faults.proofs.all_faults.type_faults.Goals as goal

pub returns-in-Stuck : goal.returns-in-Stuck
returns-in-Stuck c =
    cut_stands c.args.tokens.now c.args.most c.loop.refused.items c.loop.first.items c.cut-in-Stuck.result
    c.loop.invariant.stands (ap (λ v. v.items) c.cut-in-Stuck.ensures.first) c.cut-in-Stuck.ensures.more
    (inr (inr (found_stuck c.args.tokens.now c.as_slice.result.now c.loop.refused.items c.in_ok-next_refused.field-0
    c.in-Stuck.is c.as_slice.ensures.value c.in_ok-next_refused.ensures)))

pub loop-preserved : goal.loop-preserved
loop-preserved c =
    let pushed : c.push.new.self.items ≡ c.loop.refused.items ++ c.in-Part.part ∷ [] =
    c.in_ok-push-in-Part.ensures.items in
    let room : length c.loop.first.items < c.args.most = grind arith in
    record {
      stands =
          stands_more c.args.tokens.now c.args.most c.loop.refused.items c.push.new.self.items c.loop.first.items
          c.tell.new.first.items c.in-Part.part c.in-Part.fault c.loop.invariant.stands room
          (found_part c.args.tokens.now c.as_slice.result.now c.loop.refused.items c.in_ok-next_refused.field-0
          c.in-Part.part c.in-Part.fault c.in-Part.is c.as_slice.ensures.value c.in_ok-next_refused.ensures)
          pushed c.in_ok-tell-in-Part.ensures;
      counted = rw pushed (omega
          (arith, length-append c.loop.refused.items (c.in-Part.part ∷ []), c.loop.invariant.counted));
    }
