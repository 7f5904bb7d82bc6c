use Rattle.std.proofs.Common.{◌≡◌, drop, ap, ◌∙◌, arith}
use Rattle.std.proofs.lemmas.List.{length-drop}
use Rattle.giop_messages.specs.declared.reply_streams.turn.Turn.TheVariants as turns
use Rattle.giop_messages.proofs.Steps.{goes, passes, turn_here}
use Rattle.giop_messages.proofs.reply_streams.heard.hear_all.Goals as goal

pub loop-at-preserved-in-Passes : goal.loop-at-preserved-in-Passes
loop-at-preserved-in-Passes c =
    let octets = c.args.octets.items in
    let at = c.loop-at.at in
    let rest_is : c.split_at.result.1.now ≡ drop at octets =
    c.split_at.ensures.back ∙ ap (drop at) c.as_slice.ensures.value in
    let t = turn_here c.args.id c.loop-at.held (drop at octets) c.split_at.result.1.now c.in_ok-run.field-0
    (turns.Passes c.in-Passes.run' c.in-Passes.len) rest_is c.in-Passes.is c.in_ok-run.ensures in
    record {
      within = omega (arith, t.part.1, length-drop at octets, c.loop-at.invariant.within);
      same = passes c.args.id c.args.run c.loop-at.held c.in-Passes.run' octets at c.in-Passes.len
          c.loop-at.invariant.same t;
    }

pub loop-at-preserved : goal.loop-at-preserved
loop-at-preserved c =
    let octets = c.args.octets.items in
    let at = c.loop-at.at in
    let rest_is : c.split_at.result.1.now ≡ drop at octets =
    c.split_at.ensures.back ∙ ap (drop at) c.as_slice.ensures.value in
    let t = turn_here c.args.id c.loop-at.held (drop at octets) c.split_at.result.1.now c.in_ok-run.field-0
    (turns.Goes c.in-Goes.run' c.in-Goes.len) rest_is c.in-Goes.is c.in_ok-run.ensures in
    record {
      within = omega (arith, t.part.1, length-drop at octets, c.loop-at.invariant.within);
      same = goes c.args.id c.args.run c.loop-at.held octets c.in-Goes.run' at c.in-Goes.len c.loop-at.invariant.same t;
    }
