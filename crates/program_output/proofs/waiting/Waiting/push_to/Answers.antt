use Rattle.std.proofs.Common.{length, ap, sym, ◌∙◌, arith}
use Rattle.type_graph.specs.Words.{octets_in}
use Rattle.program_output.proofs.TurnedWords.{length-in_order}
use Rattle.program_output.proofs.waiting.Waiting.push_to.Goals as goal

pub put-requires : goal.put-requires
put-requires c =
    let w = c.self.inside in
    let long = sym (ap length c.self.view_is)
    ∙ length-in_order w.order (octets_in w.width) w.n w.words.now c.self.invariant in
    let all = c.in_ok-resize.ensures.len in
    let rest = c.slice_mut.ensures.len in
    omega (arith, long, all, rest, c.len-end.ensures)
