use Rattle.std.proofs.Common.{length, ap, sym, ◌∙◌}
use Rattle.type_graph.specs.Words.{octets_in}
use Rattle.program_output.proofs.TurnedWords.{length-in_order}
use Rattle.program_output.proofs.waiting.Waiting.len.Goals as goal

pub returns-clause-value : goal.returns-clause-value
returns-clause-value c =
    let w = c.self.inside in
    sym (length-in_order w.order (octets_in w.width) w.n w.words.now c.self.invariant) ∙ ap length c.self.view_is
