use Rattle.std.proofs.Common.{length, ap, sym, ◌∙◌}
use Rattle.type_graph.specs.Words.{octets_in}
use Rattle.program_output.proofs.TurnedWords.{length-in_order}
use Rattle.program_output.proofs.waiting.Waiting.put.Goals as goal

pub turn_words_at-requires-clause-room : goal.turn_words_at-requires-clause-room
turn_words_at-requires-clause-room c =
    let w = c.self.inside in
    c.requires ∙ sym (ap length c.self.view_is)
    ∙ length-in_order w.order (octets_in w.width) w.n w.words.now c.self.invariant

pub turn_words_at-requires-in-Little-Two-clause-room : goal.turn_words_at-requires-in-Little-Two-clause-room
turn_words_at-requires-in-Little-Two-clause-room c =
    let w = c.self.inside in
    c.requires ∙ sym (ap length c.self.view_is)
    ∙ length-in_order w.order (octets_in w.width) w.n w.words.now c.self.invariant

pub turn_words_at-requires-in-Little-Four-clause-room : goal.turn_words_at-requires-in-Little-Four-clause-room
turn_words_at-requires-in-Little-Four-clause-room c =
    let w = c.self.inside in
    c.requires ∙ sym (ap length c.self.view_is)
    ∙ length-in_order w.order (octets_in w.width) w.n w.words.now c.self.invariant

pub turn_words_at-requires-in-Little-Eight-clause-room : goal.turn_words_at-requires-in-Little-Eight-clause-room
turn_words_at-requires-in-Little-Eight-clause-room c =
    let w = c.self.inside in
    c.requires ∙ sym (ap length c.self.view_is)
    ∙ length-in_order w.order (octets_in w.width) w.n w.words.now c.self.invariant
