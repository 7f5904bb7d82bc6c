use Rattle.std.proofs.Common.{ℕ, List, ◌++◌, length, take, drop, replicate, ap, ◌∙◌}
use Rattle.program_output.specs.Orders.{turned}
use Rattle.program_output.proofs.TurnedWords.{last_turned}
use Rattle.program_output.proofs.turning.turn_last.Goals as goal

abbrev zeros : List ℕ
zeros = replicate 16 0

pub returns : goal.returns
returns g c =
    let words = c.args.words.now in
    c.copy_from_slice-2.ensures.after ∙ ap (take (length words)) c.turn.ensures
    ∙ ap (λ (xs : List ℕ). take (length words)
    (turned g.W.Words.width g.W.Words.count (xs ++ drop (length words) zeros))) c.copy_from_slice.ensures.after
    ∙ last_turned g.W.Words.width g.W.Words.count c.args.n words (drop (length words) zeros) c.requires.few
    c.requires.words
