use Rattle.std.proofs.Common.{◌∙◌, ◌-◌, ◌*◌, ◌++◌, ℕ, List, take, drop, ap, ap₂, arith}
use Rattle.program_output.specs.Orders.{turned}
use Rattle.program_output.proofs.TurnedWords.{turned_at, words_split}
use Rattle.program_output.proofs.turning.turn_words_at.Goals as goal

pub turn_words-requires-clause-words : goal.turn_words-requires-clause-words
turn_words-requires-clause-words g c =
    let first = c.first_words-first.result in
    let wide = ap (λ (k : ℕ). first * k) c.width.ensures.value in
    let split = words_split g.W.Words.width first c.args.n c.first_words-first.ensures.within in
    omega (arith, c.split_at.ensures.back_len, c.requires.words, wide, split)

pub returns : goal.returns
returns g c =
    let w = g.W.Words.width in
    let first = c.first_words-first.result in
    let words : List ℕ = c.args.words.now in
    let wide = ap (λ (k : ℕ). first * k) c.width.ensures.value in
    let front = c.split_at.ensures.front ∙ ap (λ (k : ℕ). take k words) wide in
    let back = c.split_at.ensures.back ∙ ap (λ (k : ℕ). drop k words) wide in
    ap₂ (λ (xs ys : List ℕ). xs ++ ys)
    (c.turn_last.ensures ∙ ap (turned w first) front)
    (c.turn_words.ensures ∙ ap (turned w (c.args.n - first)) back)
    ∙ turned_at w first c.args.n words c.first_words-first.ensures.within c.requires.words
