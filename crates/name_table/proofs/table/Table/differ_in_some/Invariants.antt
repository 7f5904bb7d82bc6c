use Rattle.std.proofs.Common.{◌≡◌, drop}
use Rattle.std.specs.List.{list_any}
use Rattle.name_table.specs.Features.{differ_in}
use Rattle.name_table.proofs.table.Table.differ_in_some.Given as goal

abbrev pub invariant-loop-word : goal.invariant-loop-word
invariant-loop-word l = list_any (λ w. differ_in l.self l.inner.0 l.base w.text.now) (drop l.word-index l.words)
    ≡ list_any (λ w. differ_in l.self l.inner.0 l.base w.text.now) l.words
