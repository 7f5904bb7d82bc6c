use Rattle.std.proofs.Common.{drop}
use Rattle.name_table.specs.inner.SeveralBases.{IsDone}
use Rattle.name_table.proofs.table.Table.others_with.Given as goal

abbrev pub invariant-loop-word : goal.invariant-loop-word
invariant-loop-word l = IsDone l.self l.inner.0 l.base l.heir.others.entries l.others.entries
    (drop l.word-index l.words)
