use Rattle.std.proofs.Common.{◌+◌}
use Rattle.name_table.specs.inner.Shortcuts.{LeadsTo}
use Rattle.name_table.proofs.table.Table.words_apart.Given as goal

abbrev pub invariant-loop-near : goal.invariant-loop-near
invariant-loop-near l = record {
  near : LeadsTo l.self l.fn.one l.words.items l.near;
  far : LeadsTo l.self l.fn.other l.words.items l.far;
}

abbrev pub decreases-loop-near : goal.decreases-loop-near
decreases-loop-near l = l.near.token + l.far.token
