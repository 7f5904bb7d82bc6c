use Rattle.std.proofs.Common.{◌≡◌, ◌≤◌, length}
use Rattle.name_table.specs.Search.{outwards, within_first}
use Rattle.name_table.proofs.table.Table.outwards.Given as goal

abbrev pub invariant-loop-found : goal.invariant-loop-found
invariant-loop-found l = record {
  inside : l.place.0 ≤ length l.self;
  same : within_first l.self l.token (outwards l.self l.place.0 l.place.0) l.word.text.now
      ≡ within_first l.self l.token (outwards l.self l.fn.scope.0 l.fn.scope.0) l.word.text.now;
}

abbrev pub decreases-loop-found : goal.decreases-loop-found
decreases-loop-found l = l.place.0
