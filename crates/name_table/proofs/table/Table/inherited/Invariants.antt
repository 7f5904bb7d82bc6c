use Rattle.std.proofs.Common.{◌≡◌}
use Rattle.name_table.specs.Search.{inherited}
use Rattle.name_table.proofs.table.Table.inherited.Given as goal

abbrev pub invariant-loop-found : goal.invariant-loop-found
invariant-loop-found l = inherited l.self l.place.token l.place.scope.0 l.word.text.now
    ≡ inherited l.self l.token l.fn.scope.0 l.word.text.now

abbrev pub decreases-loop-found : goal.decreases-loop-found
decreases-loop-found l = l.place.token
