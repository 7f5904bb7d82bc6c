use Rattle.table_file.proofs.PassedLists.{PassedSoFar}
use Rattle.table_file.proofs.lists.pass_run.Given as goal

abbrev pub invariant-items : goal.invariant-items
invariant-items g l = PassedSoFar g.T.Part.spelled l.place l.initial.tail l.tail
