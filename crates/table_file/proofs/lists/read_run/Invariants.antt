use Rattle.std.proofs.Common.{◌≡◌, length}
use Rattle.table_file.proofs.ListReads.{SoFar}
use Rattle.table_file.proofs.lists.read_run.Given as goal

abbrev pub invariant-items : goal.invariant-items
invariant-items g l = record {
  long : length l.items.items ≡ l.place;
  so_far : SoFar l.count g.T.Part.spelled l.items.items l.initial.cursor l.cursor;
}
