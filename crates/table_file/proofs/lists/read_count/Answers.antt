use Rattle.std.proofs.Common.{Err}
use Rattle.std.proofs.lemmas.Result.{err_from_is_err_and}
use Rattle.table_file.proofs.ListReads.{beyond, count_fails, list_reads, too_many}
use Rattle.table_file.proofs.lists.read_count.Goals as goal

pub returns-in_err-count-clause-refused : goal.returns-in_err-count-clause-refused
returns-in_err-count-clause-refused g c =
    let p = err_from_is_err_and c.from_residual.result c.from_residual.ensures.1 in
    rw (p.1, p.2) (count_fails g.T.Part.spelled _ _ _ c.in_err-count.ensures)

pub returns-then-count-len-clause-refused : goal.returns-then-count-len-clause-refused
returns-then-count-len-clause-refused g c =
    list_reads g.T.Part.spelled c.in_ok-count.field-0 (Err _) _ _ c.read.new.cursor c.in_ok-count.ensures
    (too_many g.T.Part.spelled g.met.T.Part.is_code c.in_ok-count.field-0 _ _ _
    (beyond _ _ _ c.len.ensures c.if-count-len.true))
