use Rattle.std.proofs.lemmas.Result.{err_from_is_err_and}
use Rattle.table_file.proofs.ListReads.{list_reads}
use Rattle.table_file.proofs.lists.ItemsPart.read.Goals as goal

pub returns-in_err-count : goal.returns-in_err-count
returns-in_err-count g c =
    let p = err_from_is_err_and c.from_residual.result c.from_residual.ensures.1 in
    rw (p.1, p.2) c.in_err-count.ensures.refused

pub returns : goal.returns
returns g c =
    list_reads g.T.Part.spelled c.in_ok-count.count c.read_run.result _ _ _ c.in_ok-count.ensures.counted
    c.read_run.ensures
