use Rattle.std.proofs.lemmas.Result.{err_from_is_err_and}
use Rattle.table_file.specs.Octets.{spelled_list}
use Rattle.table_file.specs.inner.Skimming.{IsSize}
use Rattle.table_file.proofs.SkimLaws.{size_fails, size_skims, skim_fails}
use Rattle.table_file.proofs.lists.skim_list.Goals as goal

pub returns-in_err-count : goal.returns-in_err-count
returns-in_err-count g c =
    let p = err_from_is_err_and c.from_residual.result c.from_residual.ensures.1 in
    rw (p.1, p.2) (skim_fails (spelled_list g.T.Part.spelled) (IsSize g.T.Part.weight) _ _ _
    c.in_err-count.ensures.refused)

pub returns-in-Ok : goal.returns-in-Ok
returns-in-Ok g c =
    size_skims g.T.Part.spelled c.in_ok-count.count c.in-Ok.weight g.T.Part.weight _ _ _ c.in_ok-count.ensures.counted
    c.in-Ok.ensures

pub returns-in-Err : goal.returns-in-Err
returns-in-Err g c =
    size_fails g.T.Part.spelled c.in_ok-count.count c.in-Err.fault g.T.Part.weight _ _ _ c.in_ok-count.ensures.counted
    c.in-Err.ensures
