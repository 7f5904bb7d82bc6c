use Rattle.std.proofs.Common.{Ok, Err}
use Rattle.std.proofs.lemmas.Result.{err_from_is_err_and}
use Rattle.table_file.proofs.ReadLaws.{first_fails, then_reads}
use Rattle.table_file.proofs.part.Tuple2Part.read.Goals as goal

pub returns-in_err-first : goal.returns-in_err-first
returns-in_err-first g c =
    let p = err_from_is_err_and c.from_residual.result c.from_residual.ensures.1 in
    rw (p.1, p.2) (first_fails g.A.Part.spelled g.B.Part.spelled _ _ _ c.in_err-first.ensures)

pub returns-in_err-second : goal.returns-in_err-second
returns-in_err-second g c =
    let p = err_from_is_err_and c.from_residual-in_err-second.result c.from_residual-in_err-second.ensures.1 in
    rw (p.1, p.2) (then_reads g.A.Part.spelled g.B.Part.spelled g.met.A.Part.is_code c.in_ok-first.first
    (Err c.in_err-second.field-0.0) _ _ _ c.in_ok-first.ensures c.in_err-second.ensures)

pub returns : goal.returns
returns g c =
    then_reads g.A.Part.spelled g.B.Part.spelled g.met.A.Part.is_code c.in_ok-first.first (Ok c.in_ok-second.second) _ _
    _ c.in_ok-first.ensures c.in_ok-second.ensures
