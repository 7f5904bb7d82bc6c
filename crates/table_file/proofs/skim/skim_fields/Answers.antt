use Rattle.std.proofs.Common.{refl}
use Rattle.std.proofs.lemmas.Result.{err_from_is_err_and}
use Rattle.table_file.proofs.SkimLaws.{most_skim_fails, uses_skim}
use Rattle.table_file.proofs.skim.skim_fields.Goals as goal

pub returns-in_err-most : goal.returns-in_err-most
returns-in_err-most c =
    let p = err_from_is_err_and c.from_residual.result c.from_residual.ensures.1 in
    rw (p.1, p.2) (most_skim_fails _ _ _ c.in_err-most.ensures)

pub returns : goal.returns
returns c =
    uses_skim c.in_ok-most.most c.in_ok-most.most.0.1.0.count c.skim_run-uses.result c.both.result _ _ _ refl
    c.both.ensures c.in_ok-most.ensures c.skim_run-uses.ensures
