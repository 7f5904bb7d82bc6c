use Rattle.std.proofs.lemmas.Result.{err_from_is_err_and}
use Rattle.table_file.specs.Spelling.{spelled_program}
use Rattle.table_file.specs.inner.PartCodes.{model_fields_code, spelled_model_fields}
use Rattle.table_file.specs.inner.Skimming.{IsModelSize, IsOldSize, IsProgramSize}
use Rattle.table_file.proofs.SkimLaws.{both_told, first_skim_fails}
use Rattle.table_file.proofs.skim.skim_old_fields.Goals as goal

pub returns-in_err-model : goal.returns-in_err-model
returns-in_err-model c =
    let p = err_from_is_err_and c.from_residual.result c.from_residual.ensures.1 in
    rw (p.1, p.2) (first_skim_fails spelled_model_fields spelled_program IsModelSize IsOldSize _ _ _
    c.in_err-model.ensures)

pub returns : goal.returns
returns c =
    both_told spelled_model_fields spelled_program model_fields_code IsModelSize IsProgramSize c.in_ok-model.model
    c.skim_list-first.result c.both.result _ _ _
    c.both.ensures c.in_ok-model.ensures c.skim_list-first.ensures
