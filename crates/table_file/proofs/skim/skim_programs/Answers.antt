use Rattle.std.proofs.lemmas.Result.{err_from_is_err_and}
use Rattle.table_file.specs.Spelling.{spelled_program}
use Rattle.table_file.specs.inner.PartCodes.{program_code}
use Rattle.table_file.specs.inner.Skimming.{AreProgramSizes, IsProgramSize}
use Rattle.table_file.proofs.SkimLaws.{both_told, first_skim_fails}
use Rattle.table_file.proofs.skim.skim_programs.Goals as goal

pub returns-in_err-first : goal.returns-in_err-first
returns-in_err-first c =
    let p = err_from_is_err_and c.from_residual.result c.from_residual.ensures.1 in
    rw (p.1, p.2) (first_skim_fails spelled_program spelled_program IsProgramSize AreProgramSizes _ _ _
    c.in_err-first.ensures)

pub returns : goal.returns
returns c =
    both_told spelled_program spelled_program program_code IsProgramSize IsProgramSize c.in_ok-first.first
    c.skim_list-second.result c.both.result _ _ _
    c.both.ensures c.in_ok-first.ensures c.skim_list-second.ensures
