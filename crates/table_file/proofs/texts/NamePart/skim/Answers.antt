use Rattle.std.proofs.Common.{ℕ, List}
use Rattle.std.proofs.lemmas.Result.{err_from_is_err_and}
use Rattle.table_file.specs.Octets.{spelled_ascii, spelled_text}
use Rattle.table_file.specs.inner.Skimming.{IsAtMost, no_weight}
use Rattle.table_file.proofs.ListReads.{count_fails}
use Rattle.table_file.proofs.SkimLaws.{list_skims, skim_fails}
use Rattle.table_file.proofs.texts.NamePart.skim.Goals as goal

pub returns-in_err-count : goal.returns-in_err-count
returns-in_err-count c =
    let p = err_from_is_err_and c.from_residual.result c.from_residual.ensures.1 in
    rw (p.1, p.2) (skim_fails spelled_text (IsAtMost (no_weight {A = List ℕ})) _ _ _
    (count_fails spelled_ascii _ _ _ c.in_err-count.ensures))

pub returns : goal.returns
returns c =
    list_skims spelled_ascii c.in_ok-count.field-0 (IsAtMost (no_weight {A = List ℕ})) c.skim_name.result _ _ _
    c.in_ok-count.ensures c.skim_name.ensures
