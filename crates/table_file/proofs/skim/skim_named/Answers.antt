use Rattle.std.proofs.Common.{ℕ, List}
use Rattle.std.proofs.lemmas.Result.{err_from_is_err_and}
use Rattle.table_file.specs.Octets.{spelled_list}
use Rattle.table_file.specs.Spelling.{spelled_name}
use Rattle.table_file.specs.inner.ListCodes.{list_code}
use Rattle.table_file.specs.inner.PartCodes.{name_code}
use Rattle.table_file.specs.inner.Skimming.{AreNamed, IsAtMost, IsSize, declared_weight, no_weight, spelled_declared}
use Rattle.table_file.proofs.SkimLaws.{both_told, first_skim_fails}
use Rattle.table_file.proofs.skim.skim_named.Goals as goal

pub returns-in_err-names : goal.returns-in_err-names
returns-in_err-names c =
    let p = err_from_is_err_and c.from_residual.result c.from_residual.ensures.1 in
    rw (p.1, p.2) (first_skim_fails (spelled_list spelled_name) spelled_declared (IsSize (no_weight {A = List ℕ × ℕ}))
    AreNamed _ _ _ c.in_err-names.ensures)

pub returns : goal.returns
returns c =
    both_told (spelled_list spelled_name) spelled_declared (list_code spelled_name name_code)
    (IsSize (no_weight {A = List ℕ × ℕ})) (IsAtMost declared_weight) c.in_ok-names.names c.skim-declared.result
    c.both.result _ _ _
    c.both.ensures c.in_ok-names.ensures c.skim-declared.ensures
