use Rattle.std.proofs.lemmas.Result.{err_from_is_err_and}
use Rattle.table_file.specs.inner.Skimming.{IsAtMost, weight_both}
use Rattle.table_file.proofs.SkimLaws.{both_weigh, first_skim_fails, second_skim_fails}
use Rattle.table_file.proofs.part.Tuple2Part.skim.Goals as goal

pub returns-in_err-first : goal.returns-in_err-first
returns-in_err-first g c =
    let p = err_from_is_err_and c.from_residual.result c.from_residual.ensures.1 in
    rw (p.1, p.2) (first_skim_fails g.A.Part.spelled g.B.Part.spelled (IsAtMost g.A.Part.weight)
    (IsAtMost (weight_both g.A.Part.weight g.B.Part.weight)) _ _ _ c.in_err-first.ensures)

pub returns-in_err-second : goal.returns-in_err-second
returns-in_err-second g c =
    let p = err_from_is_err_and c.from_residual-in_err-second.result c.from_residual-in_err-second.ensures.1 in
    rw (p.1, p.2) (second_skim_fails g.A.Part.spelled g.B.Part.spelled g.met.A.Part.is_code g.A.Part.weight
    g.B.Part.weight c.in_ok-first.first _ _ _ _ c.in_ok-first.ensures c.in_err-second.ensures)

pub returns : goal.returns
returns g c =
    both_weigh g.A.Part.spelled g.B.Part.spelled g.met.A.Part.is_code g.A.Part.weight g.B.Part.weight
    c.in_ok-first.first c.in_ok-second.second c.saturating_add.result _ _ _
    c.saturating_add.ensures c.in_ok-first.ensures c.in_ok-second.ensures
