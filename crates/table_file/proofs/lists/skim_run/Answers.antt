use Rattle.std.proofs.lemmas.Result.{err_from_is_err_and}
use Rattle.table_file.proofs.SkimLaws.{more_skimmed, none_skimmed, run_skim_fails, run_skims}
use Rattle.table_file.proofs.lists.skim_run.Goals as goal

pub items-init : goal.items-init
items-init g c = none_skimmed c.args.count g.T.Part.spelled g.T.Part.weight _

pub returns-in_err-weight : goal.returns-in_err-weight
returns-in_err-weight g c =
    let p = err_from_is_err_and c.from_residual.result c.from_residual.ensures.1 in
    rw (p.1, p.2) (run_skim_fails c.args.count g.T.Part.spelled g.met.T.Part.is_code g.T.Part.weight c.items.sum
    c.items.place _ _ _ c.items-test.true c.items.invariant _ c.in_err-weight.ensures)

pub items-preserved : goal.items-preserved
items-preserved g c =
    more_skimmed c.args.count g.T.Part.spelled g.met.T.Part.is_code g.T.Part.weight c.items.sum c.items.place _ _ _
    c.items-test.true c.items.invariant
    c.in_ok-weight.weight c.saturating_add-sum.result c.saturating_add-sum.ensures c.in_ok-weight.ensures

pub returns : goal.returns
returns g c =
    run_skims c.args.count g.T.Part.spelled g.T.Part.weight c.items.sum c.items.place _ _ c.items.auto.place-end
    c.items-test.false c.items.invariant
