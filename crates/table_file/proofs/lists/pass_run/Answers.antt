use Rattle.std.proofs.Common.{◌≡◌, arith}
use Rattle.table_file.proofs.PassedLists.{none_passed, more_passed, run_passes, run_stops}
use Rattle.table_file.proofs.lists.pass_run.Goals as goal

pub items-init : goal.items-init
items-init g c = none_passed g.T.Part.spelled _

pub returns-then-not-pass : goal.returns-then-not-pass
returns-then-not-pass g c =
    run_stops c.args.count g.T.Part.spelled g.met.T.Part.is_code g.met.T.Part.has_one c.items.place _ _ _ _
    c.items-test.true
    c.if-not-pass.true c.items.invariant c.pass.ensures

pub items-preserved : goal.items-preserved
items-preserved g c =
    more_passed g.T.Part.spelled c.items.place _ _ _ _ c.if-not-pass.false c.items.invariant c.pass.ensures

pub returns : goal.returns
returns g c =
    let all : c.items.place ≡ c.args.count = omega (arith, c.items.auto.place-end, c.items-test.false) in
    run_passes c.args.count g.T.Part.spelled c.items.place _ _ all c.items.invariant
