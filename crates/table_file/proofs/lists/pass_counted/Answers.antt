use Rattle.std.proofs.Common.{refl}
use Rattle.table_file.proofs.PassedLists.{count_is, list_passes, list_short, no_count}
use Rattle.table_file.proofs.lists.pass_counted.Goals as goal

pub returns-in_default : goal.returns-in_default
returns-in_default g c =
    no_count g.T.Part.spelled _ _ _ refl
    (list_short g.T.Part.spelled g.met.T.Part.has_one _ _ c.in_default.ensures.octets c.in_default.ensures.short
    c.in_default.ensures.none)

pub returns-then-pass_run : goal.returns-then-pass_run
returns-then-pass_run g c =
    count_is g.T.Part.spelled _ _ _ _ _ c.if-pass_run.true c.in-Some.ensures.passed c.pass_run.ensures

pub returns-else-pass_run : goal.returns-else-pass_run
returns-else-pass_run g c =
    no_count g.T.Part.spelled _ _ _ c.if-pass_run.false
    (list_passes g.T.Part.spelled _ _ _ _ _ c.in-Some.ensures.passed c.pass_run.ensures)
