use Rattle.table_file.proofs.PassLaws.{then_passes, else_stops}
use Rattle.table_file.proofs.part.Tuple2Part.pass.Goals as goal

pub returns-then-pass : goal.returns-then-pass
returns-then-pass g c =
    then_passes g.A.Part.spelled g.B.Part.spelled g.met.A.Part.is_code _ _ _ _ _ c.if-pass.true c.pass.ensures
    c.pass-then-pass.ensures

pub returns-else-pass : goal.returns-else-pass
returns-else-pass g c =
    rw c.if-pass.false
    (else_stops g.A.Part.spelled g.B.Part.spelled g.met.B.Part.has_one _ _ _ c.if-pass.false c.pass.ensures)
