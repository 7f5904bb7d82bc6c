use Rattle.table_file.specs.Octets.{spelled_pair, spelled_run}
use Rattle.table_file.specs.Spelling.{spelled_program}
use Rattle.table_file.specs.TableSpelling.{spelled_which}
use Rattle.table_file.specs.inner.Skimming.{spelled_declared}
use Rattle.table_file.proofs.PassLaws.{else_stops, then_passes}
use Rattle.table_file.proofs.FormLaws.{declared_code, one_rest, one_uses, programs_and_uses, programs_code}
use Rattle.table_file.proofs.stop.pass_behind.Goals as goal

pub returns-then-not-pass : goal.returns-then-not-pass
returns-then-not-pass c =
    else_stops spelled_declared (programs_and_uses c.args.names) (one_rest c.args.names) _ _ _ c.if-not-pass.true
    c.pass.ensures

pub returns-then-not-pass-2 : goal.returns-then-not-pass-2
returns-then-not-pass-2 c =
    then_passes spelled_declared (programs_and_uses c.args.names) declared_code _ _ _ _ _ c.if-not-pass.false
    c.pass.ensures
    (else_stops (spelled_pair spelled_program spelled_program) (spelled_run c.args.names spelled_which)
    (one_uses c.args.names) _ _ _ c.if-not-pass-2.true c.pass-2.ensures)

pub returns : goal.returns
returns c =
    then_passes spelled_declared (programs_and_uses c.args.names) declared_code _ _ _ _ _ c.if-not-pass.false
    c.pass.ensures
    (then_passes (spelled_pair spelled_program spelled_program) (spelled_run c.args.names spelled_which) programs_code _
    _ _ _ _
    c.if-not-pass-2.false c.pass-2.ensures c.pass_run.ensures)
