use Rattle.table_file.specs.Octets.{spelled_list}
use Rattle.table_file.specs.Spelling.{spelled_name, spelled_node}
use Rattle.table_file.specs.inner.Forms.{spelled_behind, spelled_counted}
use Rattle.table_file.proofs.PassLaws.{else_stops, then_passes}
use Rattle.table_file.proofs.FormLaws.{nodes_code, one_named}
use Rattle.table_file.proofs.stop.pass_new.Goals as goal

pub returns-then-pass : goal.returns-then-pass
returns-then-pass c =
    then_passes (spelled_list spelled_node) (spelled_counted spelled_name spelled_behind) nodes_code _ _ _ _ _
    c.if-pass.true
    c.pass.ensures c.pass_named.ensures

pub returns-else-pass : goal.returns-else-pass
returns-else-pass c =
    rw c.if-pass.false
    (else_stops (spelled_list spelled_node) (spelled_counted spelled_name spelled_behind) one_named _ _ _
    c.if-pass.false
    c.pass.ensures)
