use Rattle.table_file.specs.Spelling.{spelled_name}
use Rattle.table_file.specs.inner.Forms.{spelled_behind}
use Rattle.table_file.proofs.PassedFiles.{counted_passes, counted_stops}
use Rattle.table_file.proofs.FormLaws.{names_code, one_behind}
use Rattle.table_file.proofs.stop.pass_named.Goals as goal

pub returns-in-Some : goal.returns-in-Some
returns-in-Some c =
    counted_passes spelled_name spelled_behind names_code c.in-Some.names _ _ _ _ c.in-Some.ensures
    c.pass_behind.ensures

pub returns-in-None : goal.returns-in-None
returns-in-None c = counted_stops spelled_name spelled_behind names_code one_behind _ _ c.in-None.ensures
