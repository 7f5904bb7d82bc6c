use Rattle.table_file.specs.inner.Forms.{spelled_form, spelled_letters}
use Rattle.table_file.proofs.PassLaws.{else_stops, then_passes}
use Rattle.table_file.proofs.FormLaws.{letters_code, one_form}
use Rattle.table_file.proofs.stop.pass_file.Goals as goal

pub returns-then-pass_letters : goal.returns-then-pass_letters
returns-then-pass_letters c =
    then_passes spelled_letters spelled_form letters_code _ _ _ _ _ c.if-pass_letters.true c.pass_letters.ensures
    c.pass_form.ensures

pub returns-else-pass_letters : goal.returns-else-pass_letters
returns-else-pass_letters c =
    rw c.if-pass_letters.false
    (else_stops spelled_letters spelled_form one_form _ _ _ c.if-pass_letters.false c.pass_letters.ensures)
