use Rattle.table_file.specs.inner.Forms.{letter}
use Rattle.table_file.proofs.PassLaws.{else_stops, then_passes}
use Rattle.table_file.proofs.PassedFiles.{letter_code, letter_passes, letter_told, one_letter}
use Rattle.table_file.proofs.FormLaws.{last_letters, more_letters, one_last, one_more}
use Rattle.table_file.proofs.stop.pass_letters.Goals as goal

pub returns-then-is_none : goal.returns-then-is_none
returns-then-is_none c =
    else_stops (letter 73) more_letters one_more _ _ _ c.if-is_none.ensures (letter_passes 73 _ _ _ c.one_of.ensures)

pub returns-then-is_none-2 : goal.returns-then-is_none-2
returns-then-is_none-2 c =
    then_passes (letter 73) more_letters (letter_code 73) _ _ _ _ _ c.if-is_none.ensures
    (letter_passes 73 _ _ _ c.one_of.ensures)
    (else_stops (letter 68) last_letters one_last _ _ _ c.if-is_none-2.ensures
    (letter_passes 68 _ _ _ c.one_of-2.ensures))

pub returns-then-is_none-3 : goal.returns-then-is_none-3
returns-then-is_none-3 c =
    then_passes (letter 73) more_letters (letter_code 73) _ _ _ _ _ c.if-is_none.ensures
    (letter_passes 73 _ _ _ c.one_of.ensures)
    (then_passes (letter 68) last_letters (letter_code 68) _ _ _ _ _ c.if-is_none-2.ensures
    (letter_passes 68 _ _ _ c.one_of-2.ensures)
    (else_stops (letter 76) (letter 84) (one_letter 84) _ _ _ c.if-is_none-3.ensures
    (letter_passes 76 _ _ _ c.one_of-3.ensures)))

pub returns : goal.returns
returns c =
    then_passes (letter 73) more_letters (letter_code 73) _ _ _ _ _ c.if-is_none.ensures
    (letter_passes 73 _ _ _ c.one_of.ensures)
    (then_passes (letter 68) last_letters (letter_code 68) _ _ _ _ _ c.if-is_none-2.ensures
    (letter_passes 68 _ _ _ c.one_of-2.ensures)
    (then_passes (letter 76) (letter 84) (letter_code 76) _ _ _ _ _ c.if-is_none-3.ensures
    (letter_passes 76 _ _ _ c.one_of-3.ensures)
    (letter_told 84 _ _ _ _ c.is_some.ensures c.one_of-4.ensures)))
