use Rattle.std.proofs.Common.{◌<◌, arith}
use Rattle.table_file.specs.Spelling.{tagged_instr}
use Rattle.table_file.specs.inner.InstrCode.{is_align, is_octets, is_words, is_bools, is_enum_word, is_text, is_seq_octets, is_seq_bools, is_seq_words, instr_few, instr_code}
use Rattle.table_file.specs.inner.Ones.{one_instr}
use Rattle.table_file.proofs.PassLaws.{kind_passes, kinds_stop}
use Rattle.table_file.proofs.instrs.InstrPart.pass.Goals as goal

pub returns-in-Some-eq0 : goal.returns-in-Some-eq0
returns-in-Some-eq0 c =
    kind_passes is_align (λ n. n < 13) _ _ _ _ _ (omega (arith, c.in-Some-eq0.field-0-test)) c.in-Some-eq0.ensures
    c.pass.ensures

pub returns-in-Some-eq1 : goal.returns-in-Some-eq1
returns-in-Some-eq1 c =
    kind_passes is_octets (λ n. n < 13) _ _ _ _ _ (omega (arith, c.in-Some-eq1.field-0-test)) c.in-Some-eq1.ensures
    c.pass-in-Some-eq1.ensures

pub returns-in-Some-eq2 : goal.returns-in-Some-eq2
returns-in-Some-eq2 c =
    kind_passes is_words (λ n. n < 13) _ _ _ _ _ (omega (arith, c.in-Some-eq2.field-0-test)) c.in-Some-eq2.ensures
    c.pass-in-Some-eq2.ensures

pub returns-in-Some-eq3 : goal.returns-in-Some-eq3
returns-in-Some-eq3 c =
    kind_passes is_bools (λ n. n < 13) _ _ _ _ _ (omega (arith, c.in-Some-eq3.field-0-test)) c.in-Some-eq3.ensures
    c.pass-in-Some-eq3.ensures

pub returns-in-Some-eq4 : goal.returns-in-Some-eq4
returns-in-Some-eq4 c =
    kind_passes is_enum_word (λ n. n < 13) _ _ _ _ _ (omega (arith, c.in-Some-eq4.field-0-test)) c.in-Some-eq4.ensures
    c.pass-in-Some-eq4.ensures

pub returns-in-Some-eq5 : goal.returns-in-Some-eq5
returns-in-Some-eq5 c =
    kind_passes is_text (λ n. n < 13) _ _ _ _ _ (omega (arith, c.in-Some-eq5.field-0-test)) c.in-Some-eq5.ensures
    c.pass-in-Some-eq5.ensures

pub returns-in-Some-eq6 : goal.returns-in-Some-eq6
returns-in-Some-eq6 c =
    kind_passes is_seq_octets (λ n. n < 13) _ _ _ _ _ (omega (arith, c.in-Some-eq6.field-0-test)) c.in-Some-eq6.ensures
    c.pass-in-Some-eq6.ensures

pub returns-in-Some-eq7 : goal.returns-in-Some-eq7
returns-in-Some-eq7 c =
    kind_passes is_seq_bools (λ n. n < 13) _ _ _ _ _ (omega (arith, c.in-Some-eq7.field-0-test)) c.in-Some-eq7.ensures
    c.pass-in-Some-eq7.ensures

pub returns-in-Some-eq8 : goal.returns-in-Some-eq8
returns-in-Some-eq8 c =
    kind_passes is_seq_words (λ n. n < 13) _ _ _ _ _ (omega (arith, c.in-Some-eq8.field-0-test)) c.in-Some-eq8.ensures
    c.pass-in-Some-eq8.ensures

pub returns-in-None : goal.returns-in-None
returns-in-None c = kinds_stop tagged_instr 13 instr_few instr_code one_instr _ _ c.in-None.ensures
