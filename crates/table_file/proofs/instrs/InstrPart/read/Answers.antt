use Rattle.std.proofs.lemmas.Result.{err_from_is_err_and}
use Rattle.table_file.specs.Spelling.{spelled_instr}
use Rattle.table_file.specs.inner.InstrCode.{is_align, is_octets, is_words, is_bools, is_enum_word, is_text, is_seq_octets, is_seq_bools, is_seq_words, instr_code}
use Rattle.table_file.proofs.ReadLaws.{end_fails}
use Rattle.table_file.proofs.VariantReads.{kind_reads, kind_fails}
use Rattle.table_file.proofs.instrs.InstrPart.read.Goals as goal

pub returns-in_err-read-in-0 : goal.returns-in_err-read-in-0
returns-in_err-read-in-0 c =
    kind_fails is_align c.from_residual-in_err-read-in-0.result c.in-0.is c.in_ok-tag.ensures.taken
    c.in_err-read-in-0.ensures c.from_residual-in_err-read-in-0.ensures.1

pub returns-in_ok-read-in-0 : goal.returns-in_ok-read-in-0
returns-in_ok-read-in-0 c = kind_reads is_align c.in-0.is c.in_ok-tag.ensures.taken c.in_ok-read-in-0.ensures

pub returns-in_err-read-in-1 : goal.returns-in_err-read-in-1
returns-in_err-read-in-1 c =
    kind_fails is_octets c.from_residual-in_err-read-in-1.result c.in-1.is c.in_ok-tag.ensures.taken
    c.in_err-read-in-1.ensures c.from_residual-in_err-read-in-1.ensures.1

pub returns-in_ok-read-in-1 : goal.returns-in_ok-read-in-1
returns-in_ok-read-in-1 c = kind_reads is_octets c.in-1.is c.in_ok-tag.ensures.taken c.in_ok-read-in-1.ensures

pub returns-in_err-width-in-2 : goal.returns-in_err-width-in-2
returns-in_err-width-in-2 c =
    kind_fails is_words c.from_residual-in_err-width-in-2.result c.in-2.is c.in_ok-tag.ensures.taken
    c.in_err-width-in-2.ensures c.from_residual-in_err-width-in-2.ensures.1

pub returns-in_ok-width-in-2 : goal.returns-in_ok-width-in-2
returns-in_ok-width-in-2 c = kind_reads is_words c.in-2.is c.in_ok-tag.ensures.taken c.in_ok-width-in-2.ensures

pub returns-in_err-read-in-3 : goal.returns-in_err-read-in-3
returns-in_err-read-in-3 c =
    kind_fails is_bools c.from_residual-in_err-read-in-3.result c.in-3.is c.in_ok-tag.ensures.taken
    c.in_err-read-in-3.ensures c.from_residual-in_err-read-in-3.ensures.1

pub returns-in_ok-read-in-3 : goal.returns-in_ok-read-in-3
returns-in_ok-read-in-3 c = kind_reads is_bools c.in-3.is c.in_ok-tag.ensures.taken c.in_ok-read-in-3.ensures

pub returns-in_err-read-in-4 : goal.returns-in_err-read-in-4
returns-in_err-read-in-4 c =
    kind_fails is_enum_word c.from_residual-in_err-read-in-4.result c.in-4.is c.in_ok-tag.ensures.taken
    c.in_err-read-in-4.ensures c.from_residual-in_err-read-in-4.ensures.1

pub returns-in_ok-read-in-4 : goal.returns-in_ok-read-in-4
returns-in_ok-read-in-4 c = kind_reads is_enum_word c.in-4.is c.in_ok-tag.ensures.taken c.in_ok-read-in-4.ensures

pub returns-in_err-read-in-5 : goal.returns-in_err-read-in-5
returns-in_err-read-in-5 c =
    kind_fails is_text c.from_residual-in_err-read-in-5.result c.in-5.is c.in_ok-tag.ensures.taken
    c.in_err-read-in-5.ensures c.from_residual-in_err-read-in-5.ensures.1

pub returns-in_ok-read-in-5 : goal.returns-in_ok-read-in-5
returns-in_ok-read-in-5 c = kind_reads is_text c.in-5.is c.in_ok-tag.ensures.taken c.in_ok-read-in-5.ensures

pub returns-in_err-read-in-6 : goal.returns-in_err-read-in-6
returns-in_err-read-in-6 c =
    kind_fails is_seq_octets c.from_residual-in_err-read-in-6.result c.in-6.is c.in_ok-tag.ensures.taken
    c.in_err-read-in-6.ensures c.from_residual-in_err-read-in-6.ensures.1

pub returns-in_ok-read-in-6 : goal.returns-in_ok-read-in-6
returns-in_ok-read-in-6 c = kind_reads is_seq_octets c.in-6.is c.in_ok-tag.ensures.taken c.in_ok-read-in-6.ensures

pub returns-in_err-read-in-7 : goal.returns-in_err-read-in-7
returns-in_err-read-in-7 c =
    kind_fails is_seq_bools c.from_residual-in_err-read-in-7.result c.in-7.is c.in_ok-tag.ensures.taken
    c.in_err-read-in-7.ensures c.from_residual-in_err-read-in-7.ensures.1

pub returns-in_ok-read-in-7 : goal.returns-in_ok-read-in-7
returns-in_ok-read-in-7 c = kind_reads is_seq_bools c.in-7.is c.in_ok-tag.ensures.taken c.in_ok-read-in-7.ensures

pub returns-in_err-width-in-8 : goal.returns-in_err-width-in-8
returns-in_err-width-in-8 c =
    kind_fails is_seq_words c.from_residual-in_err-width-in-8.result c.in-8.is c.in_ok-tag.ensures.taken
    c.in_err-width-in-8.ensures c.from_residual-in_err-width-in-8.ensures.1

pub returns-in_ok-width-in-8 : goal.returns-in_ok-width-in-8
returns-in_ok-width-in-8 c = kind_reads is_seq_words c.in-8.is c.in_ok-tag.ensures.taken c.in_ok-width-in-8.ensures

pub returns-in_default : goal.returns-in_default
returns-in_default c = c.read_naming.ensures _ c.in_ok-tag.ensures.taken

pub returns-in_err-tag : goal.returns-in_err-tag
returns-in_err-tag c =
    let p = err_from_is_err_and c.from_residual.result c.from_residual.ensures.1 in
    rw (p.1, p.2) (end_fails spelled_instr instr_code _ _ _ c.in_err-tag.ensures.short)
