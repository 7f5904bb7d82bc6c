use Rattle.std.proofs.Common.{◌≤◌, arith}
use Rattle.table_file.specs.Spelling.{tagged_disc}
use Rattle.table_file.specs.inner.DiscCode.{is_word, is_enum, disc_few}
use Rattle.table_file.proofs.VariantReads.{kind_reads, kind_fails, no_kind_reads}
use Rattle.table_file.proofs.instrs.DiscPart.read.Goals as goal

pub returns-in_err-width-in-2 : goal.returns-in_err-width-in-2
returns-in_err-width-in-2 c =
    kind_fails is_word c.from_residual-in_err-width-in-2.result c.in-2.is c.in_ok-octet.ensures.taken
    c.in_err-width-in-2.ensures c.from_residual-in_err-width-in-2.ensures.1

pub returns-in_ok-width-in-2 : goal.returns-in_ok-width-in-2
returns-in_ok-width-in-2 c = kind_reads is_word c.in-2.is c.in_ok-octet.ensures.taken c.in_ok-width-in-2.ensures

pub returns-in_err-read-in-3 : goal.returns-in_err-read-in-3
returns-in_err-read-in-3 c =
    kind_fails is_enum c.from_residual-in_err-read-in-3.result c.in-3.is c.in_ok-octet.ensures.taken
    c.in_err-read-in-3.ensures c.from_residual-in_err-read-in-3.ensures.1

pub returns-in_ok-read-in-3 : goal.returns-in_ok-read-in-3
returns-in_ok-read-in-3 c = kind_reads is_enum c.in-3.is c.in_ok-octet.ensures.taken c.in_ok-read-in-3.ensures

pub returns-in_default : goal.returns-in_default
returns-in_default c =
    let many : 4 ≤ c.in_ok-octet.field-0 = omega arith in
    no_kind_reads tagged_disc 4 disc_few c.in_ok-octet.field-0 many _ _ _ _ c.in_ok-octet.ensures.taken
