use Rattle.table_file.specs.inner.MaybeCode.{is_some}
use Rattle.table_file.proofs.VariantReads.{kind_reads, kind_fails}
use Rattle.table_file.proofs.numbers.OptionU32Part.read.Goals as goal

pub returns-in_err-read-in-1 : goal.returns-in_err-read-in-1
returns-in_err-read-in-1 c =
    kind_fails is_some c.from_residual-in_err-read-in-1.result c.in-1.is c.in_ok-octet.ensures.taken
    c.in_err-read-in-1.ensures c.from_residual-in_err-read-in-1.ensures.1

pub returns-in_ok-read-in-1 : goal.returns-in_ok-read-in-1
returns-in_ok-read-in-1 c = kind_reads is_some c.in-1.is c.in_ok-octet.ensures.taken c.in_ok-read-in-1.ensures
