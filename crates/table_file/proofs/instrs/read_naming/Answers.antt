use Rattle.std.proofs.Common.{◌≤◌, arith}
use Rattle.table_file.specs.Spelling.{tagged_instr}
use Rattle.table_file.specs.inner.InstrCode.{is_seq_of, is_times, is_call, is_switch, instr_few}
use Rattle.table_file.proofs.VariantReads.{kind_reads, kind_fails, no_kind_reads}
use Rattle.table_file.proofs.instrs.read_naming.Goals as goal

pub returns-in_err-bound-in-9 : goal.returns-in_err-bound-in-9
returns-in_err-bound-in-9 c = λ start t.
    kind_fails is_seq_of c.from_residual.result c.in-9.is t
    c.in_err-bound-in-9.ensures c.from_residual.ensures.1

pub returns-in_ok-bound-in-9 : goal.returns-in_ok-bound-in-9
returns-in_ok-bound-in-9 c = λ start t.
    kind_reads is_seq_of c.in-9.is t c.in_ok-bound-in-9.ensures

pub returns-in_err-n-in-10 : goal.returns-in_err-n-in-10
returns-in_err-n-in-10 c = λ start t.
    kind_fails is_times c.from_residual-in_err-n-in-10.result c.in-10.is t
    c.in_err-n-in-10.ensures c.from_residual-in_err-n-in-10.ensures.1

pub returns-in_ok-n-in-10 : goal.returns-in_ok-n-in-10
returns-in_ok-n-in-10 c = λ start t.
    kind_reads is_times c.in-10.is t c.in_ok-n-in-10.ensures

pub returns-in_err-read-in-11 : goal.returns-in_err-read-in-11
returns-in_err-read-in-11 c = λ start t.
    kind_fails is_call c.from_residual-in_err-read-in-11.result c.in-11.is t
    c.in_err-read-in-11.ensures c.from_residual-in_err-read-in-11.ensures.1

pub returns-in_ok-read-in-11 : goal.returns-in_ok-read-in-11
returns-in_ok-read-in-11 c = λ start t.
    kind_reads is_call c.in-11.is t c.in_ok-read-in-11.ensures

pub returns-in_err-disc-in-12 : goal.returns-in_err-disc-in-12
returns-in_err-disc-in-12 c = λ start t.
    kind_fails is_switch c.from_residual-in_err-disc-in-12.result c.in-12.is t
    c.in_err-disc-in-12.ensures c.from_residual-in_err-disc-in-12.ensures.1

pub returns-in_ok-disc-in-12 : goal.returns-in_ok-disc-in-12
returns-in_ok-disc-in-12 c = λ start t.
    kind_reads is_switch c.in-12.is t c.in_ok-disc-in-12.ensures

pub returns-in_default : goal.returns-in_default
returns-in_default c = λ start t.
    let many : 13 ≤ c.args.tag = omega arith in
    no_kind_reads tagged_instr 13 instr_few c.args.tag many _ _ _ _ t
