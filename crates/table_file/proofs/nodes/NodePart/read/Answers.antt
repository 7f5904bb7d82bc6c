use Rattle.std.proofs.Common.{◌≤◌, arith}
use Rattle.table_file.specs.Spelling.{tagged_node}
use Rattle.table_file.specs.inner.NodeCode.{is_whole, is_enum, is_text, is_seq, is_array, is_struct, is_union, is_frame, node_few}
use Rattle.table_file.proofs.VariantReads.{kind_reads, kind_fails, no_kind_reads}
use Rattle.table_file.proofs.nodes.NodePart.read.Goals as goal

pub returns-in_err-width-in-0 : goal.returns-in_err-width-in-0
returns-in_err-width-in-0 c =
    kind_fails is_whole c.from_residual-in_err-width-in-0.result c.in-0.is c.in_ok-octet.ensures.taken
    c.in_err-width-in-0.ensures c.from_residual-in_err-width-in-0.ensures.1

pub returns-in_ok-width-in-0 : goal.returns-in_ok-width-in-0
returns-in_ok-width-in-0 c = kind_reads is_whole c.in-0.is c.in_ok-octet.ensures.taken c.in_ok-width-in-0.ensures

pub returns-in_err-read-in-4 : goal.returns-in_err-read-in-4
returns-in_err-read-in-4 c =
    kind_fails is_enum c.from_residual-in_err-read-in-4.result c.in-4.is c.in_ok-octet.ensures.taken
    c.in_err-read-in-4.ensures c.from_residual-in_err-read-in-4.ensures.1

pub returns-in_ok-read-in-4 : goal.returns-in_ok-read-in-4
returns-in_ok-read-in-4 c = kind_reads is_enum c.in-4.is c.in_ok-octet.ensures.taken c.in_ok-read-in-4.ensures

pub returns-in_err-read-in-5 : goal.returns-in_err-read-in-5
returns-in_err-read-in-5 c =
    kind_fails is_text c.from_residual-in_err-read-in-5.result c.in-5.is c.in_ok-octet.ensures.taken
    c.in_err-read-in-5.ensures c.from_residual-in_err-read-in-5.ensures.1

pub returns-in_ok-read-in-5 : goal.returns-in_ok-read-in-5
returns-in_ok-read-in-5 c = kind_reads is_text c.in-5.is c.in_ok-octet.ensures.taken c.in_ok-read-in-5.ensures

pub returns-in_err-elem-in-6 : goal.returns-in_err-elem-in-6
returns-in_err-elem-in-6 c =
    kind_fails is_seq c.from_residual-in_err-elem-in-6.result c.in-6.is c.in_ok-octet.ensures.taken
    c.in_err-elem-in-6.ensures c.from_residual-in_err-elem-in-6.ensures.1

pub returns-in_ok-elem-in-6 : goal.returns-in_ok-elem-in-6
returns-in_ok-elem-in-6 c = kind_reads is_seq c.in-6.is c.in_ok-octet.ensures.taken c.in_ok-elem-in-6.ensures

pub returns-in_err-elem-in-7 : goal.returns-in_err-elem-in-7
returns-in_err-elem-in-7 c =
    kind_fails is_array c.from_residual-in_err-elem-in-7.result c.in-7.is c.in_ok-octet.ensures.taken
    c.in_err-elem-in-7.ensures c.from_residual-in_err-elem-in-7.ensures.1

pub returns-in_ok-elem-in-7 : goal.returns-in_ok-elem-in-7
returns-in_ok-elem-in-7 c = kind_reads is_array c.in-7.is c.in_ok-octet.ensures.taken c.in_ok-elem-in-7.ensures

pub returns-in_err-read-in-8 : goal.returns-in_err-read-in-8
returns-in_err-read-in-8 c =
    kind_fails is_struct c.from_residual-in_err-read-in-8.result c.in-8.is c.in_ok-octet.ensures.taken
    c.in_err-read-in-8.ensures c.from_residual-in_err-read-in-8.ensures.1

pub returns-in_ok-read-in-8 : goal.returns-in_ok-read-in-8
returns-in_ok-read-in-8 c = kind_reads is_struct c.in-8.is c.in_ok-octet.ensures.taken c.in_ok-read-in-8.ensures

pub returns-in_err-switch-in-9 : goal.returns-in_err-switch-in-9
returns-in_err-switch-in-9 c =
    kind_fails is_union c.from_residual-in_err-switch-in-9.result c.in-9.is c.in_ok-octet.ensures.taken
    c.in_err-switch-in-9.ensures c.from_residual-in_err-switch-in-9.ensures.1

pub returns-in_ok-switch-in-9 : goal.returns-in_ok-switch-in-9
returns-in_ok-switch-in-9 c = kind_reads is_union c.in-9.is c.in_ok-octet.ensures.taken c.in_ok-switch-in-9.ensures

pub returns-in_err-read-in-10 : goal.returns-in_err-read-in-10
returns-in_err-read-in-10 c =
    kind_fails is_frame c.from_residual-in_err-read-in-10.result c.in-10.is c.in_ok-octet.ensures.taken
    c.in_err-read-in-10.ensures c.from_residual-in_err-read-in-10.ensures.1

pub returns-in_ok-read-in-10 : goal.returns-in_ok-read-in-10
returns-in_ok-read-in-10 c = kind_reads is_frame c.in-10.is c.in_ok-octet.ensures.taken c.in_ok-read-in-10.ensures

pub returns-in_default : goal.returns-in_default
returns-in_default c =
    let many : 11 ≤ c.in_ok-octet.field-0 = omega arith in
    no_kind_reads tagged_node 11 node_few c.in_ok-octet.field-0 many _ _ _ _ c.in_ok-octet.ensures.taken
