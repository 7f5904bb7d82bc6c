use Rattle.std.proofs.Common.{◌≡◌, arith}
use Rattle.table_file.specs.inner.InstrCode.{is_seq_of, is_times, is_call, is_switch}
use Rattle.table_file.proofs.PassLaws.{kind_behind}
use Rattle.table_file.proofs.instrs.pass_naming.Goals as goal

pub returns-in-9 : goal.returns-in-9
returns-in-9 c = kind_behind is_seq_of _ _ _ _ c.in-9.is c.pass.ensures

pub returns-in-10 : goal.returns-in-10
returns-in-10 c = kind_behind is_times _ _ _ _ c.in-10.is c.pass-in-10.ensures

pub returns-in-11 : goal.returns-in-11
returns-in-11 c = kind_behind is_call _ _ _ _ c.in-11.is c.pass-in-11.ensures

pub returns-in_default : goal.returns-in_default
returns-in_default c =
    let tag : c.args.tag ≡ 12 = omega (arith, c.requires.naming, c.requires.known, c.in_default) in
    kind_behind is_switch _ _ _ _ tag c.pass-in_default.ensures
