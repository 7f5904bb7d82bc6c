use Rattle.idl_compiler.proofs.FileFacts.{compiled, without_names}
use Rattle.idl_compiler.proofs.NoTable.{long_table, refused_file}
use Rattle.idl_compiler.proofs.file.compile_file.Goals as goal

pub returns-in-Ok-clause-compiled : goal.returns-in-Ok-clause-compiled
returns-in-Ok-clause-compiled c =
    let whole = c.in-Ok.whole in
    compiled c.args.source.now whole.settled c.file_of.result c.in-Ok.ensures.compiled.text
    (without_names c.args.source.now whole c.in-Ok.ensures.compiled.is)
    c.file_of.ensures.right c.file_of.ensures.spelled c.file_of.ensures.within c.file_of.ensures.line
    c.file_of.ensures.planned

pub returns-in-Ok-clause-refused : goal.returns-in-Ok-clause-refused
returns-in-Ok-clause-refused c =
    let whole = c.in-Ok.whole in
    long_table c.args.source.now whole.settled c.file_of.result
    (without_names c.args.source.now whole c.in-Ok.ensures.compiled.is) c.file_of.ensures.refused

pub returns-in-Err-clause-refused : goal.returns-in-Err-clause-refused
returns-in-Err-clause-refused c = refused_file c.args.source.now c.in-Err.fault c.in-Err.ensures.refused
