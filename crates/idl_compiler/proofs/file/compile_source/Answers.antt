use Rattle.idl_compiler.proofs.FileFacts.{named_text}
use Rattle.idl_compiler.proofs.NoTable.{no_text, refused_source}
use Rattle.idl_compiler.proofs.file.compile_source.Goals as goal

pub returns-in-Ok-clause-compiled : goal.returns-in-Ok-clause-compiled
returns-in-Ok-clause-compiled c =
    named_text c.args.source.now _ c.compile.result c.in-Ok.ensures.utf8 c.in-Ok.ensures.text c.compile.ensures.compiled

pub returns-in-Ok-clause-refused : goal.returns-in-Ok-clause-refused
returns-in-Ok-clause-refused c =
    refused_source c.args.source.now _ c.compile.result c.in-Ok.ensures.utf8 c.in-Ok.ensures.text
    c.compile.ensures.refused c.compile.ensures.none

pub returns-in-Err-clause-refused : goal.returns-in-Err-clause-refused
returns-in-Err-clause-refused c = no_text c.args.source.now c.in-Err.fault c.in-Err.ensures.refused
