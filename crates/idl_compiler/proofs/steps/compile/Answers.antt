use Rattle.idl_compiler.proofs.NoTable.{none_of}
use Rattle.idl_compiler.proofs.steps.compile.Goals as goal

pub returns-clause-none : goal.returns-clause-none
returns-clause-none c =
    none_of (λ source fault settled refused told is. c.refused_has_no_table.ensures source fault settled refused told
    is)
    c.args.source.now c.table_of_text.result c.table_of_text.ensures.refused
