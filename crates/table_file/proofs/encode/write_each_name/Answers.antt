use Rattle.std.proofs.Common.{refl}
use Rattle.std.proofs.lemmas.Result.{err_from_is_err_and}
use Rattle.table_file.specs.Spelling.{spelled_name}
use Rattle.table_file.proofs.NamesWritten.{next_written, not_written}
use Rattle.table_file.proofs.encode.write_each_name.Goals as goal

pub returns-in_err-write_name : goal.returns-in_err-write_name
returns-in_err-write_name c =
    let p = err_from_is_err_and c.from_residual.result c.from_residual.ensures.1 in
    rw (p.1, p.2) (not_written spelled_name c.args.names.now c.names.place _ _ _ c.in_err-write_name.field-0.0
    c.pair-node.ensures.value c.in_err-write_name.ensures c.names.invariant)

pub names-preserved : goal.names-preserved
names-preserved c =
    next_written spelled_name c.args.names.now c.names.place _ _ _ _ _ c.pair-node.ensures.value refl
    c.in_ok-write_name.ensures c.names.invariant
