use Rattle.std.proofs.Common.{length, ap}
use Rattle.std.proofs.lemmas.Result.{err_from_is_err_and}
use Rattle.table_file.proofs.Decoded.{most_fails, uses_read}
use Rattle.table_file.proofs.decode.read_parts.Goals as goal

pub returns-in_err-programs : goal.returns-in_err-programs
returns-in_err-programs c =
    let p = err_from_is_err_and c.from_residual.result c.from_residual.ensures.1 in
    rw (p.1, p.2) (most_fails _ _ _ c.in_err-programs.ensures)

pub returns : goal.returns
returns c =
    uses_read c.in_ok-programs.programs _ c.read_run.result c.both.result _ _ _ (ap length c.as_slice-count.ensures)
    c.both.ensures c.in_ok-programs.ensures c.read_run.ensures
