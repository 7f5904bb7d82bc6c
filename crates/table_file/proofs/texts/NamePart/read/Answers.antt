use Rattle.std.proofs.lemmas.Result.{err_from_is_err_and}
use Rattle.table_file.specs.Octets.{spelled_ascii}
use Rattle.table_file.proofs.ListReads.{count_fails, list_reads}
use Rattle.table_file.proofs.texts.NamePart.read.Goals as goal

pub returns-in_err-count : goal.returns-in_err-count
returns-in_err-count c =
    let p = err_from_is_err_and c.from_residual.result c.from_residual.ensures.1 in
    rw (p.1, p.2) (count_fails spelled_ascii _ _ _ c.in_err-count.ensures)

pub returns : goal.returns
returns c =
    list_reads spelled_ascii c.in_ok-count.field-0 c.read_name.result _ _ _ c.in_ok-count.ensures c.read_name.ensures
