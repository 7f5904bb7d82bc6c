use Rattle.std.proofs.lemmas.Result.{err_from_is_err_and}
use Rattle.table_file.specs.Octets.{spelled_ascii}
use Rattle.table_file.specs.inner.Codes.{ascii_code}
use Rattle.table_file.proofs.ListReads.{too_many}
use Rattle.table_file.proofs.TextReads.{ascii_reads, is_name_of}
use Rattle.table_file.proofs.texts.read_name.Goals as goal

pub returns-in_err-octets : goal.returns-in_err-octets
returns-in_err-octets c =
    let p = err_from_is_err_and c.from_residual.result c.from_residual.ensures.1 in
    rw (p.1, p.2) (too_many spelled_ascii ascii_code c.args.count _ _ _ c.in_err-octets.ensures.short)

pub returns : goal.returns
returns c =
    ascii_reads c.args.count c.in_ok-octets.octets.now c.name_of.result _ _ c.in_ok-octets.ensures.taken
    (is_name_of c.in_ok-octets.octets.now c.name_of.result c.name_of.ensures.kept c.name_of.ensures.ascii
    c.name_of.ensures.refused)
