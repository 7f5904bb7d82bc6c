use Rattle.std.proofs.lemmas.Result.{err_from_is_err_and}
use Rattle.table_file.specs.Octets.{spelled_octet, spelled_run}
use Rattle.table_file.specs.inner.Codes.{octet_code}
use Rattle.table_file.proofs.ReadLaws.{taken_reads}
use Rattle.table_file.proofs.ListReads.{too_many}
use Rattle.table_file.proofs.routines.ArrayU88Part.read.Goals as goal

pub returns-in_err-sets : goal.returns-in_err-sets
returns-in_err-sets c =
    let p = err_from_is_err_and c.from_residual.result c.from_residual.ensures.1 in
    rw (p.1, p.2) (too_many spelled_octet octet_code 8 _ _ _ c.in_err-sets.ensures.short)

pub returns : goal.returns
returns c =
    taken_reads (spelled_run 8 spelled_octet) c.sets_of.result 8 c.in_ok-sets.sets.now _ _ c.sets_of.ensures
    c.in_ok-sets.ensures.taken
