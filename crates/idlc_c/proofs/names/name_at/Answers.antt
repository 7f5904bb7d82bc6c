use Rattle.std.proofs.Common.{◌≡◌, ◌≤◌, length, slice_get, Some, rules}
use Rattle.std.proofs.lemmas.Result.{err_from_is_err_and}
use Rattle.idlc_c.proofs.NameLaws.{name_told}
use Rattle.idlc_c.proofs.names.name_at.Goals as goal

pub returns-in_err-len-clause-refused : goal.returns-in_err-len-clause-refused
returns-in_err-len-clause-refused c =
    let there : slice_get c.args.table.now.model.names c.args.place
    ≡ Some (c.pair-number.result.0.now, c.pair-number.result.1) = search rules in
    let told = name_told c.args.table.now c.args.place (length c.args.out.now) c.pair-number.result.1
    c.pair-number.result.0.now c.as_bytes.result.now
    (length c.args.table.now.model.names ≤ c.args.place) c.in_err-len.field-0.0 there c.as_bytes.ensures.value
    (c.in_err-len.ensures.refused, c.in_err-len.ensures.long) in
    let p = err_from_is_err_and c.from_residual.result c.from_residual.ensures.1 in rw (p.1, p.2) told
