use Rattle.std.proofs.lemmas.Result.{err_from_is_err_and}
use Rattle.table_file.proofs.Decoded.{NoBody, NoOldBody, NoSpelling, if_err_only, no_start, no_version_1, no_version_2}
use Rattle.table_file.proofs.decode.decode_table.Goals as goal
use Rattle.type_graph.proofs.Refusals.{only_if_holds}
use Rattle.table_file.specs.Refusal.{wants_memory}

pub returns-in_err-version-clause-refused : goal.returns-in_err-version-clause-refused
returns-in_err-version-clause-refused c =
    let p = err_from_is_err_and c.from_residual.result c.from_residual.ensures.1 in
    rw (p.1, p.2) (only_if_holds (wants_memory c.in_err-version.field-0.0) (NoSpelling c.args.octets.now)
    (no_start c.args.octets.now c.in_err-version.ensures.refused))

pub returns-in-1-clause-refused : goal.returns-in-1-clause-refused
returns-in-1-clause-refused c =
    let octets = c.args.octets.now in
    let rest = c.in_ok-version.rest.now in
    if_err_only c.decode_old.result (NoOldBody rest) (NoSpelling octets)
    (no_version_1 octets rest c.in_ok-version.version c.in_ok-version.ensures.found c.in-1.is)
    c.decode_old.ensures.refused

pub returns-in-2-clause-refused : goal.returns-in-2-clause-refused
returns-in-2-clause-refused c =
    let octets = c.args.octets.now in
    let rest = c.in_ok-version.rest.now in
    if_err_only c.decode_body.result (NoBody rest) (NoSpelling octets)
    (no_version_2 octets rest c.in_ok-version.version c.in_ok-version.ensures.found c.in-2.is)
    c.decode_body.ensures.refused
