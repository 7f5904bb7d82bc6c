use Rattle.std.proofs.Common.{◌≡◌, Some}
use Rattle.std.proofs.lemmas.Result.{err_from_is_err_and}
use Rattle.table_file.specs.Table.{IsTable}
use Rattle.table_file.specs.inner.TableCodes.{TableFields, spelled_fields, table_from}
use Rattle.table_file.proofs.Decoded.{NoBody, if_err_only, if_ok_body, no_body, no_table}
use Rattle.table_file.proofs.decode.decode_body.Goals as goal
use Rattle.type_graph.proofs.Refusals.{only_if_weaker}
use Rattle.table_file.specs.Refusal.{wants_memory}

pub returns-in_err-draft-clause-refused : goal.returns-in_err-draft-clause-refused
returns-in_err-draft-clause-refused c =
    let p = err_from_is_err_and c.from_residual-in_err-draft.result c.from_residual-in_err-draft.ensures.1 in
    let octets = c.args.octets.now in
    rw (p.1, p.2) (only_if_weaker (wants_memory c.in_err-draft.field-0.0)
    ((x : TableFields) → spelled_fields x ≡ Some octets → ⊥) (NoBody octets) (no_body octets)
    c.in_err-draft.ensures)

pub returns-clause-spelled : goal.returns-clause-spelled
returns-clause-spelled c = if_ok_body c.in_ok-draft.draft c.args.octets.now c.finish.result c.in_ok-draft.ensures
    c.finish.ensures.kept

pub returns-clause-refused : goal.returns-clause-refused
returns-clause-refused c =
    let draft = c.in_ok-draft.draft in
    if_err_only c.finish.result (IsTable (table_from draft) → ⊥) (NoBody c.args.octets.now)
    (no_table draft c.args.octets.now c.in_ok-draft.ensures) c.finish.ensures.refused
