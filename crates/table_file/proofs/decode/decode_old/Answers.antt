use Rattle.std.proofs.Common.{◌≡◌, Some}
use Rattle.std.proofs.lemmas.Result.{err_from_is_err_and}
use Rattle.table_file.specs.Table.{IsTable}
use Rattle.table_file.specs.inner.TableCodes.{OldFields, spelled_old_fields, table_from}
use Rattle.table_file.proofs.Decoded.{NoOldBody, if_err_only, if_ok_old_body, no_old_body, no_old_table, rules_of}
use Rattle.table_file.proofs.decode.decode_old.Goals as goal
use Rattle.type_graph.proofs.Refusals.{only_if_weaker}
use Rattle.table_file.specs.Refusal.{wants_memory}

pub returns-in_err-old-clause-refused : goal.returns-in_err-old-clause-refused
returns-in_err-old-clause-refused c =
    let p = err_from_is_err_and c.from_residual-in_err-old.result c.from_residual-in_err-old.ensures.1 in
    let octets = c.args.octets.now in
    rw (p.1, p.2) (only_if_weaker (wants_memory c.in_err-old.field-0.0)
    ((x : OldFields) → spelled_old_fields x ≡ Some octets → ⊥) (NoOldBody octets) (no_old_body octets)
    c.in_err-old.ensures)

pub returns-clause-spelled : goal.returns-clause-spelled
returns-clause-spelled c = if_ok_old_body c.in_ok-old.old c.in_ok-draft.draft c.args.octets.now c.finish.result
    c.in_ok-old.ensures c.in_ok-draft.ensures.kept c.finish.ensures.kept

pub returns-clause-refused : goal.returns-clause-refused
returns-clause-refused c =
    let old = c.in_ok-old.old in
    let draft = c.in_ok-draft.draft in
    if_err_only c.finish.result (IsTable (table_from draft) → ⊥) (NoOldBody c.args.octets.now)
    (λ none. no_old_table old c.args.octets.now c.in_ok-old.ensures
    (λ rules. none (rules_of old draft c.in_ok-draft.ensures.kept rules))) c.finish.ensures.refused
