use Rattle.std.proofs.Common.{subst}
use Rattle.std.proofs.lemmas.Result.{err_from_is_err_and}
use Rattle.table_file.specs.inner.Skimming.{IsOldSize, Skims}
use Rattle.table_file.specs.inner.TableCodes.{old_code, spelled_old_fields}
use Rattle.table_file.proofs.Decoded.{NoOldBody, if_err_only, no_old_body, no_old_table}
use Rattle.table_file.proofs.SkimLaws.{front_no_old_body, skim_passes, skim_refuses}
use Rattle.table_file.proofs.skim.skim_old.Goals as goal
use Rattle.type_graph.proofs.Refusals.{only_if_weaker}
use Rattle.table_file.specs.Refusal.{wants_memory}

pub returns-in_err-model : goal.returns-in_err-model
returns-in_err-model c =
    let p = err_from_is_err_and c.from_residual.result c.from_residual.ensures.1 in
    let octets = c.args.octets.now in
    let told = c.skim_old_fields-told.result in
    let left = c.skim_old_fields-told.new.cursor in
    let skims = subst (λ o. Skims spelled_old_fields IsOldSize told o left) c.new-cursor.ensures
    c.skim_old_fields-told.ensures in
    rw (p.1, p.2) (only_if_weaker (wants_memory c.in_err-model.field-0.0) _ (NoOldBody octets) (no_old_body octets)
    (skim_refuses spelled_old_fields old_code.one octets IsOldSize told left skims _
    c.in_err-model.ensures.refused))

pub returns-in_err-check_nodes : goal.returns-in_err-check_nodes
returns-in_err-check_nodes c =
    let p = err_from_is_err_and c.from_residual-in_err-check_nodes.result c.from_residual-in_err-check_nodes.ensures.1
    in
    let octets = c.args.octets.now in
    let told = c.skim_old_fields-told.result in
    let left = c.skim_old_fields-told.new.cursor in
    let skims = subst (λ o. Skims spelled_old_fields IsOldSize told o left) c.new-cursor.ensures
    c.skim_old_fields-told.ensures in
    let kept = c.in_ok-model.ensures.kept in
    let passed = skim_passes spelled_old_fields old_code.one octets IsOldSize told left skims _ kept.0 kept.1 in
    let x = passed.0 in
    let fits = passed.2 in
    rw (p.1, p.2) (only_if_weaker (wants_memory c.in_err-check_nodes.field-0.0) _ (NoOldBody octets)
    (λ breaks. no_old_table x octets passed.1 (λ rules. breaks x.0 fits.0 rules.model.graph))
    c.in_err-check_nodes.ensures)

pub returns-in_err-check_program : goal.returns-in_err-check_program
returns-in_err-check_program c =
    let p = err_from_is_err_and c.from_residual-in_err-check_program.result
    c.from_residual-in_err-check_program.ensures.1 in
    let octets = c.args.octets.now in
    let told = c.skim_old_fields-told.result in
    let left = c.skim_old_fields-told.new.cursor in
    let skims = subst (λ o. Skims spelled_old_fields IsOldSize told o left) c.new-cursor.ensures
    c.skim_old_fields-told.ensures in
    let kept = c.in_ok-model.ensures.kept in
    let passed = skim_passes spelled_old_fields old_code.one octets IsOldSize told left skims _ kept.0 kept.1 in
    let x = passed.0 in
    let fits = passed.2 in
    rw (p.1, p.2) (only_if_weaker (wants_memory c.in_err-check_program.field-0.0) _ (NoOldBody octets)
    (λ breaks. no_old_table x octets passed.1 (λ rules. breaks x.1 fits.1 rules.first))
    c.in_err-check_program.ensures)

pub returns : goal.returns
returns c = if_err_only c.check_front.result _ (NoOldBody c.args.octets.now) (front_no_old_body c.args.octets.now)
    c.check_front.ensures
