use Rattle.std.proofs.Common.{subst}
use Rattle.std.proofs.lemmas.Result.{err_from_is_err_and}
use Rattle.table_file.specs.inner.Skimming.{IsTableSize, Skims}
use Rattle.table_file.specs.inner.TableCodes.{one_fields, spelled_fields}
use Rattle.table_file.proofs.Decoded.{NoBody, if_err_only, no_body, no_table}
use Rattle.table_file.proofs.SkimLaws.{front_no_body, skim_passes, skim_refuses}
use Rattle.table_file.proofs.skim.skim_whole.Goals as goal
use Rattle.type_graph.proofs.Refusals.{only_if_weaker}
use Rattle.table_file.specs.Refusal.{wants_memory}

pub returns-in_err-model : goal.returns-in_err-model
returns-in_err-model c =
    let p = err_from_is_err_and c.from_residual.result c.from_residual.ensures.1 in
    let octets = c.args.octets.now in
    let told = c.skim_fields-told.result in
    let left = c.skim_fields-told.new.cursor in
    let skims = subst (λ o. Skims spelled_fields IsTableSize told o left) c.new-cursor.ensures
    c.skim_fields-told.ensures in
    rw (p.1, p.2) (only_if_weaker (wants_memory c.in_err-model.field-0.0) _ (NoBody octets) (no_body octets)
    (skim_refuses spelled_fields one_fields octets IsTableSize told left skims _ c.in_err-model.ensures.refused))

pub returns-in_err-check_nodes : goal.returns-in_err-check_nodes
returns-in_err-check_nodes c =
    let p = err_from_is_err_and c.from_residual-in_err-check_nodes.result c.from_residual-in_err-check_nodes.ensures.1
    in
    let octets = c.args.octets.now in
    let told = c.skim_fields-told.result in
    let left = c.skim_fields-told.new.cursor in
    let skims = subst (λ o. Skims spelled_fields IsTableSize told o left) c.new-cursor.ensures
    c.skim_fields-told.ensures in
    let kept = c.in_ok-model.ensures.kept in
    let passed = skim_passes spelled_fields one_fields octets IsTableSize told left skims _ kept.0 kept.1 in
    let x = passed.0 in
    let fits = passed.2 in
    rw (p.1, p.2) (only_if_weaker (wants_memory c.in_err-check_nodes.field-0.0) _ (NoBody octets)
    (λ breaks. no_table x octets passed.1 (λ rules. breaks x.0.0 fits.0 rules.model.graph))
    c.in_err-check_nodes.ensures)

pub returns-in_err-check_program : goal.returns-in_err-check_program
returns-in_err-check_program c =
    let p = err_from_is_err_and c.from_residual-in_err-check_program.result
    c.from_residual-in_err-check_program.ensures.1 in
    let octets = c.args.octets.now in
    let told = c.skim_fields-told.result in
    let left = c.skim_fields-told.new.cursor in
    let skims = subst (λ o. Skims spelled_fields IsTableSize told o left) c.new-cursor.ensures
    c.skim_fields-told.ensures in
    let kept = c.in_ok-model.ensures.kept in
    let passed = skim_passes spelled_fields one_fields octets IsTableSize told left skims _ kept.0 kept.1 in
    let x = passed.0 in
    let fits = passed.2 in
    rw (p.1, p.2) (only_if_weaker (wants_memory c.in_err-check_program.field-0.0) _ (NoBody octets)
    (λ breaks. no_table x octets passed.1 (λ rules. breaks x.0.1.0 fits.1.0 rules.first))
    c.in_err-check_program.ensures)

pub returns-in_err-check_program-2 : goal.returns-in_err-check_program-2
returns-in_err-check_program-2 c =
    let p = err_from_is_err_and c.from_residual-in_err-check_program-2.result
    c.from_residual-in_err-check_program-2.ensures.1 in
    let octets = c.args.octets.now in
    let told = c.skim_fields-told.result in
    let left = c.skim_fields-told.new.cursor in
    let skims = subst (λ o. Skims spelled_fields IsTableSize told o left) c.new-cursor.ensures
    c.skim_fields-told.ensures in
    let kept = c.in_ok-model.ensures.kept in
    let passed = skim_passes spelled_fields one_fields octets IsTableSize told left skims _ kept.0 kept.1 in
    let x = passed.0 in
    let fits = passed.2 in
    rw (p.1, p.2) (only_if_weaker (wants_memory c.in_err-check_program-2.field-0.0) _ (NoBody octets)
    (λ breaks. no_table x octets passed.1 (λ rules. breaks x.0.1.1 fits.1.1 rules.second))
    c.in_err-check_program-2.ensures)

pub returns : goal.returns
returns c = if_err_only c.check_front.result _ (NoBody c.args.octets.now) (front_no_body c.args.octets.now)
    c.check_front.ensures
