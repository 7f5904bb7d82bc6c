use Rattle.std.proofs.Common.{◌≡◌, ◌∙◌, ◌<◌, List, ℕ, All, map, sym, subst}
use Rattle.type_model.specs.Names.{AreDistinct, AreNames}
use Rattle.type_model.proofs.NameLaws.{names_within, numbers_within}
use Rattle.std.proofs.lemmas.Result.{err_from_is_err_and}
use Rattle.type_model.proofs.names.NameTable.new.Goals as goal
use Rattle.type_graph.proofs.Refusals.{only_if_weaker}
use Rattle.type_graph.specs.Refusal.{wants_memory}

pub returns-in_err-marks-clause-refused : goal.returns-in_err-marks-clause-refused
returns-in_err-marks-clause-refused c =
    let p = err_from_is_err_and c.from_residual-in_err-marks.result c.from_residual-in_err-marks.ensures.1 in
    let same : c.as_slice-2.result.now ≡ c.args.names = c.as_slice-2.ensures.value ∙ c.into_vec-names.ensures in
    rw (p.1, p.2) (only_if_weaker (wants_memory c.in_err-marks.field-0.0) _ (AreNames c.args.count c.args.names → ⊥)
    (λ broken names. broken (subst (λ (list : List (List ℕ × ℕ)). All (λ number. number < c.args.count)
    (map (λ name. name.1) list)) (sym same) (numbers_within c.args.count c.args.names names.within)))
    c.in_err-marks.ensures.refused)

pub returns-clause-rules : goal.returns-clause-rules
returns-clause-rules c = record {
  distinct = subst AreDistinct (c.as_slice.ensures.value ∙ c.into_vec-names.ensures) c.in_ok-order.ensures.distinct;
  within = names_within c.args.count c.args.names
      (subst (λ (list : List (List ℕ × ℕ)). All (λ number. number < c.args.count) (map (λ name. name.1) list))
      (c.as_slice-2.ensures.value ∙ c.into_vec-names.ensures) c.in_ok-marks.ensures.within);
}
