use Rattle.std.proofs.Common.{arith, ◌≡◌, ◌<◌, ◌∙◌, ℕ, List, Some, slice_get, ap, sym, subst, length, get_or}
use Rattle.std.proofs.lemmas.List.{length-map}
use Rattle.std.proofs.lemmas.Option.{slice_get-get_or}
use Rattle.type_model.specs.ModelRules.{Parts as Model}
use Rattle.table_file.specs.declared.table.Which.{Which}
use Rattle.table_file.specs.declared.table.Which.TheVariants.{First}
use Rattle.position_checker.specs.Verdict.{names_fault}
use Rattle.position_checker.proofs.RouteLaws.{routes_next, routes_done, lone_refused, all_served}
use Rattle.position_checker.proofs.VerdictLaws.{names_next, names_first}
use Rattle.position_checker.proofs.routes.routes_of.Goals as goal
use Rattle.type_graph.proofs.Refusals.{only_if_holds}
use Rattle.routine_checker.specs.Refusal.{wants_memory}

pub returns-in-Err-clause-refused : goal.returns-in-Err-clause-refused
returns-in-Err-clause-refused c =
    let names : c.names.result.now ≡ c.args.table.now.model.names =
    c.names.ensures.value ∙ ap (λ (m : Model). m.names) c.model-in-loop-place.ensures.value in
    let named : slice_get c.args.table.now.model.names c.loop-place.place
    ≡ Some (c.pair-node.result.0.now, c.pair-node.result.1) =
    subst (λ (ns : List (List ℕ × ℕ)). slice_get ns c.loop-place.place
    ≡ Some (c.pair-node.result.0.now, c.pair-node.result.1)) names c.pair-node.ensures.value in
    lone_refused c.args.table.now c.uses-place-end.ensures.rules c.loop-place.place c.pair-node.result.0.now
    c.pair-node.result.1 c.in-Err.fault named c.in-Err.ensures.refused

pub returns-in-Err-clause-fault : goal.returns-in-Err-clause-fault
returns-in-Err-clause-fault c =
    let table = c.args.table.now in
    let place = c.loop-place.place in
    let node = c.pair-node.result.1 in
    let names : c.names.result.now ≡ table.model.names = c.names.ensures.value
    ∙ ap (λ (m : Model). m.names) c.model-in-loop-place.ensures.value in
    let named : slice_get table.model.names place ≡ Some (c.pair-node.result.0.now, node) =
    subst (λ (ns : List (List ℕ × ℕ)). slice_get ns place ≡ Some (c.pair-node.result.0.now, node)) names
    c.pair-node.ensures.value in
    let within : place < length table.uses =
    omega (
      arith,
      c.loop-place-test.true,
      c.loop-place.auto.place-end,
      ap (λ (us : List Which). length us) c.uses-place-end.ensures.value,
    ) in
    let program = get_or table.uses place First in
    let used = slice_get-get_or table.uses place First within in
    only_if_holds (wants_memory c.in-Err.fault) _
    (names_first table place c.pair-node.result.0.now node program c.in-Err.fault within named used
    c.loop-place.invariant.1 (c.in-Err.ensures.fault program used))

pub loop-place-preserved : goal.loop-place-preserved
loop-place-preserved c =
    let table = c.args.table.now in
    let node = c.pair-node.result.1 in
    let names : c.names.result.now ≡ table.model.names = c.names.ensures.value
    ∙ ap (λ (m : Model). m.names) c.model-in-loop-place.ensures.value in
    let named : slice_get table.model.names c.loop-place.place ≡ Some (c.pair-node.result.0.now, node) =
    subst (λ (ns : List (List ℕ × ℕ)). slice_get ns c.loop-place.place ≡ Some (c.pair-node.result.0.now, node)) names
    c.pair-node.ensures.value in
    let program = c.in-Ok.route.program in (
      routes_next table c.uses-place-end.ensures.rules c.loop-place.place c.pair-node.result.0.now node
          c.loop-place.routes.items c.in-Ok.route named c.in-Ok.ensures.used c.in-Ok.ensures.served
          c.loop-place.invariant.0,
      names_next table c.loop-place.place c.pair-node.result.0.now node program named c.in-Ok.ensures.used
          c.loop-place.invariant.1
          ∙ c.in-Ok.ensures.accepted program c.in-Ok.ensures.used,
    )

pub returns-clause-routes : goal.returns-clause-routes
returns-clause-routes c =
    let whole : c.loop-place.place ≡ length c.args.table.now.uses =
    omega (
      arith,
      c.loop-place-test.false,
      c.loop-place.auto.place-end,
      ap (λ (us : List Which). length us) c.uses-place-end.ensures.value,
    ) in
    routes_done c.args.table.now c.loop-place.place c.loop-place.routes.items
    (whole ∙ c.uses-place-end.ensures.rules.uses.each
    ∙ sym (length-map c.args.table.now.model.names (λ (pair : List ℕ × ℕ). pair.1))) c.loop-place.invariant.0

pub returns-clause-served : goal.returns-clause-served
returns-clause-served c = all_served c.args.table.now c.uses-place-end.ensures.rules c.loop-place.routes.items
    (returns-clause-routes c)

pub returns-clause-accepted : goal.returns-clause-accepted
returns-clause-accepted c =
    let whole : c.loop-place.place ≡ length c.args.table.now.uses =
    omega (
      arith,
      c.loop-place-test.false,
      c.loop-place.auto.place-end,
      ap (λ (us : List Which). length us) c.uses-place-end.ensures.value,
    ) in
    ap (names_fault c.args.table.now) (sym whole) ∙ c.loop-place.invariant.1
