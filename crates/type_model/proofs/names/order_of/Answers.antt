use Rattle.std.proofs.Common.{◌≡◌, ◌∙◌, List, subst, sym, length, map, refl}
use Rattle.std.proofs.lemmas.Result.{err_from_is_err_and}
use Rattle.type_model.specs.Names.{AreDistinct, IsOrder}
use Rattle.type_model.specs.inner.Keys.{Key, Differ, place_of}
use Rattle.type_model.proofs.NameOrder.{is_order, order_distinct, distinct_differ}
use Rattle.type_model.proofs.names.order_of.Goals as goal
use Rattle.type_graph.proofs.Refusals.{only_if_weaker}
use Rattle.type_graph.specs.Refusal.{wants_memory}

pub returns-clause-order : goal.returns-clause-order
returns-clause-order c =
    let keys = c.in_ok-keys.keys.items in
    let lent = c.as_slice.ensures.value in
    let differ = subst (λ (keys : List Key). Differ keys (length keys)) lent c.in_ok-order.ensures.differ in
    let places = c.in_ok-order.ensures.places
    ∙ subst (λ (list : List Key). map place_of c.as_slice.result.now ≡ map place_of list) lent refl in
    subst (IsOrder c.args.names.now) (sym places)
    (is_order c.args.names.now keys c.in_ok-keys.ensures.keys c.in_ok-keys.ensures.sorted differ)

pub returns-clause-distinct : goal.returns-clause-distinct
returns-clause-distinct c = order_distinct c.args.names.now c.in_ok-order.order.items (returns-clause-order c)

pub returns-in_err-order-clause-refused : goal.returns-in_err-order-clause-refused
returns-in_err-order-clause-refused c =
    let p = err_from_is_err_and c.from_residual-in_err-order.result c.from_residual-in_err-order.ensures.1 in
    let lent = c.as_slice.ensures.value in
    rw (p.1, p.2) (only_if_weaker (wants_memory c.in_err-order.field-0.0)
    (Differ c.as_slice.result.now (length c.as_slice.result.now) → ⊥) (AreDistinct c.args.names.now → ⊥)
    (λ same distinct. same (subst (λ (keys : List Key). Differ keys (length keys)) (sym lent)
    (distinct_differ c.args.names.now c.in_ok-keys.keys.items c.in_ok-keys.ensures.keys distinct)))
    c.in_err-order.ensures.refused)
