use Rattle.std.proofs.Common.{◌≡◌, ◌+◌, ◌-◌, List, sym, ◌∙◌, subst, arith}
use Rattle.type_graph.specs.declared.shape.Shape.{Shape}
use Rattle.type_graph.specs.inner.Shapes.{AreShapesBy, AreShapesWithin}
use Rattle.type_graph.proofs.ShapeLevels.{shapes_none, shapes_more, shapes_stay}
use Rattle.type_graph.proofs.shape.shapes_of.Goals as goal

pub loop-init : goal.loop-init
loop-init c = shapes_none c.args.nodes.now c.new-table.result.items c.new-table.ensures.items

pub loop-preserved : goal.loop-preserved
loop-preserved c =
    let above = subst (λ (table : List Shape). AreShapesBy c.args.nodes.now table c.shapes_above.new.next.items)
    c.deref.ensures.value c.in_ok-shapes_above.ensures in
    rw c.swap.ensures.x_after (shapes_more c.loop.counter c.args.nodes.now c.loop.table.items _ c.loop.invariant above)

pub returns-then-are_same : goal.returns-then-are_same
returns-then-are_same c =
    let above = subst (λ (table : List Shape). AreShapesBy c.args.nodes.now table c.shapes_above.new.next.items)
    c.deref.ensures.value c.in_ok-shapes_above.ensures in
    let same : c.shapes_above.new.next.items ≡ c.loop.table.items =
    sym c.deref-in-loop.ensures.value ∙ c.are_same.ensures c.if-are_same.true ∙ c.deref-in-loop-2.ensures.value in
    let again = subst (AreShapesBy c.args.nodes.now c.loop.table.items) same above in
    let e : c.loop.counter + (64 - c.loop.counter) ≡ 64 = omega arith in
    subst (λ n. AreShapesWithin n c.args.nodes.now c.loop.table.items) e
    (shapes_stay c.loop.counter (64 - c.loop.counter) c.args.nodes.now c.loop.table.items c.loop.invariant again)
