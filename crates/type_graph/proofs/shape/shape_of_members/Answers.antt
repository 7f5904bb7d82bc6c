use Rattle.std.proofs.Common.{ℕ, List, get_or, take_all, sum_by, sym, subst, arith}
use Rattle.std.specs.List.{flat_map}
use Rattle.type_graph.specs.inner.Shapes.{IsShape}
use Rattle.type_graph.proofs.ShapeLaws.{shape_more}
use Rattle.type_graph.proofs.shape.shape_of_members.Goals as goal

pub loop-number-preserved : goal.loop-number-preserved
loop-number-preserved c = λ leaves size known.
    let members = c.args.members.now in
    let number = get_or members c.loop-number.number-index 0 in
    let here = subst (IsShape (leaves number) (size number)) (sym c.shape_at.ensures) (known.at number) in
    shape_more leaves size members c.loop-number.number-index c.joined-shape.result c.loop-number-test.true
    (c.joined-shape.ensures _ _ _ _ (c.loop-number.invariant leaves size known) here)

pub returns : goal.returns
returns c = λ leaves size known.
    subst (λ (members : List ℕ). IsShape (flat_map leaves members) (sum_by size members) c.loop-number.shape)
    (take_all c.loop-number.number-index c.args.members.now (omega arith))
    (c.loop-number.invariant leaves size known)
