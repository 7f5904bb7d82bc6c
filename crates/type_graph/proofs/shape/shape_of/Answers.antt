use Rattle.std.proofs.Common.{ℕ, List, sum_by, sym, subst}
use Rattle.std.specs.List.{flat_map}
use Rattle.std.proofs.Common.{inl, inr}
use Rattle.type_graph.specs.declared.node.Node.{Node}
use Rattle.type_graph.specs.Leaves.{leaves_by}
use Rattle.type_graph.specs.inner.Shapes.{IsShape, size_by}
use Rattle.type_graph.proofs.shape.shape_of.Goals as goal

pub returns-in-Array : goal.returns-in-Array
returns-in-Array c = λ leaves size known.
    let elem = c.in-Array.elem in
    subst (λ (node : Node). IsShape (leaves_by leaves node) (size_by size c.args.nodes.now node) c.repeated.result)
    (sym c.in-Array.is)
    (c.repeated.ensures leaves size elem
    (subst (IsShape (leaves elem) (size elem)) (sym c.shape_at.ensures) (known.at elem)))

pub returns-in-Struct : goal.returns-in-Struct
returns-in-Struct c = λ leaves size known.
    let parts = subst (λ (members : List ℕ). IsShape (flat_map leaves members) (sum_by size members)
    c.shape_of_members.result) c.as_slice.ensures (c.shape_of_members.ensures leaves size known) in
    let IsIt : Node → Type 0 =
    λ node. IsShape (leaves_by leaves node) (size_by size c.args.nodes.now node) c.shape_of_members.result in
    elim c.in-Struct.is [ inl e ↦ subst IsIt (sym e) parts | inr e ↦ subst IsIt (sym e) parts ]
