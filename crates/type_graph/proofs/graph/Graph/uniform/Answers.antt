use Rattle.std.proofs.Common.{inl, inr, subst}
use Rattle.type_graph.specs.Leaves.{leaves_of}
use Rattle.type_graph.specs.inner.Shapes.{IsRun}
use Rattle.type_graph.proofs.ShapeLaws.{empty_none, mixed_none}
use Rattle.type_graph.proofs.ShapeLevels.{shape_known}
use Rattle.type_graph.proofs.graph.Graph.uniform.Goals as goal

pub returns-in-Empty : goal.returns-in-Empty
returns-in-Empty c = record {
  some = tt;
  none = λ w n words.
      let graph = c.args.self.now in
      let number = c.args.number in
      let known = shape_known c.self.inside.nodes.items graph c.self.inside.shapes.items c.deref.result.now number
      c.shape_at.result c.self.invariant.1 c.self.view_is c.deref.ensures.value c.shape_at.ensures in
      elim c.in-Empty.is [
        | inl e ↦ empty_none (leaves_of graph number) w n (subst (IsRun (leaves_of graph number)) e known.run) words
        | inr e ↦ mixed_none (leaves_of graph number) w n (subst (IsRun (leaves_of graph number)) e known.run) words
      ];
}
