use Rattle.std.proofs.Common.{◌≡◌, sym, subst}
use Rattle.std.specs.Prelude.{IfOk}
use Rattle.type_graph.specs.GraphRules.{IsGraph}
use Rattle.type_graph.specs.inner.Shapes.{size_within}
use Rattle.type_graph.proofs.ShapeLevels.{shape_known}
use Rattle.type_graph.proofs.ZeroLaws.{zeros_within}
use Rattle.type_graph.proofs.graph.Graph.zero.Goals as goal

pub returns : goal.returns
returns c =
    let graph = c.args.self.now in
    let number = c.args.number in
    let known = shape_known c.self.inside.nodes.items graph c.self.inside.shapes.items c.deref.result.now number
    c.shape_at.result c.self.invariant.1 c.self.view_is c.deref.ensures.value c.shape_at.ensures in
    let rules : IsGraph graph = subst IsGraph c.self.view_is c.self.invariant.0 in
    subst (λ octets. IfOk c.zeros.result (λ tape. tape.items ≡ octets))
    (sym (zeros_within graph 64 number (rules.shallow number c.requires)))
    (c.zeros.ensures (size_within 64 graph number) known.size)
