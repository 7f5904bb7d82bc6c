use Rattle.std.proofs.Common.{arith, ◌≡◌, ap, sym, subst, ◌∙◌, is_some, get_or, Option, Some, None, IfSome, false, true}
use Rattle.std.proofs.lemmas.List.{get_or_default}
use Rattle.type_model.specs.Names.{IsNamed}
use Rattle.table_file.specs.Table.{TableParts}
use Rattle.position_checker.specs.declared.routes.Route.{Route}
use Rattle.position_checker.specs.inner.Routes.{IsRoute}
use Rattle.position_checker.proofs.RouteLaws.{has_route_within}
use Rattle.position_checker.proofs.accepted.Accepted.serving.Goals as goal

pub index-requires : goal.index-requires
index-requires c =
    let named : IsNamed c.self.inside.table.model.names c.args.node =
    subst (λ (t : TableParts). IsNamed t.model.names c.args.node) (sym c.self.view_is) c.requires in
    let within = has_route_within c.self.inside.routes.items c.args.node (c.self.invariant.1.there c.args.node named) in
    grind (arith, within)

pub unreachable-requires : goal.unreachable-requires
unreachable-requires c =
    let named : IsNamed c.self.inside.table.model.names c.args.node =
    subst (λ (t : TableParts). IsNamed t.model.names c.args.node) (sym c.self.view_is) c.requires in
    let has = c.self.invariant.1.there c.args.node named in
    let none : get_or c.self.inside.routes.items c.args.node None ≡ None =
    sym (subst (λ (d : Option Route). c.index.result.now ≡ get_or c.self.inside.routes.items c.args.node d) c.in-None.is
    c.index.ensures) ∙ c.in-None.is in
    let bad : false ≡ true = ap is_some (sym none) ∙ has in
    absurd cc

pub returns : goal.returns
returns c =
    let named : IsNamed c.self.inside.table.model.names c.args.node =
    subst (λ (t : TableParts). IsNamed t.model.names c.args.node) (sym c.self.view_is) c.requires in
    let has = c.self.invariant.1.there c.args.node named in
    let within = has_route_within c.self.inside.routes.items c.args.node has in
    let found : get_or c.self.inside.routes.items c.args.node None ≡ Some c.in-Some.route =
    get_or_default c.self.inside.routes.items c.args.node None c.index.result.now within ∙ sym c.index.ensures
    ∙ c.in-Some.is in
    let right : IsRoute c.self.inside.table c.args.node c.in-Some.route =
    subst (λ (o : Option Route). IfSome o (IsRoute c.self.inside.table c.args.node)) found
    (c.self.invariant.1.right c.args.node) in
    subst (λ (t : TableParts). IsRoute t c.args.node c.in-Some.route) c.self.view_is right
