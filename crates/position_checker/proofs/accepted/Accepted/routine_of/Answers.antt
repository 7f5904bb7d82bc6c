use Rattle.std.proofs.Common.{◌≡◌, refl, sym, subst}
use Rattle.position_checker.specs.Acceptance.{Uses, Serves}
use Rattle.position_checker.proofs.RouteLaws.{same_node, not_missing}
use Rattle.position_checker.proofs.accepted.Accepted.routine_of.Goals as goal

pub returns-clause-found : goal.returns-clause-found
returns-clause-found c node program named used =
    let same : c.in_ok-node.node ≡ node = same_node _ _ refl ((c.in_ok-node.ensures.found node).1 named) in
    let here : Uses c.args.self.now c.in_ok-node.node program =
    subst (λ n. Uses c.args.self.now n program) (sym same) used in
    subst (λ n. Serves c.args.self.now n program c.serving.result.routine) same
    (subst (λ p. Serves c.args.self.now c.in_ok-node.node p c.serving.result.routine)
    (sym (c.serving.ensures.alone program here)) c.serving.ensures.serves)

pub returns-clause-there : goal.returns-clause-there
returns-clause-there c = not_missing _ _ c.in_ok-node.node ((c.in_ok-node.ensures.found c.in_ok-node.node).0 refl)
