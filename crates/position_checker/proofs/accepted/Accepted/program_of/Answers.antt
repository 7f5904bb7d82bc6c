use Rattle.std.proofs.Common.{refl, subst}
use Rattle.position_checker.specs.Acceptance.{Uses}
use Rattle.position_checker.proofs.RouteLaws.{same_node, not_missing}
use Rattle.position_checker.proofs.accepted.Accepted.program_of.Goals as goal

pub returns-clause-found : goal.returns-clause-found
returns-clause-found c node named =
    subst (λ n. Uses c.args.self.now n c.serving.result.program)
    (same_node _ _ refl ((c.in_ok-node.ensures.found node).1 named)) c.serving.ensures.serves.used

pub returns-clause-there : goal.returns-clause-there
returns-clause-there c = not_missing _ _ c.in_ok-node.node ((c.in_ok-node.ensures.found c.in_ok-node.node).0 refl)
