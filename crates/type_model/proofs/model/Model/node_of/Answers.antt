use Rattle.std.proofs.Common.{◌≡◌, ◌↔◌, ℕ, List, Contains, Some, ap, subst}
use Rattle.type_model.specs.ModelRules.{Parts}
use Rattle.type_model.proofs.model.Model.node_of.Goals as goal

pub returns-clause-found : goal.returns-clause-found
returns-clause-found c = λ node.
    subst (λ (names : List (List ℕ × ℕ)). (c.node_of.result ≡ Some node) ↔ Contains names (c.args.name.now, node))
    (ap (λ (m : Parts). m.names) c.self.view_is) (c.node_of.ensures.found node)
