use Rattle.std.proofs.Common.{◌≡◌, ◌↔◌, ◌∙◌, ap, ℕ, List, Contains, Some, subst}
use Rattle.type_model.specs.ModelRules.{Parts as Model}
use Rattle.table_file.specs.Table.{TableParts}
use Rattle.position_checker.proofs.RouteLaws.{has_name}
use Rattle.position_checker.proofs.accepted.Accepted.node_of.Goals as goal

pub returns-clause-found : goal.returns-clause-found
returns-clause-found c node =
    let names : c.model.result.now.names ≡ c.args.self.now.model.names =
    ap (λ (m : Model). m.names) c.model.ensures.value ∙ ap (λ (t : TableParts). t.model.names) c.self.view_is in
    subst (λ (ns : List (List ℕ × ℕ)). (c.node_of.result ≡ Some node) ↔ Contains ns (c.args.name.now, node)) names
    (c.node_of.ensures.found node)

pub returns-clause-named : goal.returns-clause-named
returns-clause-named c =
    let names : c.model.result.now.names ≡ c.args.self.now.model.names =
    ap (λ (m : Model). m.names) c.model.ensures.value ∙ ap (λ (t : TableParts). t.model.names) c.self.view_is in
    has_name c.args.self.now.model.names c.args.name.now c.node_of.result
    (λ node. (subst (λ (ns : List (List ℕ × ℕ)). (c.node_of.result ≡ Some node)
    ↔ Contains ns (c.args.name.now, node)) names (c.node_of.ensures.found node)).0)
