-- A named node is one of the graph.
use Rattle.std.proofs.Common.{◌≡◌, ◌<◌, sym, subst, ℕ, List, length, map}
use Rattle.std.proofs.lemmas.List.Elements.{All-contains, All-map}
use Rattle.type_graph.specs.declared.node.Node.{Node}
use Rattle.type_model.specs.ModelRules.{IsModel, Parts}
use Rattle.type_model.specs.Names.{IsNamed}

in_graph : (model : Parts) → IsModel model → (node : ℕ) → IsNamed model.names node → node < length model.graph
in_graph model rules node named =
    let count = length model.graph in
    All-contains (λ n. n < count) (map (λ (name : List ℕ × ℕ). name.1) model.names) node
    (All-map (λ n. n < count) (λ (name : List ℕ × ℕ). name.1) model.names rules.names.within) named

-- the same of a graph that was handed out
pub in_lent : (model lent : Parts) (graph : List Node) (node : ℕ) → lent ≡ model → graph ≡ model.graph → IsModel lent
    → IsNamed model.names node → node < length graph
in_lent model lent graph node model_is graph_is rules named =
    subst (λ (nodes : List Node). node < length nodes) (sym graph_is)
    (in_graph model (subst IsModel model_is rules) node named)
