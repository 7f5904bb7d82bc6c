use Rattle.std.proofs.Common.{◌≡◌, ◌++◌, ℕ, List, IfOk, IfNone, sym, subst}
use Rattle.type_graph.specs.Words.{reading}
use Rattle.type_graph.specs.Encoding.{Means}
use Rattle.type_model.specs.Names.{IsNamed}
use Rattle.table_file.specs.Table.{TableParts}
use Rattle.giop_types.proofs.Named.{named}
use Rattle.giop_types.proofs.types.GiopTypes.find.Goals as goal

pub find_value-requires : goal.find_value-requires
find_value-requires c = subst (λ (t : TableParts). IsNamed t.model.names c.args.node) (sym c.self.invariant)
    (named c.args.node c.requires)

pub returns-clause-none : goal.returns-clause-none
returns-clause-none c =
    subst (λ (t : TableParts). IfOk c.find_value.result
    (λ o. IfNone o ((tape front rest : List ℕ) → c.args.octets.now ≡ front ++ rest
    → Means t.model.graph (reading c.args.order) 64 c.args.node c.args.pos tape front → ⊥))) c.self.invariant
    c.find_value.ensures.none
