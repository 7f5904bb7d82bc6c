use Rattle.std.proofs.Common.{ℕ, List, IfErr, sym, subst}
use Rattle.std.specs.Bool.{OnFalse}
use Rattle.type_graph.specs.Words.{writing}
use Rattle.type_graph.specs.Encoding.{Means}
use Rattle.type_model.specs.Names.{IsNamed}
use Rattle.program_runner.specs.Refusal.{wants_memory}
use Rattle.table_file.specs.Table.{TableParts}
use Rattle.giop_types.proofs.Named.{named}
use Rattle.giop_types.proofs.types.GiopTypes.write.Goals as goal

pub write-requires : goal.write-requires
write-requires c = subst (λ (t : TableParts). IsNamed t.model.names c.args.node) (sym c.self.invariant)
    (named c.args.node c.requires)

pub returns-clause-refused : goal.returns-clause-refused
returns-clause-refused c =
    subst (λ (t : TableParts). IfErr c.write.result (λ fault. OnFalse (wants_memory fault) ((octets : List ℕ)
    → Means t.model.graph (writing c.args.order) 64 c.args.node c.args.pos c.args.tape.now octets → ⊥)))
    c.self.invariant c.write.ensures.refused
