use Rattle.std.proofs.Common.{rules, ◌≡◌, subst, List, ℕ}
use Rattle.std.specs.Bool.{OnFalse}
use Rattle.type_graph.specs.Value.{node_at, tape_of}
use Rattle.idl_value.specs.View.{tree_of}
use Rattle.program_runner.specs.Refusal.{wants_memory}
use Rattle.idlc_c.specs.Answers.{HasNoOctets}
use Rattle.value_text.proofs.Named.{in_lent}
use Rattle.idlc_c.proofs.text.written.Goals as goal

pub packed-requires-clause-there : goal.packed-requires-clause-there
packed-requires-clause-there c =
    in_lent c.args.table.now.model c.model.result.now c.graph.result.now c.args.node (search rules) (search rules)
    c.graph.ensures.rules c.requires.named

pub returns-clause-refused : goal.returns-clause-refused
returns-clause-refused c =
    let graph = c.args.table.now.model.graph in
    let tape_is : c.as_slice.result.now ≡ tape_of graph (node_at graph c.args.node) (tree_of c.args.value.now) =
    search rules in
    subst (λ (tape : List ℕ). OnFalse (wants_memory c.in-Err.fault)
    (HasNoOctets c.args.node c.args.order c.args.pos tape c.args.table.now)) tape_is c.in-Err.ensures.refused
