use Rattle.std.proofs.Common.{rules, ◌≡◌, ◌<◌, length, subst, List, ℕ}
use Rattle.std.specs.Bool.{OnFalse}
use Rattle.std.proofs.lemmas.Result.{err_from_is_err_and}
use Rattle.type_graph.specs.Value.{node_at, tape_of}
use Rattle.idl_value.specs.View.{tree_of}
use Rattle.program_runner.specs.Refusal.{wants_memory}
use Rattle.command_tables.specs.Lines.{HasNoOctets}
use Rattle.value_text.proofs.Named.{in_lent}
use Rattle.command_texts.proofs.Facts.{of_run}
use Rattle.command_texts.proofs.marshal.encode_value.Goals as goal

pub packed-requires-clause-there : goal.packed-requires-clause-there
packed-requires-clause-there c =
    in_lent c.args.table.now.model c.model.result.now c.graph.result.now c.args.node (search rules) (search rules)
    c.graph.ensures.rules c.requires.named

pub returns-in_err-octets-clause-err : goal.returns-in_err-octets-clause-err
returns-in_err-octets-clause-err c =
    let graph = c.args.table.now.model.graph in
    let tape_is : c.as_slice.result.now ≡ tape_of graph (node_at graph c.args.node) (tree_of c.args.value.now) =
    search rules in
    let fault = c.in_err-octets.field-0.0 in
    let none = λ (tape : List ℕ). HasNoOctets graph c.args.request.now.order c.args.node c.args.request.now.pos tape in
    let p = err_from_is_err_and c.from_residual-in_err-octets.result c.from_residual-in_err-octets.ensures.1 in
    rw (p.1, p.2) (of_run fault (none (tape_of graph (node_at graph c.args.node) (tree_of c.args.value.now)))
    (subst (λ (tape : List ℕ). OnFalse (wants_memory fault) (none tape)) tape_is c.in_err-octets.ensures.refused))
