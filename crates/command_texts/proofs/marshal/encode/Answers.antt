use Rattle.std.proofs.Common.{rules, ◌≡◌, subst, List}
use Rattle.std.specs.Bool.{OnFalse}
use Rattle.std.proofs.lemmas.Result.{err_from_is_err_and}
use Rattle.type_graph.specs.declared.node.Node.{Node}
use Rattle.command_words.specs.Requests.{ask_of}
use Rattle.value_text.specs.Refusal.{wants_memory}
use Rattle.command_texts.specs.Lines.{SaysNone}
use Rattle.value_text.proofs.Named.{in_lent}
use Rattle.command_texts.proofs.Facts.{unsaid}
use Rattle.command_texts.proofs.marshal.encode.Goals as goal

pub read-requires : goal.read-requires
read-requires c =
    in_lent c.args.table.now.model c.model.result.now c.graph.result.now c.args.node (search rules) (search rules)
    c.graph.ensures.rules c.requires.named

pub returns-in_err-value-clause-err : goal.returns-in_err-value-clause-err
returns-in_err-value-clause-err c =
    let graph_is : c.graph.result.now ≡ c.args.table.now.model.graph = search rules in
    let ask = ask_of c.args.request.now c.args.text.now in
    let none = subst (λ (graph : List Node). OnFalse (wants_memory c.in_err-value.field-0.0)
    (SaysNone c.args.names.now graph c.args.node ask)) graph_is c.in_err-value.ensures.refused in
    let p = err_from_is_err_and c.from_residual.result c.from_residual.ensures.1 in
    rw (p.1, p.2) (unsaid c.args.names.now c.args.table.now.model.graph c.args.node ask c.in_err-value.field-0.0 none)
