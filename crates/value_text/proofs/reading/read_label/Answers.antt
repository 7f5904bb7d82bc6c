use Rattle.std.proofs.Common.{◌≡◌, rules}
use Rattle.std.proofs.lemmas.Result.{IfErr-weaker, err_from_is_err_and}
use Rattle.json.specs.Reads.{token_of}
use Rattle.type_graph.specs.declared.node.Node.TheVariants.{Octet}
use Rattle.type_graph.specs.Value.{node_at}
use Rattle.value_text.proofs.Refusals.{refuses, refuses_weaker}
use Rattle.value_text.proofs.KindRefusals.{label_missing, label_refused}
use Rattle.value_text.proofs.reading.read_label.Goals as goal

pub returns-in_err-token-clause-refused : goal.returns-in_err-token-clause-refused
returns-in_err-token-clause-refused c =
    let p = err_from_is_err_and c.from_residual.result c.from_residual.ensures.1 in
    rw (p.1, p.2) (refuses _
    (label_missing c.args.types.now.names.now c.args.types.now.graph.now c.args.switch c.args.cursor.now
    c.next_part.new.self c.in_err-token.ensures.refused))

pub returns-in-Some-clause-refused : goal.returns-in-Some-clause-refused
returns-in-Some-clause-refused c =
    let graph = c.args.types.now.graph.now in
    let node : c.in-Some.node.now ≡ node_at graph c.args.switch = search rules in
    IfErr-weaker c.read_number.result _ _ (λ stop. refuses_weaker stop
    (label_refused c.args.types.now.names.now graph c.args.switch c.args.cursor.now (token_of c.in_ok-token.token)
    c.next_part.new.self c.in-Some.node.now c.of-labels.result.now node c.of-labels.ensures
    c.in_ok-token.ensures.some)) c.read_number.ensures.refused

pub returns-in-None-clause-refused : goal.returns-in-None-clause-refused
returns-in-None-clause-refused c =
    let graph = c.args.types.now.graph.now in
    let node : Octet ≡ node_at graph c.args.switch = search rules in
    IfErr-weaker c.read_number-in-None.result _ _ (λ stop. refuses_weaker stop
    (label_refused c.args.types.now.names.now graph c.args.switch c.args.cursor.now (token_of c.in_ok-token.token)
    c.next_part.new.self Octet c.of-labels.result.now node c.of-labels.ensures
    c.in_ok-token.ensures.some)) c.read_number-in-None.ensures.refused
