use Rattle.std.proofs.Common.{◌≡◌, ◌≢◌, rules}
use Rattle.std.proofs.lemmas.Result.{IfErr-weaker}
use Rattle.type_graph.specs.declared.node.Node.TheVariants.{Octet, Char}
use Rattle.type_graph.specs.Value.{node_at}
use Rattle.value_text.proofs.Refusals.{refuses, refuses_weaker}
use Rattle.value_text.proofs.KindRefusals.{no_octets, no_chars, no_bytes}
use Rattle.value_text.proofs.reading.read_together.Goals as goal

pub returns-in-None-clause-refused : goal.returns-in-None-clause-refused
returns-in-None-clause-refused c =
    let graph = c.args.types.now.graph.now in
    let node : Octet ≡ node_at graph c.args.elem = search rules in
    IfErr-weaker c.read_octets.result _ _
    (λ stop. refuses_weaker stop (no_octets graph c.args.elem c.args.text.now node)) c.read_octets.ensures.refused

pub returns-in-Some-Char-clause-refused : goal.returns-in-Some-Char-clause-refused
returns-in-Some-Char-clause-refused c =
    let graph = c.args.types.now.graph.now in
    let node : Char ≡ node_at graph c.args.elem = search rules in
    IfErr-weaker c.read_chars.result _ _ (λ stop. refuses_weaker stop (no_chars graph c.args.elem c.args.text.now node))
    c.read_chars.ensures.refused

pub returns-in_default-clause-refused : goal.returns-in_default-clause-refused
returns-in_default-clause-refused c =
    let graph = c.args.types.now.graph.now in
    let no_octet : node_at graph c.args.elem ≢ Octet = search rules in
    let no_char : node_at graph c.args.elem ≢ Char = search rules in
    refuses _ (no_bytes graph c.args.elem c.args.text.now no_octet no_char)
