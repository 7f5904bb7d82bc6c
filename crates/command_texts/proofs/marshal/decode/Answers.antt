use Rattle.std.proofs.Common.{rules, string_bytes}
use Rattle.value_text.proofs.Named.{in_lent}
use Rattle.command_texts.proofs.Facts.{text_is}
use Rattle.command_texts.proofs.marshal.decode.Goals as goal

pub text_line-requires-clause-there : goal.text_line-requires-clause-there
text_line-requires-clause-there c =
    in_lent c.args.table.now.model c.model.result.now c.graph-graph.result.now c.args.node (search rules) (search rules)
    c.graph-graph.ensures.rules c.requires.named

pub returns-clause-ok : goal.returns-clause-ok
returns-clause-ok c =
    text_is c.args.names.now c.args.table.now.model.graph c.graph-graph.result.now c.args.node c.args.request.now.order
    c.args.request.now.pos
    c.in_ok-tape.tape.items c.as_slice.result.now c.args.octets.now (string_bytes c.in_ok-text_line.field-0)
    c.in_ok-tape.taken
    (search rules) (search rules) c.in_ok-tape.ensures.within c.in_ok-tape.ensures.found c.in_ok-text_line.ensures
