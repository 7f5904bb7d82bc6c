use Rattle.std.proofs.Common.{rules, string_bytes}
use Rattle.value_text.proofs.Named.{in_lent}
use Rattle.idlc_c.proofs.ValueLaws.{text_is}
use Rattle.idlc_c.proofs.text.text_of.Goals as goal

pub printed-requires-clause-there : goal.printed-requires-clause-there
printed-requires-clause-there c =
    in_lent c.args.loaded.now.table.model c.model.result.now c.graph-graph.result.now c.args.node (search rules)
    (search rules) c.graph-graph.ensures.rules c.requires.named

pub returns-in-Ok-printed-clause-done : goal.returns-in-Ok-printed-clause-done
returns-in-Ok-printed-clause-done c =
    text_is c.args.loaded.now.names c.args.loaded.now.table c.graph-graph.result.now c.args.node c.args.order c.args.pos
    c.in-Ok.found.0.items
    c.as_slice.result.now c.args.octets.now (string_bytes c.in-Ok-printed.text) c.in-Ok.found.1 (search rules)
    (search rules)
    c.in-Ok.ensures.within c.in-Ok.ensures.found c.in-Ok-printed.ensures
