use Rattle.std.proofs.Common.{rules, string_bytes}
use Rattle.value_text.proofs.Named.{in_lent}
use Rattle.giop_types.proofs.Found.{none_then, some_then}
use Rattle.command_texts.proofs.CallTextsFacts.{text_is}
use Rattle.command_texts.proofs.call_texts.body.body_text.Goals as goal

pub returns-in-None-clause-none : goal.returns-in-None-clause-none
returns-in-None-clause-none c = none_then c.in_ok-tape.field-0 _ c.in-None.is c.in_ok-tape.ensures.none

pub printed-requires-clause-there : goal.printed-requires-clause-there
printed-requires-clause-there c =
    in_lent c.args.table.now.model c.model.result.now c.graph-graph.result.now c.args.node (search rules) (search rules)
    c.graph-graph.ensures.rules c.requires

pub returns-clause-found : goal.returns-clause-found
returns-clause-found c =
    text_is c.args.names.now c.args.table.now.model.graph c.graph-graph.result.now c.args.order c.args.node c.args.place
    c.in-Some.tape.items c.as_slice.result.now c.args.octets.now (string_bytes c.in_ok-printed.field-0)
    c.in-Some.field-0-1
    (search rules) (search rules) (some_then c.in_ok-tape.field-0 _ _ c.in-Some.is c.in_ok-tape.ensures.found)
    c.in_ok-printed.ensures
