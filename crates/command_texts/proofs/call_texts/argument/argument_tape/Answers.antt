use Rattle.std.proofs.Common.{rules}
use Rattle.value_text.proofs.Named.{in_lent}
use Rattle.command_texts.proofs.call_texts.argument.argument_tape.Goals as goal

pub tape_in-requires : goal.tape_in-requires
tape_in-requires c =
    in_lent c.args.table.now.model c.model.result.now c.graph.result.now c.args.node (search rules) (search rules)
    c.graph.ensures.rules c.requires
