use Rattle.std.proofs.Common.{rules}
use Rattle.value_text.proofs.Named.{in_lent}
use Rattle.idlc_c.proofs.text.octets_said.Goals as goal

pub read-requires : goal.read-requires
read-requires c =
    in_lent c.args.loaded.now.table.model c.model.result.now c.graph-graph.result.now c.args.node (search rules)
    (search rules) c.graph-graph.ensures.rules c.requires.named
