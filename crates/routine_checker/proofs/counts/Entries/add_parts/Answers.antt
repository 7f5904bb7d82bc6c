use Rattle.std.proofs.Common.{sym, ◌∙◌}
use Rattle.routine_checker.proofs.CountLaws.{made_of_parts}
use Rattle.routine_checker.proofs.counts.Entries.add_parts.Goals as goal

pub returns-in_err-add : goal.returns-in_err-add
returns-in_err-add c =
    let graph = c.args.graph.now in
    c.add.ensures graph c.requires.counts
    (made_of_parts graph c.nodes.result.now c.args.piece c.args.number c.of_parts-n.result c.args.node.now
    c.nodes.ensures.rules c.nodes.ensures.value
    (sym c.is_piece_of.ensures ∙ c.if-is_piece_of.false) c.requires.node (c.of_parts-n.ensures graph c.requires.counts))

pub returns-in_ok-add : goal.returns-in_ok-add
returns-in_ok-add c =
    let graph = c.args.graph.now in
    c.add.ensures graph c.requires.counts
    (made_of_parts graph c.nodes.result.now c.args.piece c.args.number c.of_parts-n.result c.args.node.now
    c.nodes.ensures.rules c.nodes.ensures.value
    (sym c.is_piece_of.ensures ∙ c.if-is_piece_of.false) c.requires.node (c.of_parts-n.ensures graph c.requires.counts))
