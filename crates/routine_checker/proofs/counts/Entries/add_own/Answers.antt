use Rattle.routine_checker.proofs.CountLaws.{own_node, own_kind}
use Rattle.routine_checker.proofs.counts.Entries.add_own.Goals as goal

pub returns-in_err-add : goal.returns-in_err-add
returns-in_err-add c = c.add.ensures c.args.nodes.now c.requires (own_node c.args.nodes.now c.args.number)

pub returns-in_err-add-2 : goal.returns-in_err-add-2
returns-in_err-add-2 c =
    c.add-in-Some.ensures c.args.nodes.now
    (c.add.ensures c.args.nodes.now c.requires (own_node c.args.nodes.now c.args.number))
    (own_kind c.args.nodes.now c.args.number c.in-Some.kind c.in-Some.ensures)

pub returns-in_ok-add-2 : goal.returns-in_ok-add-2
returns-in_ok-add-2 c =
    c.add-in-Some.ensures c.args.nodes.now
    (c.add.ensures c.args.nodes.now c.requires (own_node c.args.nodes.now c.args.number))
    (own_kind c.args.nodes.now c.args.number c.in-Some.kind c.in-Some.ensures)

pub returns-in_default : goal.returns-in_default
returns-in_default c = c.add.ensures c.args.nodes.now c.requires (own_node c.args.nodes.now c.args.number)
