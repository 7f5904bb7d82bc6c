use Rattle.routine_checker.proofs.work.NodesTaken.count.Goals as goal

pub returns : goal.returns
returns c = c.pieces.ensures c.args.self.nodes.now c.requires
