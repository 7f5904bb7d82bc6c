use Rattle.type_graph.proofs.unions.check_union.Goals as goal

pub returns-clause-place : goal.returns-clause-place
returns-clause-place c = c.check_default.ensures.place c.args.switch

pub returns-in-Err-clause-place : goal.returns-in-Err-clause-place
returns-in-Err-clause-place c = c.in-Err.ensures.place c.args.arms.now
