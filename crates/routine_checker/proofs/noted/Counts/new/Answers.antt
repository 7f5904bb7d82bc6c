use Rattle.routine_checker.proofs.noted.Counts.new.Goals as goal

pub loop-routine-init : goal.loop-routine-init
loop-routine-init c = c.in_ok-counts.ensures c.args.graph.now c.in_ok-new.ensures

pub loop-routine-preserved : goal.loop-routine-preserved
loop-routine-preserved c = c.note_all.ensures c.args.graph.now c.loop-routine.invariant
