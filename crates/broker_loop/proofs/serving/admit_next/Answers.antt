use Rattle.broker_answers.specs.Servants.{acts}
use Rattle.broker_loop.proofs.Visits.{absent}
use Rattle.broker_loop.proofs.serving.admit_next.Goals as goal

pub admit-requires-clause-absent : goal.admit-requires-clause-absent
admit-requires-clause-absent g c =
    let u = c.requires.under_way.1 in
    absent (acts g.S.Servant.says g.S.Servant.after) c.args.broker.now.served c.requires.under_way.0 u.before
    (g.L.Listener.came c.args.listener.now) u.goes.ended
    c.args.broker.now.world c.args.slots.now.items c.args.progress.now.begun u.goes.going c.requires.begun
