use Rattle.broker_sockets.proofs.Sweeps.{left_at, stayed_at}
use Rattle.broker_sockets.proofs.partings.partings.step_at.Goals as goal

pub returns-in-Moved-clause-turned : goal.returns-in-Moved-clause-turned
returns-in-Moved-clause-turned g c =
    stayed_at c.args.limits g.P.Parting.parted c.args.connections.now.items c.args.at c.index_mut.result.now
    c.step.new.connection
    c.requires.there c.index_mut.ensures.value c.in-Moved.ensures.stepped.0 c.requires.all

pub returns-in-Still-clause-turned : goal.returns-in-Still-clause-turned
returns-in-Still-clause-turned g c =
    stayed_at c.args.limits g.P.Parting.parted c.args.connections.now.items c.args.at c.index_mut.result.now
    c.step.new.connection
    c.requires.there c.index_mut.ensures.value c.in-Still.ensures.stepped.0 c.requires.all

pub returns-in-Over-clause-turned : goal.returns-in-Over-clause-turned
returns-in-Over-clause-turned g c =
    left_at c.args.limits g.P.Parting.parted c.args.connections.now.items c.remove.new.self.items c.args.at
    c.index_mut.result.now
    c.step.new.connection c.requires.there c.index_mut.ensures.value c.in-Over.ensures.stepped.0
    c.in-Over.ensures.stepped.1
    c.requires.all c.remove.ensures.items
