use Rattle.std.proofs.Common.{rules}
use Rattle.broker_sockets.proofs.Sweeps.{taken_of}
use Rattle.broker_sockets.proofs.partings.partings.Partings.take.Goals as goal

pub returns : goal.returns
returns g c =
    let k = taken_of g.P.Parting.parted (g.P.Parting.parted c.args.connection) c.self.inside.connections.items
    c.shut.new.self
    c.add.new.connections.items c.shut.ensures c.add.ensures.added in
    search rules
