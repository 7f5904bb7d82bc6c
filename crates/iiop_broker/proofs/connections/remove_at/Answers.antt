use Rattle.iiop_broker.proofs.Places.{streams_removed}
use Rattle.iiop_broker.proofs.connections.remove_at.Goals as goal

pub returns : goal.returns
returns c = λ n p. streams_removed n c.args.place c.args.connections.now.items c.remove.new.self.items p
    c.remove.ensures.by_index.2
