use Rattle.std.proofs.Common.{rules}
use Rattle.broker_loop.proofs.Turns.{all_sent}
use Rattle.broker_loop.proofs.slot.Slot.is_sent.Goals as goal

pub returns : goal.returns
returns g c =
    let k = all_sent c.self.inside.answer.items c.self.inside.sent c.self.invariant in
    search rules
