use Rattle.std.proofs.Common.{◌≡◌, ◌≤◌, ◌-◌, length, drop}
use Rattle.broker_answers.specs.Streams.{cut}
use Rattle.broker_answers.specs.Servants.{acts}
use Rattle.iiop_broker.specs.inner.Progress.{Progress}
use Rattle.iiop_broker.proofs.server.Server.hear.Given as goal

abbrev pub invariant-loop-at : goal.invariant-loop-at
invariant-loop-at g l = record {
  within : l.at ≤ length l.octets.items;
  same : l.self.service ≡ l.fn.self.service;
  progress : Progress (acts g.S.Servant.says g.S.Servant.after) l.fn.self.service (cut l.fn.run l.octets.items)
      (cut l.open (drop l.at l.octets.items)) l.fn.self.servant l.answer.items l.self.servant;
}

abbrev pub decreases-loop-at : goal.decreases-loop-at
decreases-loop-at g l = length l.octets.items - l.at
