use Rattle.std.proofs.Common.{◌≡◌, []}
use Rattle.broker_answers.specs.Servants.{acts}
use Rattle.broker_sockets.specs.Visits.{AreServed}
use Rattle.broker_sockets.proofs.connections.serve_connections.Given as goal

abbrev pub invariant-loop : goal.invariant-loop
invariant-loop g l = record {
  served : AreServed (g.L.BlockingListener.went l.listener) (acts g.S.Servant.says g.S.Servant.after) l.fn.broker.served
      l.counter
      (g.L.Listener.came l.fn.listener) l.fn.broker.world.servant (g.L.Listener.came l.listener) l.broker.world.servant;
  alone : l.broker.world.there ≡ [];
  same : l.broker.served ≡ l.fn.broker.served;
  port : g.L.Listener.port l.listener ≡ g.L.Listener.port l.fn.listener;
}
