use Rattle.std.proofs.Common.{refl, ◌∙◌, subst}
use Rattle.broker_answers.specs.Servants.{acts}
use Rattle.broker_sockets.specs.Visits.{IsOneMore}
use Rattle.broker_sockets.proofs.Visits.{none_served, one_more_served}
use Rattle.broker_sockets.proofs.connections.serve_connections.Goals as goal

pub loop-init : goal.loop-init
loop-init g c = record {
  served = none_served (acts g.S.Servant.says g.S.Servant.after) c.args.broker.now.served
      (g.L.BlockingListener.went c.args.listener.now)
      (g.L.Listener.came c.args.listener.now) c.args.broker.now.world.servant c.requires.none;
  alone = c.requires.alone;
  same = refl;
  port = refl;
}

pub loop-preserved : goal.loop-preserved
loop-preserved g c =
    let acting = acts g.S.Servant.says g.S.Servant.after in
    let came = g.L.Listener.came c.loop.listener in
    let came_after = g.L.Listener.came c.serve_next.new.listener in
    let between = c.loop.broker.world.servant in
    let after = c.serve_next.new.broker.world.servant in
    let Told = g.L.BlockingListener.went c.loop.listener in
    let Told' = g.L.BlockingListener.went c.serve_next.new.listener in
    let visit = subst (λ served. IsOneMore Told Told' acting served came between came_after after) c.loop.invariant.same
    c.in_ok-serve_next.ensures.visit in
    record {
      served = one_more_served acting c.args.broker.now.served Told Told' c.loop.counter
          (g.L.Listener.came c.args.listener.now)
          c.args.broker.now.world.servant came between came_after after c.loop.invariant.served visit;
      alone = c.in_ok-serve_next.ensures.alone;
      same = c.in_ok-serve_next.ensures.same ∙ c.loop.invariant.same;
      port = c.in_ok-serve_next.ensures.port ∙ c.loop.invariant.port;
    }
