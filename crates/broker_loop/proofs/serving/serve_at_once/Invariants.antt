use Rattle.std.proofs.Common.{◌≡◌, ◌≤◌, ◌<◌, length, max}
use Rattle.broker_answers.specs.Servants.{acts}
use Rattle.broker_loop.specs.inner.Going.{GoesOn, WereAsked}
use Rattle.broker_loop.proofs.serving.serve_at_once.Given as goal

abbrev pub invariant-loop : goal.invariant-loop
invariant-loop g l = record {
  looks : g.L.PolledListener.looks l.listener ≡ l.counter;
  filled : g.L.PolledListener.there l.listener ≡ length l.slots.items;
  most : g.L.PolledListener.most l.listener ≤ max (g.L.PolledListener.most l.fn.listener) l.at_once;
  port : g.L.Listener.port l.listener ≡ g.L.Listener.port l.fn.listener;
  served : l.broker.served ≡ l.fn.broker.served;
  room : 0 < length l.buffer;
  begun : l.progress.begun ≡ length (g.L.Listener.came l.listener);
  upto : l.progress.begun ≤ l.progress.count;
  few : length l.slots.items ≤ l.progress.at_once;
  count : l.progress.count ≡ l.count;
  at_once : l.progress.at_once ≡ l.at_once;
  asked : WereAsked l.idle (g.L.PolledListener.looks l.listener) l.slots.items;
  going : GoesOn (g.L.PolledListener.ended l.listener) (acts g.S.Servant.says g.S.Servant.after) l.fn.broker.served
      l.idle l.fn.broker.world.servant
      (g.L.Listener.came l.listener) l.broker.world l.slots.items;
}
