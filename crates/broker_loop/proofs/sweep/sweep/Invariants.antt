use Rattle.std.proofs.Common.{◌≡◌, ◌≤◌, ◌<◌, ◌+◌, ◌-◌, drop, length, take}
use Rattle.broker_answers.specs.Servants.{acts}
use Rattle.broker_loop.specs.inner.Going.{GoesOn, WereAsked}
use Rattle.broker_loop.proofs.sweep.sweep.Given as goal

abbrev pub invariant-loop-at : goal.invariant-loop-at
invariant-loop-at g l = record {
  room : 0 < length l.buffer;
  as_long : length l.buffer ≡ length l.fn.buffer;
  filled : g.L.PolledListener.there l.listener ≡ length l.slots.items;
  most : g.L.PolledListener.most l.listener ≡ g.L.PolledListener.most l.fn.listener;
  port : g.L.Listener.port l.listener ≡ g.L.Listener.port l.fn.listener;
  came : g.L.Listener.came l.listener ≡ g.L.Listener.came l.fn.listener;
  looks : g.L.PolledListener.looks l.listener ≡ g.L.PolledListener.looks l.fn.listener;
  served : l.broker.served ≡ l.fn.broker.served;
  in_turn : WereAsked l.idle (g.L.PolledListener.looks l.fn.listener + 1) (take l.at l.slots.items);
  asked : WereAsked l.idle (g.L.PolledListener.looks l.fn.listener) (drop l.at l.slots.items);
  fewer : length l.slots.items ≤ length l.fn.slots.items;
  going : (before : g.row.S.Denot)
      → GoesOn (g.L.PolledListener.ended l.fn.listener) (acts g.S.Servant.says g.S.Servant.after) l.fn.broker.served
      l.idle before (g.L.Listener.came l.fn.listener) l.fn.broker.world l.fn.slots.items
      → GoesOn (g.L.PolledListener.ended l.listener) (acts g.S.Servant.says g.S.Servant.after) l.fn.broker.served l.idle
      before (g.L.Listener.came l.fn.listener) l.broker.world l.slots.items;
}

abbrev pub decreases-loop-at : goal.decreases-loop-at
decreases-loop-at g l = length l.slots.items - l.at
