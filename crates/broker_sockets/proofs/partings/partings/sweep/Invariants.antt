use Rattle.std.proofs.Common.{◌≡◌, ◌-◌, length, map}
use Rattle.broker_sockets.specs.inner.Sweeping.{IsFar}
use Rattle.broker_sockets.proofs.partings.partings.sweep.Given as goal

abbrev pub invariant-loop-at : goal.invariant-loop-at
invariant-loop-at g l = record {
  room : length l.buffer ≡ length l.fn.buffer;
  far : IsFar g.P.Parting.parted l.limits (map g.P.Parting.parted l.fn.connections.items) l.connections.items l.at;
}

abbrev pub decreases-loop-at : goal.decreases-loop-at
decreases-loop-at g l = length l.connections.items - l.at
