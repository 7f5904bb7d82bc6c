use Rattle.std.proofs.Common.{◌<◌, ◌-◌, length}
use Rattle.call_client.proofs.Reading.{Going}
use Rattle.call_client.proofs.awaiting.await_reply.Given as goal

abbrev pub invariant-loop-count : goal.invariant-loop-count
invariant-loop-count g l = record {
  going : Going l.id (g.I.Input.left l.fn.reader) l.stream.run l.stream.rest.items (g.I.Input.left l.reader) l.count;
  room : 0 < length l.buffer;
}

abbrev pub decreases-loop-count : goal.decreases-loop-count
decreases-loop-count g l = l.reads - l.count
