use Rattle.std.proofs.Common.{◌≡◌, ◌≤◌, ◌<◌, ◌*◌, ◌^◌, ◌-◌, ℕ, List, [], false, length}
use Rattle.broker_answers.specs.Streams.{Stream}
use Rattle.broker_answers.specs.Servants.{acts}
use Rattle.iiop_broker.specs.Listed.{IsThere}
use Rattle.iiop_broker.specs.AnsweredStreams.{AnsweredStream}
use Rattle.iiop_broker.specs.Outcomes.{ends}
use Rattle.iiop_broker.proofs.Going.{Going}
use Rattle.iiop_broker.proofs.pieces.serve_pieces.Given as goal

abbrev pub invariant-loop-count : goal.invariant-loop-count
invariant-loop-count g l = record {
  there : IsThere l.c l.broker.world.there;
  served : l.broker.served ≡ l.fn.broker.served;
  bound : l.sent ≤ l.count * 2 ^ 64;
  upto : l.count ≤ l.reads;
  room : 0 < length l.buffer;
  going : (others : List (ℕ × Stream)) (before : g.row.S.Denot)
      → AnsweredStream (acts g.S.Servant.says g.S.Servant.after) l.fn.broker.served l.c others before [] [] false
      l.fn.broker.world
      → Going (acts g.S.Servant.says g.S.Servant.after) l.fn.broker.served l.c others before
      (ends (g.I.Input.left l.fn.reader) (g.O.Output.written l.fn.writer) (g.I.Input.failure l.fn.reader)
      (g.O.Output.failure l.fn.writer))
      (ends (g.I.Input.left l.reader) (g.O.Output.written l.writer) (g.I.Input.failure l.reader)
      (g.O.Output.failure l.writer))
      l.sent l.count l.broker.world;
}

abbrev pub decreases-loop-count : goal.decreases-loop-count
decreases-loop-count g l = l.reads - l.count
