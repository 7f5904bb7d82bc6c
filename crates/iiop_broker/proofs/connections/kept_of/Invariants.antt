use Rattle.std.proofs.Common.{◌≡◌, drop}
use Rattle.broker_answers.specs.Connections.{at}
use Rattle.iiop_broker.specs.Kept.{streams_of}
use Rattle.iiop_broker.proofs.connections.kept_of.Given as goal

abbrev pub invariant-loop-connection : goal.invariant-loop-connection
invariant-loop-connection l =
    at l.c (streams_of l.connections) ≡ at l.c (streams_of (drop l.connection-index l.connections))
