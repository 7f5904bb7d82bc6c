use Rattle.std.proofs.Common.{◌≡◌, drop}
use Rattle.iiop_broker.specs.Kept.{streams_of}
use Rattle.iiop_broker.specs.Listed.{place_from}
use Rattle.iiop_broker.proofs.connections.first_place.Given as goal

abbrev pub invariant-loop-place : goal.invariant-loop-place
invariant-loop-place l =
    place_from 0 l.c (streams_of l.connections) ≡ place_from l.place l.c (streams_of (drop l.place l.connections))
