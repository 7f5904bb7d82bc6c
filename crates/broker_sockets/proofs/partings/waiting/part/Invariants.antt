use Rattle.std.proofs.Common.{length, ◌≡◌, true, List, ℕ}
use Rattle.std.specs.Io.KnownBytes.{Consumes}
use Rattle.broker_sockets.proofs.partings.waiting.part.Given as goal

abbrev pub invariant-loop : goal.invariant-loop
invariant-loop g l = record {
  shut : (g.P.Parting.parted l.connection).shut ≡ true;
  room : length l.buffer ≡ length l.fn.buffer;
  skips : (g.P.Parting.parted l.connection).skips ≡ l.counter;
  read : (octets : List ℕ) × Consumes (g.P.Parting.parted l.fn.connection).left (g.P.Parting.parted l.connection).left
      octets;
}
