-- What is kept of connections.
use Rattle.std.specs.Prelude.{ℕ, List, map}
use Rattle.broker_answers.specs.Streams.{Stream, Open, Closed}
use Rattle.iiop_broker.specs.declared.kept.Kept.{Kept}
use Rattle.iiop_broker.specs.declared.kept.Kept.TheVariants as kept

abbrev pub stream_of : Kept → Stream
stream_of (kept.Open run rest) = Open run rest.items
stream_of kept.Closed = Closed

abbrev pub streams_of : List (ℕ × Kept) → List (ℕ × Stream)
streams_of = map (λ one. (one.0, stream_of one.1))
