-- What more octets change at the front of a stream: nothing, where a message or a fault stands there.
use Rattle.std.specs.Prelude.{◌≡◌, ℕ, List, ◌++◌}
use Rattle.giop_messages.specs.Framing.{Front, More, Broken, Piece, Whole}

-- the front of a stream, and that of the stream with more octets behind it
abbrev pub IsLonger : List ℕ → Front → Front → Type 0
IsLonger more More longer = Unit {0}
IsLonger more (Broken fault) longer = longer ≡ Broken fault
IsLonger more (Piece run rest) longer = longer ≡ Piece run (rest ++ more)
IsLonger more (Whole message run rest) longer = longer ≡ Whole message run (rest ++ more)
