-- Octets of a direction that have come and aren't told yet.
use Rattle.std.specs.Prelude.{ℕ, ◌+◌, ◌-◌, ◌^◌, min}

-- the place so many octets behind a place, as far as 64 bits tell it
abbrev pub behind : ℕ → ℕ → ℕ
behind place count = min (place + count) (2 ^ 64 - 1)
