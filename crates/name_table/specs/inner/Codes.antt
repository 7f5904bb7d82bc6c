-- Codes of texts: numbers of 64 bits, by which two texts are mostly told apart at once. Any function would do.
use Rattle.std.specs.Prelude.{ℕ, ◌+◌, ◌*◌, ◌%◌, ◌^◌, List, fold}

abbrev pub more_code : ℕ → ℕ → ℕ
more_code code octet = ((code * 257) % 2 ^ 64 + octet) % 2 ^ 64

unfoldable pub code_of : List ℕ → ℕ
code_of octets = fold more_code 0 octets
