-- JSON texts for a terminal.
use Rattle.std.specs.Prelude.{ℕ, ◌/◌, ◌%◌, List, [], ◌∷◌, flat_map, if◌then◌else◌}
use Rattle.std.specs.Char.{digit_char, encode_utf8}
use Rattle.std.specs.Int.{is_in_range}
use Rattle.std.specs.Str.{chars}

-- `\u00` and the two digits of a character below U+0100 (RFC 8259, section 7)
abbrev pub escape_of : ℕ → List ℕ
escape_of c = 92 ∷ 117 ∷ 48 ∷ 48 ∷ digit_char (c / 16) ∷ digit_char (c % 16) ∷ []

-- a character in UTF-8, but one from U+007F to U+009F as an escape
abbrev pub written : ℕ → List ℕ
written c = if is_in_range 0x7F 0x9F c then escape_of c else encode_utf8 c

-- the text, each of its characters written so
abbrev pub escaped : List ℕ → List ℕ
escaped text = flat_map written (chars text)
