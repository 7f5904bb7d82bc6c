-- What literals stand for, as functions of what is written (lexical conventions, literals).
use Rattle.std.specs.Prelude.{ℕ, zero, suc, ◌+◌, ◌==◌, List, [], ◌∷◌, take, drop, length, min, slice_index, if◌then◌else◌}
use Rattle.std.specs.Char.{is_ascii_hexdigit}
use Rattle.std.specs.Str.Parse.{digits_value}
use Rattle.idl_lexer.specs.Octets.{is_octal, run}
use Rattle.idl_lexer.specs.Literals.{letter_value}

-- the character that a text begins with: in how many octets it is written, and the octet for which it stands
pub record Reading : Type 0 where
  pub len : ℕ
  pub value : ℕ

-- a character that stands for itself
abbrev pub plain_reading : List ℕ → Reading
plain_reading s = record { len = 1; value = slice_index s 0 }

-- a backslash and a letter or a mark
abbrev pub letter_reading : List ℕ → Reading
letter_reading s = record { len = 2; value = letter_value (slice_index s 1) }

-- a backslash and at most three octal digits
abbrev pub octal_reading : List ℕ → Reading
octal_reading s =
    let n = min (run is_octal (drop 1 s)) 3 in
    record { len = n + 1; value = digits_value 8 (take n (drop 1 s)) }

-- \x and at most two hexadecimal digits
abbrev pub hex_reading : List ℕ → Reading
hex_reading s =
    let n = min (run is_ascii_hexdigit (drop 2 s)) 2 in
    record { len = n + 2; value = digits_value 16 (take n (drop 2 s)) }

abbrev pub reading : List ℕ → Reading
reading s =
    (if slice_index s 0 == 92 then
    (if slice_index s 1 == 120 then hex_reading s
    else if is_octal (slice_index s 1) then octal_reading s
    else letter_reading s)
    else plain_reading s)

-- the octet for which a character literal stands
abbrev pub character_octet : List ℕ → ℕ
character_octet text = (reading (drop 1 text)).value

-- the octets for which the characters before the first quote stand that is none of theirs, of at most n characters
abbrev pub octets_before_quote : ℕ → List ℕ → List ℕ
octets_before_quote zero s = []
octets_before_quote (suc n) s =
    (if slice_index s 0 == 34 then []
    else (reading s).value ∷ octets_before_quote n (drop (reading s).len s))

-- the octets for which a text literal stands
abbrev pub text_octets : List ℕ → List ℕ
text_octets text = octets_before_quote (length text) (drop 1 text)
