-- Integer literals (lexical conventions, literals).
use Rattle.std.specs.Prelude.{◌≡◌, ℕ, ◌^◌, ◌<◌, Bool, true, not, ◌||◌, ◌==◌, ◌⊎◌, List, take, drop, slice_index, if◌then◌else◌}
use Rattle.std.specs.Int.{is_in_range}
use Rattle.std.specs.Str.Parse.{IsNumeral, digits_value}
use Rattle.idl_lexer.specs.Octets.{is_word, run}

-- digits of the radix, one or more, for a number of at most 64 bits
pub record IsNumber (radix : ℕ) (digits : List ℕ) : Type 0 where
  pub numeral : IsNumeral radix digits
  pub fits : digits_value radix digits < 2 ^ 64

-- a digit other than 0, and decimal digits
pub record IsDecimal (t : List ℕ) : Type 0 where
  pub first : is_in_range 49 57 (slice_index t 0) ≡ true
  pub digits : IsNumber 10 t

-- 0 and octal digits
pub record IsOctal (t : List ℕ) : Type 0 where
  pub first : slice_index t 0 ≡ 48
  pub digits : IsNumber 8 t

-- 0x or 0X and hexadecimal digits
pub record IsHexadecimal (t : List ℕ) : Type 0 where
  pub first : slice_index t 0 ≡ 48
  pub mark : (slice_index t 1 == 120 || slice_index t 1 == 88) ≡ true
  pub digits : IsNumber 16 (drop 2 t)

-- an integer literal
abbrev pub IsLiteral : List ℕ → Type 0
IsLiteral t = IsDecimal t ⊎ IsOctal t ⊎ IsHexadecimal t

-- its value
abbrev pub number_value : List ℕ → ℕ
number_value t =
    (if not (slice_index t 0 == 48) then digits_value 10 t
    else if slice_index t 1 == 120 || slice_index t 1 == 88 then digits_value 16 (drop 2 t)
    else digits_value 8 t)

abbrev pub is_word_or_point : ℕ → Bool
is_word_or_point c = is_word c || c == 46

-- s begins with a number of n octets, and no letter, digit, underscore or point follows it at once
pub record IsInteger (s : List ℕ) (n : ℕ) : Type 0 where
  pub whole : n ≡ run is_word_or_point s
  pub form : IsLiteral (take n s)
