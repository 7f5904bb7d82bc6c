-- Line markers (ISO/IEC 19500-1, preprocessing; ISO/IEC 9899, line control): #, maybe the word line, the number of the
-- line that follows, and maybe the name of its file in quotes.
use Rattle.std.specs.Prelude.{ℕ, ◌+◌, ◌*◌, ◌-◌, min, Bool, not, ◌||◌, ◌==◌, nat_eq, nat_lt, List, drop, length, slice_index, Option, Some, None, option_map, codes, if◌then◌else◌}
use Rattle.std.specs.Char.{is_ascii_digit}
use Rattle.std.specs.List.{before_first, fold, position_or_len, starts_with}
use Rattle.std.specs.Option.{option_and_then}

-- what a marker says of the line that follows it
pub record MarkerParts : Type 0 where
  pub line : ℕ
  pub file : Option (List ℕ)

-- blank, tab, carriage return
abbrev pub is_blank : ℕ → Bool
is_blank c = c == 32 || c == 9 || c == 13

abbrev pub past_blanks : List ℕ → List ℕ
past_blanks s = drop (position_or_len (λ c. not (is_blank c)) s) s

-- what stands behind the octet, which isn't 0 and with which the list has to begin
abbrev pub after_octet : ℕ → List ℕ → Option (List ℕ)
after_octet octet s = if slice_index s 0 == octet then Some (drop 1 s) else None

-- what stands behind the word line, which may be left out
abbrev pub past_word : List ℕ → List ℕ
past_word s = past_blanks (if starts_with nat_eq s (codes "line") then drop 4 s else s)

-- the number that digits spell, 1,000,000,000 where it is more
abbrev pub with_digit : ℕ → ℕ → ℕ
with_digit n digit = min (n * 10 + (digit - 48)) 1000000000

abbrev pub number_of : List ℕ → ℕ
number_of digits = fold with_digit 0 digits

-- the file's name ends before the first quote
abbrev pub file_in : List ℕ → Option (List ℕ)
file_in s = option_map (λ rest. before_first (λ c. c == 34) rest) (after_octet 34 s)

-- a number, and what the rest says of the file
abbrev pub numbered : List ℕ → Option MarkerParts
numbered s =
    let digits = before_first (λ c. not (is_ascii_digit c)) s in
    if nat_lt 0 (length digits)
    then Some (record { line = number_of digits; file = file_in (past_blanks (drop (length digits) s)) })
    else None

-- the marker that a line is
unfoldable pub marker_of : List ℕ → Option MarkerParts
marker_of line = option_and_then (λ rest. numbered (past_word (past_blanks rest))) (after_octet 35 (past_blanks line))
