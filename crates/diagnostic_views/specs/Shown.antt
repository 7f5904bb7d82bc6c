-- How octets of a source are shown, so that each is of known width and none does anything to a terminal.
use Rattle.std.specs.Prelude.{ℕ, ◌+◌, ◌/◌, ◌%◌, Bool, ◌&&◌, ◌==◌, nat_le, nat_lt, List, [], ◌∷◌, ◌++◌, codes, if◌then◌else◌}

-- a graphic character of ASCII, or a blank
abbrev pub is_plain : ℕ → Bool
is_plain c = nat_le 32 c && nat_le c 126

-- a digit of a hexadecimal number, in upper case
abbrev pub digit : ℕ → ℕ
digit n = if nat_lt n 10 then 48 + n else 55 + n

-- the octet itself, a tab as four blanks, any other one as \x and two digits
abbrev pub shown : ℕ → List ℕ
shown c = if is_plain c then c ∷ []
    else (if c == 9 then codes "    " else 92 ∷ 120 ∷ digit (c / 16) ∷ digit (c % 16) ∷ [])

abbrev pub all_shown : List ℕ → List ℕ
all_shown [] = []
all_shown (c ∷ rest) = shown c ++ all_shown rest
