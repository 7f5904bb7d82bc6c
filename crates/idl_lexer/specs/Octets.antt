-- Classes of octets. In every definition of this crate `s` is the source from some place on, and an
-- octet past its end reads as 0, which is in none of these classes.
use Rattle.std.specs.Prelude.{ℕ, Bool, ◌||◌, ◌==◌, List, drop}
use Rattle.std.specs.Char.{is_ascii_alphanumeric}
use Rattle.std.specs.Int.{is_in_range}
use Rattle.std.specs.List.{list_any, prefix_len}

-- space, tab, line feed, vertical tab, form feed and carriage return
abbrev pub is_blank : ℕ → Bool
is_blank c = c == 32 || is_in_range 9 13 c

abbrev pub is_line_feed : ℕ → Bool
is_line_feed c = c == 10

-- a letter, a digit or an underscore
abbrev pub is_word : ℕ → Bool
is_word c = is_ascii_alphanumeric c || c == 95

abbrev pub is_octal : ℕ → Bool
is_octal c = is_in_range 48 55 c

abbrev pub is_one_of : List ℕ → ℕ → Bool
is_one_of cs c = list_any (λ d. d == c) cs

-- how many octets stand at the front of s before the first that fails the test
abbrev pub run : (ℕ → Bool) → List ℕ → ℕ
run test s = prefix_len test s

-- what follows them
abbrev pub past : (ℕ → Bool) → List ℕ → List ℕ
past test s = drop (run test s) s
