-- Character and text literals and their escapes (lexical conventions, literals).
use Rattle.std.specs.Prelude.{◌≡◌, ◌≢◌, ℕ, ◌+◌, ◌<◌, Bool, true, not, ◌||◌, ◌&&◌, ◌==◌, List, [], ◌∷◌, take, drop, length, min, nat_lt, slice_index, codes, if◌then◌else◌}
use Rattle.std.specs.Char.{is_ascii_hexdigit}
use Rattle.std.specs.Str.Parse.{digits_value}
use Rattle.idl_lexer.specs.Octets.{is_octal, is_one_of, run}

-- c stands for itself between these quotes: ASCII, neither the quote nor a backslash nor a line's end
abbrev pub is_plain : ℕ → ℕ → Bool
is_plain quote c = nat_lt c 128 && not (c == quote || c == 92 || c == 10)

-- what may stand behind a backslash, beside digits
abbrev pub is_escape_letter : ℕ → Bool
is_escape_letter c = is_one_of (codes "ntvbrfa\\?'\"") c

-- the octet for which it stands there: \ ? ' " for themselves
abbrev pub letter_value : ℕ → ℕ
letter_value c =
    (if c == 110 then 10 else if c == 116 then 9 else if c == 118 then 11 else if c == 98 then 8
    else if c == 114 then 13 else if c == 102 then 12 else if c == 97 then 7 else c)

-- n digits at the front of s, as many as follow and at most `most`, write v
pub record IsEscapeDigits (test : ℕ → Bool) (radix most : ℕ) (s : List ℕ) (n v : ℕ) : Type 0 where
  pub some : 0 < n
  pub whole : n ≡ min (run test s) most
  pub value : v ≡ digits_value radix (take n s)

-- s begins with a character of n octets that stands for the octet v
pub data IsCharacter (quote : ℕ) (s : List ℕ) (n v : ℕ) : Type 0 where
  plain : 0 < length s → slice_index s 0 ≡ v → is_plain quote v ≡ true → n ≡ 1
      → IsCharacter quote s n v
  letter : slice_index s 0 ≡ 92 → is_escape_letter (slice_index s 1) ≡ true
      → v ≡ letter_value (slice_index s 1) → n ≡ 2 → IsCharacter quote s n v
  octal : (m : ℕ) → slice_index s 0 ≡ 92 → IsEscapeDigits is_octal 8 3 (drop 1 s) m v
      → v < 256 → n ≡ m + 1 → IsCharacter quote s n v
  hexadecimal : (m : ℕ) → slice_index s 0 ≡ 92 → slice_index s 1 ≡ 120
      → IsEscapeDigits is_ascii_hexdigit 16 2 (drop 2 s) m v → n ≡ m + 2 → IsCharacter quote s n v

-- s begins with characters, n octets in all, that stand for these octets, none of them the zero octet
pub data AreCharacters (quote : ℕ) : List ℕ → ℕ → List ℕ → Type 0 where
  none : (s : List ℕ) → AreCharacters quote s 0 []
  more : (s : List ℕ) (n v m k : ℕ) (vs : List ℕ) → IsCharacter quote s n v → v ≢ 0
      → AreCharacters quote (drop n s) m vs → k ≡ n + m → AreCharacters quote s k (v ∷ vs)

-- s begins with a character literal of n octets: one character between two '
pub record IsCharLiteral (s : List ℕ) (n : ℕ) : Type 0 where
  pub opens : slice_index s 0 ≡ 39
  pub value : ℕ
  pub inner : ℕ
  pub character : IsCharacter 39 (drop 1 s) inner value
  pub closes : slice_index s (inner + 1) ≡ 39
  pub length : n ≡ inner + 2

-- s begins with characters and the quote " behind them
pub record ClosedCharacters (s : List ℕ) : Type 0 where
  pub octets : List ℕ
  pub inner : ℕ
  pub characters : AreCharacters 34 s inner octets
  pub closes : slice_index s inner ≡ 34

-- s begins with a text literal of n octets: any number of characters between two "
pub record IsTextLiteral (s : List ℕ) (n : ℕ) : Type 0 where
  pub opens : slice_index s 0 ≡ 34
  pub octets : List ℕ
  pub inner : ℕ
  pub characters : AreCharacters 34 (drop 1 s) inner octets
  pub closes : slice_index s (inner + 1) ≡ 34
  pub length : n ≡ inner + 2
