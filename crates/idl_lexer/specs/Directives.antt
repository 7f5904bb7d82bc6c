-- Lines that begin with #, as a preprocessor leaves them (ISO/IEC 19500-1, preprocessing, pragma
-- directives for repository ids). `Is.. s r` says that s begins with that part and goes on with r.
use Rattle.std.specs.Prelude.{◌≡◌, ◌≢◌, ℕ, ◌+◌, ◌-◌, ◌≤◌, Bool, true, not, ◌&&◌, ◌||◌, ◌==◌, ◌⊎◌, List, [], ◌∷◌, length, take, drop, slice_index, codes, if◌then◌else◌}
use Rattle.std.specs.Char.{is_ascii_digit}
use Rattle.std.specs.List.{list_all}
use Rattle.std.specs.Str.{bytes_eq}
use Rattle.idl_lexer.specs.Octets.{is_blank, is_line_feed, is_word, run, past}
use Rattle.idl_lexer.specs.Words.{IsIdentifier}

-- the line that s begins with, without its line feed
abbrev pub line_of : List ℕ → List ℕ
line_of s = take (run (λ c. not (is_line_feed c)) s) s

-- only blanks stand on the last line of what comes before
pub record IsFresh (before : List ℕ) : Type 0 where
  pub start : ℕ
  pub within : start ≤ length before
  pub begins : (start ≡ 0) ⊎ (slice_index before (start - 1) ≡ 10)
  pub blank : list_all is_blank (drop start before) ≡ true

-- the word that s begins with
abbrev pub word_of : List ℕ → List ℕ
word_of s = take (run is_word s) s

-- what follows the word and the blanks behind it
abbrev pub past_word : List ℕ → List ℕ
past_word s = past is_blank (past is_word s)

-- what follows the # and the blanks behind it
abbrev pub directive_part : List ℕ → List ℕ
directive_part line = past is_blank (drop 1 line)

-- # and the word pragma
pub record IsPragma (line : List ℕ) : Type 0 where
  pub hash : slice_index line 0 ≡ 35
  pub word : word_of (directive_part line) ≡ codes "pragma"

-- what follows the word pragma; the word at its front; and what follows that
abbrev pub pragma_part : List ℕ → List ℕ
pragma_part line = past_word (directive_part line)

abbrev pub pragma_word : List ℕ → List ℕ
pragma_word line = word_of (pragma_part line)

abbrev pub pragma_rest : List ℕ → List ℕ
pragma_rest line = past_word (pragma_part line)

-- what stands before the first quote, and the rest from that quote on
abbrev pub before_quote : List ℕ → List ℕ
before_quote s = take (run (λ c. not (c == 34)) s) s

abbrev pub from_quote : List ℕ → List ℕ
from_quote s = drop (run (λ c. not (c == 34)) s) s

-- the text of a quoted text, taken as it stands, so without a quote inside
abbrev pub quoted_text : List ℕ → List ℕ
quoted_text s = before_quote (drop 1 s)

-- a quoted text, and nothing but blanks behind it
pub record IsQuotedEnd (s : List ℕ) : Type 0 where
  pub opens : slice_index s 0 ≡ 34
  pub closes : slice_index (from_quote (drop 1 s)) 0 ≡ 34
  pub blank : list_all is_blank (drop 1 (from_quote (drop 1 s))) ≡ true

-- the octet c
pub record IsMark (c : ℕ) (s r : List ℕ) : Type 0 where
  pub here : slice_index s 0 ≡ c
  pub rest : r ≡ drop 1 s

-- one decimal digit or more
pub record IsDigits (s r : List ℕ) : Type 0 where
  pub some : is_ascii_digit (slice_index s 0) ≡ true
  pub rest : r ≡ past is_ascii_digit s

-- an identifier, and the blanks behind it
pub record IsName (s r : List ℕ) : Type 0 where
  pub long : ℕ
  pub name : IsIdentifier s long
  pub rest : r ≡ past is_blank (drop long s)

-- ::, and the blanks behind it
pub record IsScope (s r : List ℕ) : Type 0 where
  pub first : slice_index s 0 ≡ 58
  pub second : slice_index s 1 ≡ 58
  pub rest : r ≡ past is_blank (drop 2 s)

-- identifiers joined by ::, which may stand before the first too, with blanks behind each of these
pub data IsScopedName (s : List ℕ) : List ℕ → Type 0 where
  plain : (r : List ℕ) → IsName s r → IsScopedName s r
  rooted : (a r : List ℕ) → IsScope s a → IsName a r → IsScopedName s r
  more : (a b r : List ℕ) → IsScopedName s a → IsScope a b → IsName b r → IsScopedName s r

-- the place of the first digit that stands behind a blank, or the end
abbrev pub version_place : List ℕ → ℕ
version_place [] = 0
version_place (c ∷ cs) = (if is_blank c && is_ascii_digit (slice_index cs 0) then 1 else 1 + version_place cs)

-- major.minor
pub record IsVersion (s r : List ℕ) : Type 0 where
  pub point : List ℕ
  pub minor : List ℕ
  pub first : IsDigits s point
  pub between : IsMark 46 point minor
  pub second : IsDigits minor r

-- a name and a quoted text, and nothing but blanks behind them
pub record IsIdEnd (s : List ℕ) : Type 0 where
  pub name : IsScopedName (before_quote s) []
  pub text : IsQuotedEnd (from_quote s)

-- a name, a blank and major.minor, and nothing but blanks behind them
pub record IsVersionEnd (s : List ℕ) : Type 0 where
  pub name : IsScopedName (take (version_place s) s) []
  pub rest : List ℕ
  pub number : IsVersion (drop (version_place s) s) rest
  pub blank : list_all is_blank rest ≡ true

-- major.minor itself
abbrev pub version_number : List ℕ → List ℕ
version_number s = take (run (λ c. is_ascii_digit c || c == 46) s) s

-- the pragmas for repository ids, as whole lines
pub data IsKept (line : List ℕ) : Type 0 where
  -- #pragma prefix "text"
  prefix : IsPragma line → pragma_word line ≡ codes "prefix" → IsQuotedEnd (pragma_rest line) → IsKept line
  -- #pragma ID name "text"
  id : IsPragma line → pragma_word line ≡ codes "ID" → IsIdEnd (pragma_rest line) → IsKept line
  -- #pragma version name major.minor
  version : IsPragma line → pragma_word line ≡ codes "version" → IsVersionEnd (pragma_rest line) → IsKept line

abbrev pub is_kept_word : List ℕ → Bool
is_kept_word w = bytes_eq w (codes "prefix") || bytes_eq w (codes "ID") || bytes_eq w (codes "version")

-- from i to j no quote stands, except behind a backslash
pub data IsFileText (s : List ℕ) (i : ℕ) : ℕ → Type 0 where
  none : IsFileText s i i
  plain : (j k : ℕ) → IsFileText s i j
      → slice_index s j ≢ 34 → slice_index s j ≢ 92 → k ≡ j + 1 → IsFileText s i k
  hidden : (j k : ℕ) → IsFileText s i j → slice_index s j ≡ 92 → k ≡ j + 2 → IsFileText s i k

-- a quoted file name, in which a backslash hides the octet after it
pub record IsFile (s r : List ℕ) : Type 0 where
  pub opens : slice_index s 0 ≡ 34
  pub last : ℕ
  pub text : IsFileText s 1 last
  pub closes : slice_index s last ≡ 34
  pub rest : r ≡ drop (last + 1) s

-- # 12 "file" and digits and blanks in any form
pub record IsMarker (line : List ℕ) : Type 0 where
  pub hash : slice_index line 0 ≡ 35
  pub behind_digits : List ℕ
  pub number : IsDigits (directive_part line) behind_digits
  pub behind_file : List ℕ
  pub file : IsFile (past is_blank behind_digits) behind_file
  pub flags : list_all (λ o. is_blank o || is_ascii_digit o) behind_file ≡ true

-- #line, and whatever follows
pub record IsLineDirective (line : List ℕ) : Type 0 where
  pub hash : slice_index line 0 ≡ 35
  pub word : word_of (directive_part line) ≡ codes "line"

-- a #pragma whose first word is none of the kept ones
pub record IsOtherPragma (line : List ℕ) : Type 0 where
  pub pragma : IsPragma line
  pub other : not (is_kept_word (pragma_word line)) ≡ true

-- the directives that say nothing about the types, as whole lines
pub data IsSkipped (line : List ℕ) : Type 0 where
  marker : IsMarker line → IsSkipped line
  line : IsLineDirective line → IsSkipped line
  pragma : IsOtherPragma line → IsSkipped line
