-- What stands between tokens: blanks, comments and the directives that are skipped (lexical
-- conventions, comments, white space).
use Rattle.std.specs.Prelude.{◌≡◌, ℕ, ◌+◌, ◌<◌, Bool, true, false, not, ◌&&◌, ◌==◌, List, length, take, drop, slice_index}
use Rattle.std.specs.Char.{is_ascii}
use Rattle.std.specs.List.{list_all}
use Rattle.idl_lexer.specs.Octets.{is_blank, is_line_feed, run}
use Rattle.idl_lexer.specs.Directives.{IsFresh, IsSkipped, line_of}

-- // and what follows on its line
pub record IsLineComment (s : List ℕ) (n : ℕ) : Type 0 where
  pub first : slice_index s 0 ≡ 47
  pub second : slice_index s 1 ≡ 47
  pub whole : n ≡ run (λ c. not (is_line_feed c)) s

-- */ stands at k
abbrev pub closes_at : List ℕ → ℕ → Bool
closes_at s k = slice_index s k == 42 && slice_index s (k + 1) == 47

-- from /* to the first */ behind it
pub record IsBlockComment (s : List ℕ) (n : ℕ) : Type 0 where
  pub first : slice_index s 0 ≡ 47
  pub second : slice_index s 1 ≡ 42
  pub inner : ℕ
  pub closes : closes_at s (inner + 2) ≡ true
  pub before : (k : ℕ) → k < inner → closes_at s (k + 2) ≡ false
  pub length : n ≡ inner + 4

-- s begins with one skippable thing of n octets; a directive is skipped where only blanks stand
-- before it on its line
pub data Skips (before s : List ℕ) (n : ℕ) : Type 0 where
  blank : is_blank (slice_index s 0) ≡ true → n ≡ run is_blank s → Skips before s n
  line_comment : IsLineComment s n → Skips before s n
  block_comment : IsBlockComment s n → Skips before s n
  directive : IsFresh before → list_all is_ascii (line_of s) ≡ true
      → IsSkipped (line_of s) → n ≡ length (line_of s) → Skips before s n

-- from i to j the source is skippable, one thing after another
pub data IsGap (source : List ℕ) (i : ℕ) : ℕ → Type 0 where
  none : IsGap source i i
  more : (j n k : ℕ) → IsGap source i j
      → Skips (take j source) (drop j source) n → k ≡ j + n → IsGap source i k
