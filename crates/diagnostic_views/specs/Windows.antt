-- What is shown of the line around a place, and the caret under that place.
use Rattle.std.specs.Prelude.{◌≡◌, ◌≢◌, ℕ, ◌+◌, ◌-◌, ◌<◌, ◌≤◌, ◌⊎◌, ◌&&◌, ◌==◌, nat_le, nat_lt, min, List, ◌++◌, take, drop, length, slice_index, slice_range, if◌then◌else◌}
use Rattle.diagnostic_views.specs.Shown.{all_shown, shown}

-- the line around an octet goes from `start` to `end`, where its line feed or the end of the source stands
pub record IsLine (source : List ℕ) (octet start stop : ℕ) : Type 0 where
  pub before : start ≤ octet
  pub behind : octet ≤ stop
  pub within : stop ≤ length source
  pub begins : (start ≡ 0) ⊎ (slice_index source (start - 1) ≡ 10)
  pub ends : (stop ≡ length source) ⊎ (slice_index source stop ≡ 10)
  pub whole : (k : ℕ) → start ≤ k → k < stop → slice_index source k ≢ 10

-- without the carriage return that a line may end with
abbrev pub without_return : List ℕ → ℕ → ℕ → ℕ
without_return source octet stop = if nat_lt octet stop && slice_index source (stop - 1) == 13 then stop - 1 else stop

-- what is shown before the octet, and from it on
abbrev pub shown_before : List ℕ → ℕ → ℕ → List ℕ
shown_before source octet start = all_shown (slice_range source start octet)

abbrev pub shown_behind : List ℕ → ℕ → ℕ → List ℕ
shown_behind source octet stop = all_shown (slice_range source octet (without_return source octet stop))

-- so much is cut at the front of a line with so many characters before the caret and so many behind it: nothing where
-- they fit into 120, else as much as leaves 60 before the caret, or 120 in all
abbrev pub cut : ℕ → ℕ → ℕ
cut before behind = if nat_le (before + behind) 120 then 0 else min (before - 60) (before + behind - 120)

-- 120 characters at most of the line from `start` to `stop`, and where among them those of the octet begin
pub record IsWindow (source : List ℕ) (octet start stop : ℕ) (text : List ℕ) (caret : ℕ) : Type 0 where
  pub line : IsLine source octet start stop
  pub cut_off : ℕ
  pub cut_is : cut_off ≡ cut (length (shown_before source octet start)) (length (shown_behind source octet stop))
  pub text_is : text ≡ take 120 (drop cut_off (shown_before source octet start ++ shown_behind source octet stop))
  pub caret_is : caret + cut_off ≡ length (shown_before source octet start)

-- the caret is under the first character of the octet, if that belongs to its line's text
pub record IsUnder (source : List ℕ) (octet stop : ℕ) (text : List ℕ) (caret : ℕ) : Type 0 where
  pub within : caret ≤ length text
  pub under : octet < without_return source octet stop
      → (rest : List ℕ) × (drop caret text ≡ shown (slice_index source octet) ++ rest)
