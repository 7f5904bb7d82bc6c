-- Where a place of a preprocessed file stands in the files as they were written.
use Rattle.std.specs.Prelude.{◌≡◌, ℕ, ◌+◌, ◌-◌, ◌≤◌, ◌<◌, ◌⊎◌, ◌==◌, List, [], ◌∷◌, take, slice_index, Option, Some, None, count_by, length}
use Rattle.std.specs.Option.{option_or}
use Rattle.std.specs.List.{after_first, before_first, position_or_len, slice_split}
use Rattle.diagnostic_views.specs.Markers.{MarkerParts, marker_of}

-- a line of a file, counted from 1; the file that was preprocessed has no name until a marker names one
pub record PlaceParts : Type 0 where
  pub file : Option (List ℕ)
  pub line : ℕ

-- behind a line that is no marker comes the next one; behind a marker the one that it says, in the file that it names,
-- else in the same
abbrev pub following : PlaceParts → Option MarkerParts → PlaceParts
following place None = record { file = place.file; line = place.line + 1 }
following place (Some marker) = record { file = option_or marker.file place.file; line = marker.line }

-- behind all of the lines but the last, which isn't whole
abbrev pub behind_all : PlaceParts → List (List ℕ) → PlaceParts
behind_all place [] = place
behind_all place (last ∷ []) = place
behind_all place (line ∷ next ∷ rest) = behind_all (following place (marker_of line)) (next ∷ rest)

abbrev pub begin : PlaceParts
begin = record { file = None; line = 1 }

-- the first line, without its line feed, and the rest
pub record IsCut (octets line rest : List ℕ) : Type 0 where
  pub within : position_or_len (λ c. c == 10) octets < length octets
  pub line_is : line ≡ before_first (λ c. c == 10) octets
  pub rest_is : rest ≡ after_first (λ c. c == 10) octets

-- the place of an octet: that of its line
unfoldable pub place_of : List ℕ → ℕ → PlaceParts
place_of source octet = behind_all begin (slice_split (λ c. c == 10) (take octet source))

-- the line with this number, counted from 1 in the source itself, begins there
pub record IsLineStart (source : List ℕ) (line octet : ℕ) : Type 0 where
  pub within : octet ≤ length source
  pub begins : (octet ≡ 0) ⊎ (slice_index source (octet - 1) ≡ 10)
  pub counts : count_by (λ c. c == 10) (take octet source) + 1 ≡ line

-- the source has no line of this number
abbrev pub IsNoLine : List ℕ → ℕ → Type 0
IsNoLine source line = (line ≡ 0) ⊎ (count_by (λ c. c == 10) source + 1 < line)
