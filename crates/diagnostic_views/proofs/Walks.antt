-- The place behind lines, line by line.
use Rattle.std.proofs.Common.{◌≡◌, ◌==◌, ◌+◌, ◌<◌, ℕ, Bool, true, false, not, cond, List, [], ◌∷◌, length, refl, arith}
use Rattle.std.specs.List.{after_first, before_first, onto_first, position_or_len, slice_split}
use Rattle.std.proofs.lemmas.List.Splits.{length-slice_split, slice_split_first}
use Rattle.std.proofs.lemmas.List.{length-drop}
use Rattle.diagnostic_views.specs.Markers.{marker_of}
use Rattle.diagnostic_views.specs.Places.{PlaceParts, behind_all, following, IsCut}

more : (place : PlaceParts) (line : List ℕ) (rest : List (List ℕ)) → (length rest ≡ 0 → ⊥)
    → behind_all place (line ∷ rest) ≡ behind_all (following place (marker_of line)) rest
more place line [] some = absurd (some refl)
more place line (next ∷ rest) some = refl

some : (octets : List ℕ) → length (slice_split (λ c. c == 10) octets) ≡ 0 → ⊥
some octets none = let counted = length-slice_split (λ (c : ℕ). c == 10) octets in omega arith

-- one line further
pub further : (place : PlaceParts) (octets line rest : List ℕ) → IsCut octets line rest
    → behind_all place (slice_split (λ c. c == 10) octets)
    ≡ behind_all (following place (marker_of line)) (slice_split (λ c. c == 10) rest)
further place octets line rest cut =
    let parts = slice_split_first (λ c. c == 10) octets 0 cut.within in
    rw (cut.line_is, cut.rest_is, parts)
    (more place (before_first (λ c. c == 10) octets)
    (slice_split (λ c. c == 10) (after_first (λ c. c == 10) octets))
    (some (after_first (λ c. c == 10) octets)))

pub shorter : (octets line rest : List ℕ) → IsCut octets line rest → length rest < length octets
shorter octets line rest cut =
    let cut_short = length-drop {A = ℕ} (position_or_len (λ c. c == 10) octets + 1) octets in
    let within = cut.within in
    rw cut.rest_is (omega arith)

step : (b : Bool) (c n : ℕ) (rest : List ℕ) (parts : List (List ℕ)) → cond (not b) (1 + n) 0 ≡ length (c ∷ rest)
    → (n ≡ length rest → parts ≡ rest ∷ []) → cond b ([] ∷ parts) (onto_first c parts) ≡ (c ∷ rest) ∷ []
step true c n rest parts is then = absurd (omega arith)
step false c n rest parts is then = rw (then (omega arith)) refl

-- without a line feed there is one part
ended : (octets : List ℕ) → position_or_len (λ c. c == 10) octets ≡ length octets
    → slice_split (λ c. c == 10) octets ≡ octets ∷ []
ended [] is = refl
ended (c ∷ rest) is = step (c == 10) c (position_or_len (λ c. c == 10) rest) rest (slice_split (λ c. c == 10) rest) is
    (ended rest)

-- no line is whole any more
pub last : (place : PlaceParts) (octets : List ℕ) → position_or_len (λ c. c == 10) octets ≡ length octets
    → behind_all place (slice_split (λ c. c == 10) octets) ≡ place
last place octets is = rw (ended octets is) refl
