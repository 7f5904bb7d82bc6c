use Rattle.std.proofs.Common.{◌≡◌, ◌≤◌, ◌+◌, ◌^◌, ◌==◌, length}
use Rattle.std.specs.List.{slice_split}
use Rattle.diagnostic_views.specs.PlaceViews.{place_parts}
use Rattle.diagnostic_views.specs.Places.{behind_all}
use Rattle.diagnostic_views.proofs.source_places.places.place_at.Given as goal

abbrev pub invariant-loop-line : goal.invariant-loop-line
invariant-loop-line l = record {
  same : behind_all (place_parts l.place) (slice_split (λ c. c == 10) l.left)
      ≡ behind_all (place_parts l.initial.place) (slice_split (λ c. c == 10) l.initial.left);
  fits : l.place.line + length l.left ≤ 2 ^ 63 + 1000000000;
  short : length l.left ≤ 2 ^ 63;
}

abbrev pub decreases-loop-line : goal.decreases-loop-line
decreases-loop-line l = length l.left
