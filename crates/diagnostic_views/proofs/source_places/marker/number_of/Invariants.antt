use Rattle.std.proofs.Common.{◌≡◌, ◌≤◌, drop}
use Rattle.std.specs.List.{fold}
use Rattle.diagnostic_views.specs.Markers.{with_digit}
use Rattle.diagnostic_views.proofs.source_places.marker.number_of.Given as goal

abbrev pub invariant-loop-digit : goal.invariant-loop-digit
invariant-loop-digit l = record {
  within : l.number ≤ 1000000000;
  spelled : fold with_digit l.number (drop l.digit-index l.digits) ≡ fold with_digit 0 l.digits;
}
