use Rattle.std.proofs.Common.{◌-◌, ◌≤◌}
use Rattle.diagnostic_views.specs.Places.{IsLineStart}
use Rattle.diagnostic_views.proofs.source_places.places.line_start.Given as goal

abbrev pub invariant-loop-number : goal.invariant-loop-number
invariant-loop-number l = record {
  begun : IsLineStart l.source l.number l.start;
  within : l.number ≤ l.line;
}

abbrev pub decreases-loop-number : goal.decreases-loop-number
decreases-loop-number l = l.line - l.number
