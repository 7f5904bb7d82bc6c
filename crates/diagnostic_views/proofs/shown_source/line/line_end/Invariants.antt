use Rattle.std.proofs.Common.{◌≡◌, ◌≢◌, ◌<◌, ◌≤◌, ◌-◌, ℕ, length, slice_index}
use Rattle.diagnostic_views.proofs.shown_source.line.line_end.Given as goal

abbrev pub invariant-loop-end : goal.invariant-loop-end
invariant-loop-end l = record {
  behind : l.octet ≤ l.end;
  within : l.end ≤ length l.source;
  whole : (k : ℕ) → l.octet ≤ k → k < l.end → slice_index l.source k ≢ 10;
}

abbrev pub decreases-loop-end : goal.decreases-loop-end
decreases-loop-end l = length l.source - l.end
