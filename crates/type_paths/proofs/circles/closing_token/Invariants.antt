use Rattle.std.proofs.Common.{◌-◌, ℕ, ◌<◌, ◌≤◌}
use Rattle.type_paths.specs.Paths.{GoesRoundBy}
use Rattle.type_paths.proofs.circles.closing_token.Given as goal

abbrev pub invariant-loop-low : goal.invariant-loop-low
invariant-loop-low l = record {
  order : l.low ≤ l.high;
  round : GoesRoundBy l.types l.high;
  before : (less : ℕ) → less < l.low → GoesRoundBy l.types less → ⊥;
}

abbrev pub decreases-loop-low : goal.decreases-loop-low
decreases-loop-low l = l.high - l.low
