use Rattle.std.proofs.Common.{◌<◌, ◌≤◌, ◌-◌, length}
use Rattle.type_faults.specs.AllFaults.{IsLowered}
use Rattle.type_faults.specs.Parts.{left}
use Rattle.type_faults.specs.inner.Searched.{IsFaulty}
use Rattle.type_faults.proofs.all_faults.narrow.Given as goal

abbrev pub invariant-loop-low : goal.invariant-loop-low
invariant-loop-low l = record {
  within : l.high ≤ length l.tokens;
  order : l.low ≤ l.high;
  strict : 0 < l.high → l.low < l.high;
  before : IsLowered l.tokens (left l.low l.refused l.tokens);
  behind : IsFaulty l.tokens (left l.high l.refused l.tokens);
}

abbrev pub decreases-loop-low : goal.decreases-loop-low
decreases-loop-low l = l.high - l.low
