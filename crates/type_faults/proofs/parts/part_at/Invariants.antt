use Rattle.std.proofs.Common.{◌≤◌}
use Rattle.type_faults.specs.inner.Searched.{depth_of}
use Rattle.type_faults.proofs.parts.part_at.Given as goal

abbrev pub invariant-loop-token : goal.invariant-loop-token
invariant-loop-token l = record {
  depth : depth_of l.scan.mode ≤ l.token-index;
  parts : l.scan.parts ≤ l.token-index;
}
