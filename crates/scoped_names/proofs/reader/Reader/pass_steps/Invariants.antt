use Rattle.std.proofs.Common.{◌≡◌, drop, map}
use Rattle.name_table.specs.Entries.{latest}
use Rattle.name_steps.specs.StepsKept.{step_of}
use Rattle.scoped_names.specs.inner.Rising.{Rises}
use Rattle.scoped_names.proofs.Passed.{Continues}
use Rattle.scoped_names.proofs.reader.Reader.pass_steps.Given as goal

abbrev pub invariant-loop-step : goal.invariant-loop-step
invariant-loop-step l = record {
  passed : Continues l.fn.self l.fn.faults (map step_of l.steps) l.self l.faults
      (map step_of (drop l.step-index l.steps));
  rises : Rises (latest l.self.entries) (map step_of (drop l.step-index l.steps));
  most : l.faults.most ≡ l.fn.faults.most;
}
