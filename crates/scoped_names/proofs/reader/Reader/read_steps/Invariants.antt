use Rattle.std.proofs.Common.{◌≡◌, drop, map}
use Rattle.name_table.specs.Entries.{latest}
use Rattle.scoped_names.specs.Faults.{steps_read}
use Rattle.scoped_names.specs.inner.Rising.{Rises}
use Rattle.name_steps.specs.StepsKept.{step_of}
use Rattle.scoped_names.proofs.reader.Reader.read_steps.Given as goal

abbrev pub invariant-loop-step : goal.invariant-loop-step
invariant-loop-step l = record {
  told : steps_read l.self (map step_of (drop l.step-index l.steps)) ≡ steps_read l.fn.self (map step_of l.steps);
  rises : Rises (latest l.self.entries) (map step_of (drop l.step-index l.steps));
}
