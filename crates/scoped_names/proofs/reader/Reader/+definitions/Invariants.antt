use Rattle.std.proofs.Common.{◌≡◌, ◌+◌, ◌*◌, drop, length}
use Rattle.name_table.specs.Entries.{latest}
use Rattle.scoped_names.specs.Faults.{steps_read}
use Rattle.scoped_names.specs.inner.Rising.{Rises}
use Rattle.name_steps.specs.Steps.{definition_steps, steps_of}
use Rattle.scoped_names.proofs.reader.Reader.+definitions.Given as goal

abbrev pub invariant-read_definitions-loop-definition : goal.invariant-read_definitions-loop-definition
invariant-read_definitions-loop-definition l = record {
  told : steps_read l.self (steps_of (drop l.definition-index l.definitions))
      ≡ steps_read l.fn.self (steps_of l.definitions);
  rises : Rises (latest l.self.entries) (steps_of (drop l.definition-index l.definitions));
}

abbrev pub decreases-read_module : goal.decreases-read_module
decreases-read_module l = 3 * length (steps_of l.m.now.definitions.items) + 2

abbrev pub decreases-read_definition : goal.decreases-read_definition
decreases-read_definition l = 3 * length (definition_steps l.d.now)

abbrev pub decreases-read_definitions : goal.decreases-read_definitions
decreases-read_definitions l = 3 * length (steps_of l.definitions.now) + 1
