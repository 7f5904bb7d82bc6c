use Rattle.std.proofs.Common.{◌≡◌, ◌+◌, ◌*◌, drop, length}
use Rattle.name_table.specs.Entries.{latest}
use Rattle.name_steps.specs.Steps.{definition_steps, steps_of}
use Rattle.scoped_names.specs.inner.Rising.{Rises}
use Rattle.scoped_names.proofs.Passed.{Continues}
use Rattle.scoped_names.proofs.reader.Reader.+passing.Given as goal

abbrev pub invariant-pass_definitions-loop-definition : goal.invariant-pass_definitions-loop-definition
invariant-pass_definitions-loop-definition l = record {
  passed : Continues l.fn.self l.fn.faults (steps_of l.definitions) l.self l.faults
      (steps_of (drop l.definition-index l.definitions));
  rises : Rises (latest l.self.entries) (steps_of (drop l.definition-index l.definitions));
  most : l.faults.most ≡ l.fn.faults.most;
}

abbrev pub decreases-pass_module : goal.decreases-pass_module
decreases-pass_module l = 3 * length (steps_of l.m.now.definitions.items) + 2

abbrev pub decreases-pass_definition : goal.decreases-pass_definition
decreases-pass_definition l = 3 * length (definition_steps l.d.now)

abbrev pub decreases-pass_definitions : goal.decreases-pass_definitions
decreases-pass_definitions l = 3 * length (steps_of l.definitions.now) + 1
