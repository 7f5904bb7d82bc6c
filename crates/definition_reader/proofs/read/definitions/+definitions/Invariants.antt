use Rattle.std.proofs.Common.{◌+◌, ◌*◌, ◌≤◌, length}
use Rattle.std.specs.List.{flat_map}
use Rattle.definition_reader.specs.inner.Reading.{Continued}
use Rattle.idl_tree.specs.Levels.{highest}
use Rattle.idl_tree.specs.DefinitionYields.{definition_yield}
use Rattle.idl_tree.specs.DefinitionLevels.{definition_levels}
use Rattle.idl_tree.specs.DefinitionDescent.{goes_on, definition_way}
use Rattle.definition_reader.specs.inner.Following.{Going}
use Rattle.definition_reader.proofs.read.definitions.+definitions.Given as goal

abbrev pub decreases-read_definitions : goal.decreases-read_definitions
decreases-read_definitions l = 2 * length l.cursor.now + 1

abbrev pub decreases-read_definition : goal.decreases-read_definition
decreases-read_definition l = 2 * length l.cursor.now

abbrev pub invariant-read_definitions-parts : goal.invariant-read_definitions-parts
invariant-read_definitions-parts l = record {
  spells : Continued l.initial.cursor (flat_map definition_yield l.definitions.items) l.cursor;
  levels : highest definition_levels l.definitions.items ≤ l.room;
  way : Going goes_on (definition_way l.room) l.initial.cursor l.cursor;
}

abbrev pub decreases-read_definitions-parts : goal.decreases-read_definitions-parts
decreases-read_definitions-parts l = length l.cursor
