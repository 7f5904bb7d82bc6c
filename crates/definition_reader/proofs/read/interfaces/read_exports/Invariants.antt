use Rattle.std.proofs.Common.{◌≤◌, length}
use Rattle.std.specs.List.{flat_map}
use Rattle.definition_reader.specs.inner.Reading.{Continued}
use Rattle.idl_tree.specs.Levels.{highest}
use Rattle.idl_tree.specs.DefinitionYields.{export_yield}
use Rattle.idl_tree.specs.DefinitionLevels.{export_levels}
use Rattle.idl_tree.specs.Descent.{no_brace}
use Rattle.idl_tree.specs.DefinitionDescent.{export_way}
use Rattle.definition_reader.specs.inner.Following.{Going}
use Rattle.definition_reader.proofs.read.interfaces.read_exports.Given as goal

abbrev pub invariant-parts : goal.invariant-parts
invariant-parts l = record {
  spells : Continued l.initial.cursor (flat_map export_yield l.exports.items) l.cursor;
  levels : highest export_levels l.exports.items ≤ l.room;
  way : Going no_brace (export_way l.room) l.initial.cursor l.cursor;
}

abbrev pub decreases-parts : goal.decreases-parts
decreases-parts l = length l.cursor
