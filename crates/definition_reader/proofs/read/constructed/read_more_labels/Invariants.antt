use Rattle.std.proofs.Common.{◌≤◌, length}
use Rattle.std.specs.List.{flat_map}
use Rattle.definition_reader.specs.inner.Reading.{Continued}
use Rattle.idl_tree.specs.Levels.{highest}
use Rattle.idl_tree.specs.TypeYields.{label_yield}
use Rattle.idl_tree.specs.TypeLevels.{label_levels}
use Rattle.idl_tree.specs.Descent.{label_way, sees_label}
use Rattle.definition_reader.specs.inner.Following.{Going}
use Rattle.definition_reader.proofs.read.constructed.read_more_labels.Given as goal

abbrev pub invariant-parts : goal.invariant-parts
invariant-parts l = record {
  spells : Continued l.initial.cursor (flat_map label_yield l.labels.items) l.cursor;
  levels : highest label_levels l.labels.items ≤ l.room;
  way : Going sees_label (label_way l.room) l.initial.cursor l.cursor;
}

abbrev pub decreases-parts : goal.decreases-parts
decreases-parts l = length l.cursor
