use Rattle.std.proofs.Common.{◌≤◌, length}
use Rattle.std.specs.List.{flat_map}
use Rattle.definition_reader.specs.inner.Reading.{Continued}
use Rattle.idl_tree.specs.Levels.{highest, const_expr_levels}
use Rattle.idl_tree.specs.TypeYields.{size_yield}
use Rattle.std.specs.Prelude.{codes}
use Rattle.idl_tree.specs.Descent.{sees_mark, size_way}
use Rattle.definition_reader.specs.inner.Following.{Going}
use Rattle.definition_reader.proofs.read.types.read_sizes.Given as goal

abbrev pub invariant-parts : goal.invariant-parts
invariant-parts l = record {
  spells : Continued l.initial.cursor (flat_map size_yield l.sizes.items) l.cursor;
  levels : highest const_expr_levels l.sizes.items ≤ l.room;
  way : Going (sees_mark (codes "[")) (size_way l.room) l.initial.cursor l.cursor;
}

abbrev pub decreases-parts : goal.decreases-parts
decreases-parts l = length l.cursor
