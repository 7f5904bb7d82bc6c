use Rattle.std.proofs.Common.{◌++◌, ◌≤◌, length}
use Rattle.std.specs.List.{flat_map}
use Rattle.std.specs.Prelude.{codes}
use Rattle.definition_reader.specs.inner.Reading.{Continued}
use Rattle.definition_reader.specs.inner.Following.{Going}
use Rattle.idl_tree.specs.Levels.{highest}
use Rattle.idl_tree.specs.Pieces.{mark}
use Rattle.idl_tree.specs.Descent.{sees_mark, mark_taken, and_then}
use Rattle.definition_reader.proofs.read.lists.read_rest.Given as goal

abbrev pub invariant-parts : goal.invariant-parts
invariant-parts g l = record {
  spells : Continued l.initial.cursor (flat_map (λ x. mark (codes ",") ++ g.T.Part.yield_of x) l.rest.items) l.cursor;
  levels : highest g.T.Part.levels_of l.rest.items ≤ l.room;
  way : Going (sees_mark (codes ",")) (λ u. and_then (mark_taken (codes ",") u) (g.T.Part.way_of l.room))
      l.initial.cursor l.cursor;
}

abbrev pub decreases-parts : goal.decreases-parts
decreases-parts g l = length l.cursor
