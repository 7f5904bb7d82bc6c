use Rattle.std.proofs.Common.{◌++◌, length}
use Rattle.std.specs.List.{flat_map}
use Rattle.std.specs.Prelude.{codes}
use Rattle.definition_reader.specs.inner.Reading.{Continued}
use Rattle.definition_reader.specs.inner.Following.{Going}
use Rattle.idl_tree.specs.Pieces.{mark}
use Rattle.idl_tree.specs.Yields.{identifier}
use Rattle.idl_tree.specs.Descent.{sees_mark, mark_taken, identifier_way, and_then}
use Rattle.definition_reader.proofs.read.names.read_parts.Given as goal

abbrev pub invariant-parts : goal.invariant-parts
invariant-parts l = record {
  spells : Continued l.fn.cursor (flat_map (λ x. mark (codes "::") ++ identifier x) l.rest.items) l.cursor;
  way : Going (sees_mark (codes "::")) (λ u. and_then (mark_taken (codes "::") u) (λ v. identifier_way v)) l.fn.cursor
      l.cursor;
}

abbrev pub decreases-parts : goal.decreases-parts
decreases-parts l = length l.cursor
