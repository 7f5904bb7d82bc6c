use Rattle.std.proofs.Common.{◌++◌, ◌∙◌, Some, ap, sym}
use Rattle.std.specs.Prelude.{codes}
use Rattle.idl_tree.specs.Pieces.{mark}
use Rattle.definition_reader.proofs.Parts.{part_then}
use Rattle.definition_reader.proofs.Reading.{one_more, one_more_level, none_read, none_high}
use Rattle.definition_reader.proofs.Ways.{going_begins, going_on, going_ends, going_stops, on, past}
use Rattle.definition_reader.proofs.read.lists.read_rest.Goals as goal

pub parts-init : goal.parts-init
parts-init g c = record {
  spells = none_read _ _ _ c.new-rest.ensures.items;
  levels =
      none_high _ _ _ c.new-rest.ensures.items;
  way = going_begins _ _ _;
}

pub parts-preserved : goal.parts-preserved
parts-preserved g c =
    let spelled = part_then c.parts-test.ensures.read c.in-Ok.ensures.spells in
    record {
      spells = one_more (λ x. mark (codes ",") ++ g.T.Part.yield_of x) _ _ _ _ _ _ c.parts.invariant.spells spelled
          c.in-Ok-add.ensures.spells;
      levels = one_more_level g.T.Part.levels_of _ _ _ _ c.parts.invariant.levels c.in-Ok.ensures.levels
          c.in-Ok-add.ensures.spells;
      way = going_on _ _ _ _ _ c.parts.invariant.way c.parts-test.ensures.seen
          (on _ c.parts-test.ensures.way c.in-Ok.ensures.way) spelled.on;
    }

pub returns-in-Err-clause-stops : goal.returns-in-Err-clause-stops
returns-in-Err-clause-stops g c =
    going_stops _ _ _ _ _ c.parts.invariant.way c.parts-test.ensures.seen
    (past _ c.parts-test.ensures.way c.in-Err.ensures.stops)

pub returns-clause-way : goal.returns-clause-way
returns-clause-way g c = going_ends _ _ _ _ c.parts.invariant.way c.parts-test.ensures.unseen
    ∙ ap Some (sym c.parts-test.ensures.missing)
