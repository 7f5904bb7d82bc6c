use Rattle.idl_tree.specs.TypeYields.{label_yield}
use Rattle.idl_tree.specs.TypeLevels.{label_levels}
use Rattle.definition_reader.proofs.Reading.{one_more, one_more_level, none_read, none_high}
use Rattle.std.proofs.Common.{◌∙◌, sym}
use Rattle.definition_reader.proofs.Ways.{going_begins, going_on, going_ends, going_stops}
use Rattle.definition_reader.proofs.read.constructed.read_more_labels.Goals as goal

pub parts-init : goal.parts-init
parts-init c = record {
  spells = none_read _ _ _ c.new-labels.ensures.items;
  levels =
      none_high _ _ _ c.new-labels.ensures.items;
  way = going_begins _ _ _;
}

pub parts-preserved : goal.parts-preserved
parts-preserved c = record {
  spells = one_more label_yield _ _ _ _ _ _ c.parts.invariant.spells c.in-Ok.ensures.spells c.in-Ok-add.ensures.spells;
  levels = one_more_level label_levels _ _ _ _ c.parts.invariant.levels c.in-Ok.ensures.levels
      c.in-Ok-add.ensures.spells;
  way = going_on _ _ _ _ _ c.parts.invariant.way (sym c.is_label.ensures ∙ c.parts-test.true) c.in-Ok.ensures.way
      c.in-Ok.ensures.spells.on;
}

pub returns-in-Err-clause-stops : goal.returns-in-Err-clause-stops
returns-in-Err-clause-stops c =
    going_stops _ _ _ _ _ c.parts.invariant.way (sym c.is_label.ensures ∙ c.parts-test.true) c.in-Err.ensures.stops

pub returns-clause-way : goal.returns-clause-way
returns-clause-way c = going_ends _ _ _ _ c.parts.invariant.way (sym c.is_label.ensures ∙ c.parts-test.false)
