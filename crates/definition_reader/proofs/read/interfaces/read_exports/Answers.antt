use Rattle.idl_tree.specs.DefinitionYields.{export_yield}
use Rattle.idl_tree.specs.DefinitionLevels.{export_levels}
use Rattle.definition_reader.proofs.Parts.{part_then, part_then_more}
use Rattle.definition_reader.proofs.Adding.{longer, longer_level}
use Rattle.definition_reader.proofs.Ways.{going_on, on, halts, past, going_begins, going_ends, going_stops, brace_off, brace_on}
use Rattle.std.proofs.Common.{◌∙◌, sym}
use Rattle.definition_reader.proofs.Reading.{none_read, none_high}
use Rattle.definition_reader.proofs.read.interfaces.read_exports.Goals as goal

pub parts-preserved : goal.parts-preserved
parts-preserved c = record {
  spells = longer export_yield export_levels _ _ _ _ _ _ c.parts.invariant.spells c.in-Ok-read_export.ensures.spells;
  levels = longer_level export_yield export_levels _ _ _ _ _ c.parts.invariant.levels
      c.in-Ok-read_export.ensures.spells;
  way = going_on _ _ _ _ _ c.parts.invariant.way (brace_off _ (sym c.is_mark.ensures ∙ c.parts-test.true))
      c.in-Ok-read_export.ensures.way c.in-Ok-read_export.ensures.spells.spells.on;
}

pub returns-clause-spells : goal.returns-clause-spells
returns-clause-spells c =
    rw c.shrink_to_fit.ensures.items
    (part_then (part_then_more c.in-Ok.ensures.read c.parts.invariant.spells) c.in-Ok-mark.ensures.read)

pub returns-clause-levels : goal.returns-clause-levels
returns-clause-levels c = rw c.shrink_to_fit.ensures.items c.parts.invariant.levels

pub parts-init : goal.parts-init
parts-init c = record {
  spells = none_read _ _ _ c.new-exports.ensures.items;
  levels =
      none_high _ _ _ c.new-exports.ensures.items;
  way = going_begins _ _ _;
}

pub returns-in-Err-clause-stops : goal.returns-in-Err-clause-stops
returns-in-Err-clause-stops c = halts _ c.in-Err.ensures.stops

pub returns-in-Err-read_export-clause-stops : goal.returns-in-Err-read_export-clause-stops
returns-in-Err-read_export-clause-stops c =
    past _ c.in-Ok.ensures.way
    (halts _ (going_stops _ _ _ _ _ c.parts.invariant.way (brace_off _ (sym c.is_mark.ensures ∙ c.parts-test.true))
    c.in-Err-read_export.ensures.stops))

pub returns-in-Err-mark-clause-stops : goal.returns-in-Err-mark-clause-stops
returns-in-Err-mark-clause-stops c =
    past _ c.in-Ok.ensures.way
    (past _ (going_ends _ _ _ _ c.parts.invariant.way (brace_on _ (sym c.is_mark.ensures ∙ c.parts-test.false)))
    c.in-Err-mark.ensures.stops)

pub returns-clause-way : goal.returns-clause-way
returns-clause-way c = on _ c.in-Ok.ensures.way
    (on _ (going_ends _ _ _ _ c.parts.invariant.way (brace_on _ (sym c.is_mark.ensures ∙ c.parts-test.false)))
    c.in-Ok-mark.ensures.way)
