use Rattle.std.proofs.Common.{◌≤◌, arith, ◌∙◌, sym, refl}
use Rattle.std.specs.Prelude.{codes}
use Rattle.idl_tree.specs.Pieces.{mark}
use Rattle.idl_tree.specs.DefinitionYields.{definition_yield}
use Rattle.idl_tree.specs.DefinitionLevels.{definition_levels}
use Rattle.definition_reader.specs.inner.Makings.{module_front}
use Rattle.definition_reader.proofs.Parts.{part_then, part_then_more}
use Rattle.definition_reader.proofs.Adding.{longer, longer_level, added_ended}
use Rattle.definition_reader.proofs.Ways.{going_on, open_at, halts, past, halts_seen, going_begins, going_ends, going_stops, tail_way, tail_stops, ends_open, ok_so, err_so, tail_seen, tail_unseen, tail_halts_seen, tail_halts_unseen, ends_so, definition_is, level_halts, two_on, two_past}
use Rattle.definition_reader.proofs.Reading.{none_read, none_high}
use Rattle.definition_reader.proofs.read.definitions.+definitions.Goals as goal

pub read_definitions-parts-preserved : goal.read_definitions-parts-preserved
read_definitions-parts-preserved t c = record {
  spells = longer definition_yield definition_levels _ _ _ _ _ _ c.parts.invariant.spells c.in-Ok.ensures.spells;
  levels = longer_level definition_yield definition_levels _ _ _ _ _ c.parts.invariant.levels c.in-Ok.ensures.spells;
  way = going_on _ _ _ _ _ c.parts.invariant.way (sym c.goes_on.ensures ∙ c.parts-test.true) c.in-Ok.ensures.way
      c.in-Ok.ensures.spells.spells.on;
}

pub read_definition-returns-clause-spells : goal.read_definition-returns-clause-spells
read_definition-returns-clause-spells t c =
    let opened = c.in-Ok in
    let inside = c.in-Ok-read_definitions in
    let m = c.in-Ok-add_module.ensures.spells in
    let few : definition_levels m.whole ≤ c.args.room =
    omega (arith, m.levels, opened.ensures.levels, inside.ensures.levels) in
    added_ended definition_yield definition_levels c.args.room _ _ _ (module_front opened.part.0 inside.part.items)
    (mark (codes ";")) _ _ m.whole c.mark-2.result
    (part_then (part_then_more opened.ensures.spells inside.ensures.spells) c.in-Ok-mark.ensures.read) m.spells few m.is
    c.mark-2.ensures.read

pub read_definition-returns-then-not-is_keyword-clause-way : goal.read_definition-returns-then-not-is_keyword-clause-way
read_definition-returns-then-not-is_keyword-clause-way t c =
    ok_so _ _ c.read_single.result (definition_is c.args.room c.args.cursor.now)
    (tail_unseen _ _ _ c.read_single.result (sym c.is_keyword.ensures ∙ c.if-not-is_keyword.true)
    c.read_single.ensures.way)

pub read_definition-returns-then-not-is_keyword-clause-stops :
    goal.read_definition-returns-then-not-is_keyword-clause-stops
read_definition-returns-then-not-is_keyword-clause-stops t c =
    err_so _ c.read_single.result (definition_is c.args.room c.args.cursor.now)
    (tail_halts_unseen _ _ c.read_single.result (sym c.is_keyword.ensures ∙ c.if-not-is_keyword.true)
    c.read_single.ensures.stops)

pub read_definition-returns-in-Err-clause-stops : goal.read_definition-returns-in-Err-clause-stops
read_definition-returns-in-Err-clause-stops t c =
    ends_so _ _ _ (definition_is c.args.room c.args.cursor.now)
    (halts_seen _ (sym c.is_keyword.ensures ∙ c.if-not-is_keyword.false)
    (level_halts _ _ _ (λ left u. _) c.in-Err.ensures.stops))

pub read_definition-returns-in-Err-read_definitions-clause-stops :
    goal.read_definition-returns-in-Err-read_definitions-clause-stops
read_definition-returns-in-Err-read_definitions-clause-stops t c =
    ends_so _ _ _ (definition_is c.args.room c.args.cursor.now)
    (halts_seen _ (sym c.is_keyword.ensures ∙ c.if-not-is_keyword.false)
    (ends_open _ c.in-Ok.ensures.levels
    (two_past _ _ _ _ c.in-Ok.ensures.way (halts _ c.in-Err-read_definitions.ensures.stops))))

pub read_definition-returns-in-Err-mark-clause-stops : goal.read_definition-returns-in-Err-mark-clause-stops
read_definition-returns-in-Err-mark-clause-stops t c =
    ends_so _ _ _ (definition_is c.args.room c.args.cursor.now)
    (halts_seen _ (sym c.is_keyword.ensures ∙ c.if-not-is_keyword.false)
    (ends_open _ c.in-Ok.ensures.levels
    (two_past _ _ _ _ c.in-Ok.ensures.way
    (past _ c.in-Ok-read_definitions.ensures.way (halts _ c.in-Err-mark.ensures.stops)))))

pub read_definition-returns-clause-way : goal.read_definition-returns-clause-way
read_definition-returns-clause-way t c =
    ok_so _ _ c.mark-2.result (definition_is c.args.room c.args.cursor.now)
    (tail_seen _ _ _ c.mark-2.result (sym c.is_keyword.ensures ∙ c.if-not-is_keyword.false)
    (ok_so _ _ c.mark-2.result (open_at _ _ _ c.in-Ok.ensures.levels ∙ two_on _ _ _ _ c.in-Ok.ensures.way refl)
    (tail_way _ _ _ _ c.mark-2.result c.in-Ok-read_definitions.ensures.way
    (tail_way _ _ _ _ c.mark-2.result c.in-Ok-mark.ensures.way c.mark-2.ensures.way))))

pub read_definition-returns-clause-stops : goal.read_definition-returns-clause-stops
read_definition-returns-clause-stops t c =
    err_so _ c.mark-2.result (definition_is c.args.room c.args.cursor.now)
    (tail_halts_seen _ _ c.mark-2.result (sym c.is_keyword.ensures ∙ c.if-not-is_keyword.false)
    (err_so _ c.mark-2.result (open_at _ _ _ c.in-Ok.ensures.levels ∙ two_on _ _ _ _ c.in-Ok.ensures.way refl)
    (tail_stops _ _ _ c.mark-2.result c.in-Ok-read_definitions.ensures.way
    (tail_stops _ _ _ c.mark-2.result c.in-Ok-mark.ensures.way c.mark-2.ensures.stops))))

pub read_definitions-parts-init : goal.read_definitions-parts-init
read_definitions-parts-init t c =
    record {
      spells = none_read _ _ _ c.new-definitions.ensures.items;
      levels =
          none_high _ _ _ c.new-definitions.ensures.items;
      way = going_begins _ _ _;
    }

pub read_definitions-returns-in-Err-clause-stops : goal.read_definitions-returns-in-Err-clause-stops
read_definitions-returns-in-Err-clause-stops t c =
    going_stops _ _ _ _ _ c.parts.invariant.way (sym c.goes_on.ensures ∙ c.parts-test.true) c.in-Err.ensures.stops

pub read_definitions-returns-clause-way : goal.read_definitions-returns-clause-way
read_definitions-returns-clause-way t c =
    going_ends _ _ _ _ c.parts.invariant.way (sym c.goes_on.ensures ∙ c.parts-test.false)
