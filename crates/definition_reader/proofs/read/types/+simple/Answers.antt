use Rattle.std.proofs.Common.{◌++◌, arith, ◌∙◌, sym}
use Rattle.std.specs.Prelude.{codes}
use Rattle.idl_tree.specs.Pieces.{keyword, mark}
use Rattle.idl_tree.specs.Yields.{optional}
use Rattle.idl_tree.specs.TypeYields.{simple_type_yield, sequence_bound_yield}
use Rattle.idl_tree.specs.TypeLevels.{simple_type_levels}
use Rattle.definition_reader.proofs.Parts.{part_then}
use Rattle.definition_reader.proofs.Pairs.{spelled_as, group_two, spelled_by, levels_by, handed}
use Rattle.definition_reader.proofs.Ways.{on, halts, past, unseen, halts_unseen, open_on, ends_open, open_halts, okay, full_stops, tail_seen, tail_halts_seen, simple_is}
use Rattle.definition_reader.proofs.read.types.+simple.Goals as goal

pub read_sequence-returns-clause-spells : goal.read_sequence-returns-clause-spells
read_sequence-returns-clause-spells t c =
    let element = c.in-Ok-read_simple_type in
    let bound = c.in-Ok-end_sequence in
    spelled_by _ _ simple_type_yield _ c.made.result
    (handed _ c.new_sequence.result c.made.result c.new_sequence.ensures.spells c.made.ensures.spells)
    (spelled_as (group_two (keyword (codes "sequence") ++ mark (codes "<") ++ simple_type_yield element.part)
    (optional sequence_bound_yield bound.part) (mark (codes ">")))
    (part_then (part_then c.in-Ok.ensures.spells element.ensures.spells) bound.ensures.spells))

pub read_sequence-returns-clause-levels : goal.read_sequence-returns-clause-levels
read_sequence-returns-clause-levels t c =
    levels_by simple_type_levels _ c.args.room c.made.result
    (handed _ c.new_sequence.result c.made.result c.new_sequence.ensures.levels c.made.ensures.spells)
    (omega (
      arith,
      c.in-Ok.ensures.levels,
      c.in-Ok-read_simple_type.ensures.levels,
      c.in-Ok-end_sequence.ensures.levels,
    ))

pub read_simple_type-returns-then-is_keyword-clause-way : goal.read_simple_type-returns-then-is_keyword-clause-way
read_simple_type-returns-then-is_keyword-clause-way t c =
    rw (simple_is c.args.room c.args.cursor.now)
    (tail_seen _ _ _ c.read_sequence.result (sym c.is_keyword.ensures ∙ c.if-is_keyword.true)
    c.read_sequence.ensures.way)

pub read_simple_type-returns-then-is_keyword-clause-stops : goal.read_simple_type-returns-then-is_keyword-clause-stops
read_simple_type-returns-then-is_keyword-clause-stops t c =
    rw (simple_is c.args.room c.args.cursor.now)
    (tail_halts_seen _ _ c.read_sequence.result (sym c.is_keyword.ensures ∙ c.if-is_keyword.true)
    c.read_sequence.ensures.stops)

pub read_simple_type-returns-in-Err-clause-stops : goal.read_simple_type-returns-in-Err-clause-stops
read_simple_type-returns-in-Err-clause-stops t c =
    rw (simple_is c.args.room c.args.cursor.now)
    (halts_unseen _ (sym c.is_keyword.ensures ∙ c.if-is_keyword.false) c.in-Err.ensures.stops)

pub read_simple_type-returns-clause-way : goal.read_simple_type-returns-clause-way
read_simple_type-returns-clause-way t c =
    rw (simple_is c.args.room c.args.cursor.now)
    (unseen _ (sym c.is_keyword.ensures ∙ c.if-is_keyword.false) c.in-Ok.ensures.way)

pub read_sequence-returns-in-Err-clause-stops : goal.read_sequence-returns-in-Err-clause-stops
read_sequence-returns-in-Err-clause-stops t c = open_halts _ _ (λ left u. _) c.in-Err.ensures.stops

pub read_sequence-returns-in-Err-read_simple_type-clause-stops :
    goal.read_sequence-returns-in-Err-read_simple_type-clause-stops
read_sequence-returns-in-Err-read_simple_type-clause-stops t c =
    ends_open _ c.in-Ok.ensures.levels (past _ c.in-Ok.ensures.way (halts _ c.in-Err-read_simple_type.ensures.stops))

pub read_sequence-returns-in-Err-end_sequence-clause-stops : goal.read_sequence-returns-in-Err-end_sequence-clause-stops
read_sequence-returns-in-Err-end_sequence-clause-stops t c =
    ends_open _ c.in-Ok.ensures.levels
    (past _ c.in-Ok.ensures.way (past _ c.in-Ok-read_simple_type.ensures.way c.in-Err-end_sequence.ensures.stops))

pub read_sequence-returns-clause-way : goal.read_sequence-returns-clause-way
read_sequence-returns-clause-way t c =
    okay c.made.result (open_on _ c.in-Ok.ensures.levels
    (on _ c.in-Ok.ensures.way (on _ c.in-Ok-read_simple_type.ensures.way c.in-Ok-end_sequence.ensures.way)))

pub read_sequence-returns-clause-stops : goal.read_sequence-returns-clause-stops
read_sequence-returns-clause-stops t c = full_stops _ c.made.result c.made.ensures.full
