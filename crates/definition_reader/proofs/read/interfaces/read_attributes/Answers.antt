use Rattle.definition_reader.proofs.Parts.{part_then_more}
use Rattle.definition_reader.specs.inner.Following.{raising_way}
use Rattle.std.proofs.Common.{◌∙◌, sym, ap}
use Rattle.definition_reader.proofs.Ways.{on, halts, past, seen, halts_seen, tail_way, tail_stops, ok_so, err_so, tail_unseen, tail_halts_unseen, ends_so, attributes_are, tail_raising, tail_raising_stops}
use Rattle.definition_reader.proofs.read.interfaces.read_attributes.Goals as goal

pub returns-then-is_mark-clause-spells : goal.returns-then-is_mark-clause-spells
returns-then-is_mark-clause-spells c =
    rw c.silent.ensures (part_then_more c.in-Ok.ensures.read c.in-Ok-read_rest.ensures.spells)

pub returns-in-Err-clause-stops : goal.returns-in-Err-clause-stops
returns-in-Err-clause-stops c =
    ends_so _ _ _ (attributes_are c.args.is_readonly c.args.cursor.now) (halts _ c.in-Err.ensures.stops)

pub returns-in-Err-read_rest-clause-stops : goal.returns-in-Err-read_rest-clause-stops
returns-in-Err-read_rest-clause-stops c =
    ends_so _ _ _ (attributes_are c.args.is_readonly c.args.cursor.now)
    (past _ c.in-Ok.ensures.way
    (halts_seen _ (sym c.is_mark.ensures ∙ c.if-is_mark.true) (c.in-Err-read_rest.ensures.stops)))

pub returns-then-is_mark-clause-way : goal.returns-then-is_mark-clause-way
returns-then-is_mark-clause-way c = attributes_are c.args.is_readonly c.args.cursor.now
    ∙ on _ c.in-Ok.ensures.way (seen _ (sym c.is_mark.ensures ∙ c.if-is_mark.true) (c.in-Ok-read_rest.ensures.way))

pub returns-then-is_readonly-clause-way : goal.returns-then-is_readonly-clause-way
returns-then-is_readonly-clause-way c =
    tail_raising _ _ _ _ _ c.read_readonly.result c.if-is_readonly.true c.in-Ok.ensures.way
    (sym c.is_mark.ensures ∙ c.if-is_mark.false) c.read_readonly.ensures.way

pub returns-then-is_readonly-clause-stops : goal.returns-then-is_readonly-clause-stops
returns-then-is_readonly-clause-stops c =
    tail_raising_stops _ _ _ _ c.read_readonly.result c.if-is_readonly.true c.in-Ok.ensures.way
    (sym c.is_mark.ensures ∙ c.if-is_mark.false) c.read_readonly.ensures.stops

pub returns-clause-way : goal.returns-clause-way
returns-clause-way c = tail_raising _ _ _ _ _ c.read_settable.result c.if-is_readonly.false c.in-Ok.ensures.way
    (sym c.is_mark.ensures ∙ c.if-is_mark.false) c.read_settable.ensures.way

pub returns-clause-stops : goal.returns-clause-stops
returns-clause-stops c = tail_raising_stops _ _ _ _ c.read_settable.result c.if-is_readonly.false c.in-Ok.ensures.way
    (sym c.is_mark.ensures ∙ c.if-is_mark.false) c.read_settable.ensures.stops
