use Rattle.definition_reader.proofs.Parts.{part_then}
use Rattle.definition_reader.proofs.Ways.{on, halts, past, seen, unseen, halts_unseen}
use Rattle.definition_reader.proofs.read.types.end_sequence.Goals as goal

pub returns-clause-spells : goal.returns-clause-spells
returns-clause-spells c =
    rw (← c.if-take_mark.ensures.missing)
    (part_then (part_then c.in-Ok.ensures.read c.in-Ok-read_bound.ensures.spells) c.in-Ok-mark.ensures.read)

pub returns-then-take_mark-clause-way : goal.returns-then-take_mark-clause-way
returns-then-take_mark-clause-way c = seen _ c.if-take_mark.ensures.seen c.if-take_mark.ensures.way

pub returns-in-Err-clause-stops : goal.returns-in-Err-clause-stops
returns-in-Err-clause-stops c =
    halts_unseen _ c.if-take_mark.ensures.unseen
    (rw (← c.if-take_mark.ensures.missing) (halts _ c.in-Err.ensures.stops))

pub returns-in-Err-read_bound-clause-stops : goal.returns-in-Err-read_bound-clause-stops
returns-in-Err-read_bound-clause-stops c =
    halts_unseen _ c.if-take_mark.ensures.unseen
    (rw (← c.if-take_mark.ensures.missing) (past _ c.in-Ok.ensures.way (halts _ c.in-Err-read_bound.ensures.stops)))

pub returns-in-Err-mark-clause-stops : goal.returns-in-Err-mark-clause-stops
returns-in-Err-mark-clause-stops c =
    halts_unseen _ c.if-take_mark.ensures.unseen
    (rw (← c.if-take_mark.ensures.missing)
    (past _ c.in-Ok.ensures.way (past _ c.in-Ok-read_bound.ensures.way c.in-Err-mark.ensures.stops)))

pub returns-clause-way : goal.returns-clause-way
returns-clause-way c = unseen _ c.if-take_mark.ensures.unseen
    (rw (← c.if-take_mark.ensures.missing)
    (on _ c.in-Ok.ensures.way (on _ c.in-Ok-read_bound.ensures.way c.in-Ok-mark.ensures.way)))
