use Rattle.definition_reader.proofs.Parts.{part_then, maybe_none}
use Rattle.std.proofs.Common.{sym, ap, Some}
use Rattle.definition_reader.proofs.Ways.{on, halts, past, seen, unseen, halts_seen}
use Rattle.definition_reader.proofs.read.interfaces.read_raises.Goals as goal

pub returns-clause-spells : goal.returns-clause-spells
returns-clause-spells c =
    maybe_none (part_then (part_then (part_then c.if-not-take_keyword.ensures.read c.in-Ok.ensures.read)
    c.in-Ok-read_listed.ensures.spells) c.in-Ok-mark.ensures.read)

pub returns-then-not-take_keyword-clause-way : goal.returns-then-not-take_keyword-clause-way
returns-then-not-take_keyword-clause-way c =
    unseen _ c.if-not-take_keyword.ensures.unseen (ap Some (sym c.if-not-take_keyword.ensures.missing))

pub returns-in-Err-clause-stops : goal.returns-in-Err-clause-stops
returns-in-Err-clause-stops c =
    halts_seen _ c.if-not-take_keyword.ensures.seen
    (past _ c.if-not-take_keyword.ensures.way (halts _ c.in-Err.ensures.stops))

pub returns-in-Err-read_listed-clause-stops : goal.returns-in-Err-read_listed-clause-stops
returns-in-Err-read_listed-clause-stops c =
    halts_seen _ c.if-not-take_keyword.ensures.seen
    (past _ c.if-not-take_keyword.ensures.way (past _ c.in-Ok.ensures.way (halts _ c.in-Err-read_listed.ensures.stops)))

pub returns-in-Err-mark-clause-stops : goal.returns-in-Err-mark-clause-stops
returns-in-Err-mark-clause-stops c =
    halts_seen _ c.if-not-take_keyword.ensures.seen
    (past _ c.if-not-take_keyword.ensures.way
    (past _ c.in-Ok.ensures.way (past _ c.in-Ok-read_listed.ensures.way c.in-Err-mark.ensures.stops)))

pub returns-clause-way : goal.returns-clause-way
returns-clause-way c = seen _ c.if-not-take_keyword.ensures.seen
    (on _ c.if-not-take_keyword.ensures.way
    (on _ c.in-Ok.ensures.way (on _ c.in-Ok-read_listed.ensures.way c.in-Ok-mark.ensures.way)))
