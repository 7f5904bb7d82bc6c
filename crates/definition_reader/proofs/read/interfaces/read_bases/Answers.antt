use Rattle.std.proofs.Common.{sym, ap, Some}
use Rattle.definition_reader.proofs.Ways.{on, past, seen, unseen, halts_seen}
use Rattle.definition_reader.proofs.read.interfaces.read_bases.Goals as goal

pub returns-then-not-take_mark-clause-way : goal.returns-then-not-take_mark-clause-way
returns-then-not-take_mark-clause-way c =
    unseen _ c.if-not-take_mark.ensures.unseen (ap Some (sym c.if-not-take_mark.ensures.missing))

pub returns-in-Err-clause-stops : goal.returns-in-Err-clause-stops
returns-in-Err-clause-stops c =
    halts_seen _ c.if-not-take_mark.ensures.seen (past _ c.if-not-take_mark.ensures.way c.in-Err.ensures.stops)

pub returns-clause-way : goal.returns-clause-way
returns-clause-way c = seen _ c.if-not-take_mark.ensures.seen (on _ c.if-not-take_mark.ensures.way c.in-Ok.ensures.way)
