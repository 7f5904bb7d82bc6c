use Rattle.std.proofs.Common.{sym, ap, Some}
use Rattle.definition_reader.proofs.Ways.{on, halts, seen, unseen, halts_unseen}
use Rattle.definition_reader.proofs.read.types.read_integer_size.Goals as goal

pub returns-then-take_keyword-clause-way : goal.returns-then-take_keyword-clause-way
returns-then-take_keyword-clause-way c = seen _ c.if-take_keyword.ensures.seen c.if-take_keyword.ensures.way

pub returns-in-Err-clause-stops : goal.returns-in-Err-clause-stops
returns-in-Err-clause-stops c =
    halts_unseen _ c.if-take_keyword.ensures.unseen
    (rw (← c.if-take_keyword.ensures.missing) (halts _ c.in-Err.ensures.stops))

pub returns-then-take_keyword-2-clause-way : goal.returns-then-take_keyword-2-clause-way
returns-then-take_keyword-2-clause-way c =
    unseen _ c.if-take_keyword.ensures.unseen
    (rw (← c.if-take_keyword.ensures.missing)
    (on _ c.in-Ok.ensures.way (seen _ c.if-take_keyword-2.ensures.seen c.if-take_keyword-2.ensures.way)))

pub returns-else-take_keyword-2-clause-way : goal.returns-else-take_keyword-2-clause-way
returns-else-take_keyword-2-clause-way c =
    unseen _ c.if-take_keyword.ensures.unseen
    (rw (← c.if-take_keyword.ensures.missing)
    (on _ c.in-Ok.ensures.way
    (unseen _ c.if-take_keyword-2.ensures.unseen (ap Some (sym c.if-take_keyword-2.ensures.missing)))))
