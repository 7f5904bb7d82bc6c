use Rattle.definition_reader.proofs.Ways.{seen, unseen, halts_unseen}
use Rattle.definition_reader.proofs.read.interfaces.read_direction.Goals as goal

pub returns-then-take_keyword-clause-way : goal.returns-then-take_keyword-clause-way
returns-then-take_keyword-clause-way c = seen _ c.if-take_keyword.ensures.seen c.if-take_keyword.ensures.way

pub returns-then-take_keyword-2-clause-way : goal.returns-then-take_keyword-2-clause-way
returns-then-take_keyword-2-clause-way c =
    unseen _ c.if-take_keyword.ensures.unseen
    (rw (← c.if-take_keyword.ensures.missing) (seen _ c.if-take_keyword-2.ensures.seen c.if-take_keyword-2.ensures.way))

pub returns-in-Err-clause-stops : goal.returns-in-Err-clause-stops
returns-in-Err-clause-stops c =
    halts_unseen _ c.if-take_keyword.ensures.unseen
    (rw (← c.if-take_keyword.ensures.missing)
    (halts_unseen _ c.if-take_keyword-2.ensures.unseen
    (rw (← c.if-take_keyword-2.ensures.missing) (c.in-Err.ensures.stops))))

pub returns-clause-way : goal.returns-clause-way
returns-clause-way c = unseen _ c.if-take_keyword.ensures.unseen
    (rw (← c.if-take_keyword.ensures.missing)
    (unseen _ c.if-take_keyword-2.ensures.unseen (rw (← c.if-take_keyword-2.ensures.missing) (c.in-Ok.ensures.way))))
