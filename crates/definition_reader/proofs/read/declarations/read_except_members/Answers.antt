use Rattle.definition_reader.proofs.Ways.{seen, tail_unseen, tail_halts_unseen}
use Rattle.definition_reader.proofs.read.declarations.read_except_members.Goals as goal

pub returns-then-take_mark-clause-way : goal.returns-then-take_mark-clause-way
returns-then-take_mark-clause-way c = seen _ c.if-take_mark.ensures.seen c.if-take_mark.ensures.way

pub returns-clause-way : goal.returns-clause-way
returns-clause-way c = tail_unseen _ _ _ c.read_members.result c.if-take_mark.ensures.unseen
    (rw (← c.if-take_mark.ensures.missing) c.read_members.ensures.way)

pub returns-clause-stops : goal.returns-clause-stops
returns-clause-stops c =
    tail_halts_unseen _ _ c.read_members.result c.if-take_mark.ensures.unseen
    (rw (← c.if-take_mark.ensures.missing) c.read_members.ensures.stops)
