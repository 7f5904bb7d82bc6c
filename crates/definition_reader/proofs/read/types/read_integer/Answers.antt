use Rattle.idl_tree.specs.Descent.{integer_way}
use Rattle.definition_reader.proofs.Ways.{on, past, seen, unseen, halts_seen, halts_unseen}
use Rattle.definition_reader.proofs.read.types.read_integer.Goals as goal

pub returns-in-Err-clause-stops : goal.returns-in-Err-clause-stops
unfolding integer_way
returns-in-Err-clause-stops c =
    halts_seen _ c.if-take_keyword.ensures.seen (past _ c.if-take_keyword.ensures.way c.in-Err.ensures.stops)

pub returns-then-take_keyword-clause-way : goal.returns-then-take_keyword-clause-way
unfolding integer_way
returns-then-take_keyword-clause-way c =
    seen _ c.if-take_keyword.ensures.seen (on _ c.if-take_keyword.ensures.way c.in-Ok.ensures.way)

pub returns-in-Err-read_integer_size-clause-stops : goal.returns-in-Err-read_integer_size-clause-stops
unfolding integer_way
returns-in-Err-read_integer_size-clause-stops c =
    halts_unseen _ c.if-take_keyword.ensures.unseen
    (rw (← c.if-take_keyword.ensures.missing) (c.in-Err-read_integer_size.ensures.stops))

pub returns-clause-way : goal.returns-clause-way
unfolding integer_way
returns-clause-way c = unseen _ c.if-take_keyword.ensures.unseen
    (rw (← c.if-take_keyword.ensures.missing) (c.in-Ok-read_integer_size.ensures.way))
