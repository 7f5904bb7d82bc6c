use Rattle.idl_tree.specs.Descent.{param_type_way}
use Rattle.definition_reader.proofs.Ways.{seen, unseen, halts_unseen}
use Rattle.definition_reader.proofs.read.types.read_param_type.Goals as goal

pub returns-then-take_keyword-clause-way : goal.returns-then-take_keyword-clause-way
unfolding param_type_way
returns-then-take_keyword-clause-way c = seen _ c.if-take_keyword.ensures.seen c.if-take_keyword.ensures.way

pub returns-in-Err-clause-stops : goal.returns-in-Err-clause-stops
unfolding param_type_way
returns-in-Err-clause-stops c =
    halts_unseen _ c.if-take_keyword.ensures.unseen (rw (← c.if-take_keyword.ensures.missing) (c.in-Err.ensures.stops))

pub returns-clause-way : goal.returns-clause-way
unfolding param_type_way
returns-clause-way c = unseen _ c.if-take_keyword.ensures.unseen
    (rw (← c.if-take_keyword.ensures.missing) (c.in-Ok.ensures.way))
