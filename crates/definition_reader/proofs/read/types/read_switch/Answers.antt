use Rattle.std.proofs.Common.{◌∙◌, sym}
use Rattle.idl_tree.specs.Descent.{switch_way}
use Rattle.definition_reader.proofs.Ways.{seen, unseen, halts_seen, halts_unseen}
use Rattle.definition_reader.proofs.read.types.read_switch.Goals as goal

pub returns-in-Err-clause-stops : goal.returns-in-Err-clause-stops
unfolding switch_way
returns-in-Err-clause-stops c = halts_seen _ (sym c.is_keyword.ensures ∙ c.if-is_keyword.true) c.in-Err.ensures.stops

pub returns-then-is_keyword-clause-way : goal.returns-then-is_keyword-clause-way
unfolding switch_way
returns-then-is_keyword-clause-way c = seen _ (sym c.is_keyword.ensures ∙ c.if-is_keyword.true) c.in-Ok.ensures.way

pub returns-in-Err-read_integer-clause-stops : goal.returns-in-Err-read_integer-clause-stops
unfolding switch_way
returns-in-Err-read_integer-clause-stops c =
    halts_unseen _ (sym c.is_keyword.ensures ∙ c.if-is_keyword.false)
    (halts_seen _ (sym c.is_integer.ensures ∙ c.if-is_integer.true) c.in-Err-read_integer.ensures.stops)

pub returns-then-is_integer-clause-way : goal.returns-then-is_integer-clause-way
unfolding switch_way
returns-then-is_integer-clause-way c =
    unseen _ (sym c.is_keyword.ensures ∙ c.if-is_keyword.false)
    (seen _ (sym c.is_integer.ensures ∙ c.if-is_integer.true) c.in-Ok-read_integer.ensures.way)

pub returns-then-take_keyword-clause-way : goal.returns-then-take_keyword-clause-way
unfolding switch_way
returns-then-take_keyword-clause-way c =
    unseen _ (sym c.is_keyword.ensures ∙ c.if-is_keyword.false)
    (unseen _ (sym c.is_integer.ensures ∙ c.if-is_integer.false)
    (seen _ c.if-take_keyword.ensures.seen c.if-take_keyword.ensures.way))

pub returns-then-take_keyword-2-clause-way : goal.returns-then-take_keyword-2-clause-way
unfolding switch_way
returns-then-take_keyword-2-clause-way c =
    unseen _ (sym c.is_keyword.ensures ∙ c.if-is_keyword.false)
    (unseen _ (sym c.is_integer.ensures ∙ c.if-is_integer.false)
    (unseen _ c.if-take_keyword.ensures.unseen
    (rw (← c.if-take_keyword.ensures.missing)
    (seen _ c.if-take_keyword-2.ensures.seen c.if-take_keyword-2.ensures.way))))

pub returns-in-Err-read_scoped_name-clause-stops : goal.returns-in-Err-read_scoped_name-clause-stops
unfolding switch_way
returns-in-Err-read_scoped_name-clause-stops c =
    halts_unseen _ (sym c.is_keyword.ensures ∙ c.if-is_keyword.false)
    (halts_unseen _ (sym c.is_integer.ensures ∙ c.if-is_integer.false)
    (halts_unseen _ c.if-take_keyword.ensures.unseen
    (rw (← c.if-take_keyword.ensures.missing)
    (halts_unseen _ c.if-take_keyword-2.ensures.unseen
    (rw (← c.if-take_keyword-2.ensures.missing) (c.in-Err-read_scoped_name.ensures.stops))))))

pub returns-clause-way : goal.returns-clause-way
unfolding switch_way
returns-clause-way c = unseen _ (sym c.is_keyword.ensures ∙ c.if-is_keyword.false)
    (unseen _ (sym c.is_integer.ensures ∙ c.if-is_integer.false)
    (unseen _ c.if-take_keyword.ensures.unseen
    (rw (← c.if-take_keyword.ensures.missing)
    (unseen _ c.if-take_keyword-2.ensures.unseen
    (rw (← c.if-take_keyword-2.ensures.missing) (c.in-Ok-read_scoped_name.ensures.way))))))
