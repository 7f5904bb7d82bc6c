use Rattle.definition_reader.proofs.Parts.{part_then_more}
use Rattle.std.proofs.Common.{◌∙◌, sym}
use Rattle.idl_tree.specs.Descent.{const_type_way}
use Rattle.definition_reader.proofs.Ways.{on, past, seen, unseen, halts_seen, halts_unseen}
use Rattle.definition_reader.proofs.read.types.read_const_type.Goals as goal

pub returns-in-Err-clause-stops : goal.returns-in-Err-clause-stops
unfolding const_type_way
returns-in-Err-clause-stops c = halts_seen _ (sym c.is_integer.ensures ∙ c.if-is_integer.true) c.in-Err.ensures.stops

pub returns-then-is_integer-clause-way : goal.returns-then-is_integer-clause-way
unfolding const_type_way
returns-then-is_integer-clause-way c = seen _ (sym c.is_integer.ensures ∙ c.if-is_integer.true) c.in-Ok.ensures.way

pub returns-then-take_keyword-clause-way : goal.returns-then-take_keyword-clause-way
unfolding const_type_way
returns-then-take_keyword-clause-way c =
    unseen _ (sym c.is_integer.ensures ∙ c.if-is_integer.false)
    (seen _ c.if-take_keyword.ensures.seen c.if-take_keyword.ensures.way)

pub returns-then-take_keyword-2-clause-way : goal.returns-then-take_keyword-2-clause-way
unfolding const_type_way
returns-then-take_keyword-2-clause-way c =
    unseen _ (sym c.is_integer.ensures ∙ c.if-is_integer.false)
    (unseen _ c.if-take_keyword.ensures.unseen
    (rw (← c.if-take_keyword.ensures.missing)
    (seen _ c.if-take_keyword-2.ensures.seen c.if-take_keyword-2.ensures.way)))

pub returns-then-take_keyword-3-clause-way : goal.returns-then-take_keyword-3-clause-way
unfolding const_type_way
returns-then-take_keyword-3-clause-way c =
    unseen _ (sym c.is_integer.ensures ∙ c.if-is_integer.false)
    (unseen _ c.if-take_keyword.ensures.unseen
    (rw (← c.if-take_keyword.ensures.missing)
    (unseen _ c.if-take_keyword-2.ensures.unseen
    (rw (← c.if-take_keyword-2.ensures.missing)
    (seen _ c.if-take_keyword-3.ensures.seen c.if-take_keyword-3.ensures.way)))))

pub returns-in-Err-read_string_bound-clause-stops : goal.returns-in-Err-read_string_bound-clause-stops
unfolding const_type_way
returns-in-Err-read_string_bound-clause-stops c =
    halts_unseen _ (sym c.is_integer.ensures ∙ c.if-is_integer.false)
    (halts_unseen _ c.if-take_keyword.ensures.unseen
    (rw (← c.if-take_keyword.ensures.missing)
    (halts_unseen _ c.if-take_keyword-2.ensures.unseen
    (rw (← c.if-take_keyword-2.ensures.missing)
    (halts_unseen _ c.if-take_keyword-3.ensures.unseen
    (rw (← c.if-take_keyword-3.ensures.missing)
    (halts_seen _ c.if-take_keyword-4.ensures.seen
    (past _ c.if-take_keyword-4.ensures.way c.in-Err-read_string_bound.ensures.stops))))))))

pub returns-then-take_keyword-4-clause-way : goal.returns-then-take_keyword-4-clause-way
unfolding const_type_way
returns-then-take_keyword-4-clause-way c =
    unseen _ (sym c.is_integer.ensures ∙ c.if-is_integer.false)
    (unseen _ c.if-take_keyword.ensures.unseen
    (rw (← c.if-take_keyword.ensures.missing)
    (unseen _ c.if-take_keyword-2.ensures.unseen
    (rw (← c.if-take_keyword-2.ensures.missing)
    (unseen _ c.if-take_keyword-3.ensures.unseen
    (rw (← c.if-take_keyword-3.ensures.missing)
    (seen _ c.if-take_keyword-4.ensures.seen
    (on _ c.if-take_keyword-4.ensures.way c.in-Ok-read_string_bound.ensures.way))))))))

pub returns-in-Err-read_scoped_name-clause-stops : goal.returns-in-Err-read_scoped_name-clause-stops
unfolding const_type_way
returns-in-Err-read_scoped_name-clause-stops c =
    halts_unseen _ (sym c.is_integer.ensures ∙ c.if-is_integer.false)
    (halts_unseen _ c.if-take_keyword.ensures.unseen
    (rw (← c.if-take_keyword.ensures.missing)
    (halts_unseen _ c.if-take_keyword-2.ensures.unseen
    (rw (← c.if-take_keyword-2.ensures.missing)
    (halts_unseen _ c.if-take_keyword-3.ensures.unseen
    (rw (← c.if-take_keyword-3.ensures.missing)
    (halts_unseen _ c.if-take_keyword-4.ensures.unseen
    (rw (← c.if-take_keyword-4.ensures.missing) (c.in-Err-read_scoped_name.ensures.stops)))))))))

pub returns-clause-way : goal.returns-clause-way
unfolding const_type_way
returns-clause-way c = unseen _ (sym c.is_integer.ensures ∙ c.if-is_integer.false)
    (unseen _ c.if-take_keyword.ensures.unseen
    (rw (← c.if-take_keyword.ensures.missing)
    (unseen _ c.if-take_keyword-2.ensures.unseen
    (rw (← c.if-take_keyword-2.ensures.missing)
    (unseen _ c.if-take_keyword-3.ensures.unseen
    (rw (← c.if-take_keyword-3.ensures.missing)
    (unseen _ c.if-take_keyword-4.ensures.unseen
    (rw (← c.if-take_keyword-4.ensures.missing) (c.in-Ok-read_scoped_name.ensures.way)))))))))
