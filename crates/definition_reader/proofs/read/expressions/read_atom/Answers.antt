use Rattle.std.proofs.Common.{◌∙◌, sym}
use Rattle.idl_tree.specs.Descent.{atom_way}
use Rattle.definition_reader.proofs.Ways.{seen, unseen, halts_seen, halts_unseen, tail_seen, tail_unseen, tail_halts_seen, tail_halts_unseen}
use Rattle.definition_reader.proofs.read.expressions.read_atom.Goals as goal

pub returns-in-Some-clause-way : goal.returns-in-Some-clause-way
unfolding atom_way
returns-in-Some-clause-way c = seen _ c.in-Some.ensures.seen c.in-Some.ensures.way

pub returns-in-Some-take_leaf-clause-way : goal.returns-in-Some-take_leaf-clause-way
unfolding atom_way
returns-in-Some-take_leaf-clause-way c =
    unseen _ c.in_default.ensures.unseen
    (rw (← c.in_default.ensures.missing) (seen _ c.in-Some-take_leaf.ensures.seen c.in-Some-take_leaf.ensures.way))

pub returns-in-Err-clause-stops : goal.returns-in-Err-clause-stops
unfolding atom_way
returns-in-Err-clause-stops c =
    halts_unseen _ c.in_default.ensures.unseen
    (rw (← c.in_default.ensures.missing)
    (halts_unseen _ c.in_default-take_leaf.ensures.unseen
    (rw (← c.in_default-take_leaf.ensures.missing)
    (halts_seen _ (sym c.is_kind.ensures ∙ c.if-is_kind.true) c.in-Err.ensures.stops))))

pub returns-then-is_kind-clause-way : goal.returns-then-is_kind-clause-way
unfolding atom_way
returns-then-is_kind-clause-way c =
    unseen _ c.in_default.ensures.unseen
    (rw (← c.in_default.ensures.missing)
    (unseen _ c.in_default-take_leaf.ensures.unseen
    (rw (← c.in_default-take_leaf.ensures.missing)
    (seen _ (sym c.is_kind.ensures ∙ c.if-is_kind.true) c.in-Ok.ensures.way))))

pub returns-then-is_kind-2-clause-way : goal.returns-then-is_kind-2-clause-way
unfolding atom_way
returns-then-is_kind-2-clause-way c =
    tail_unseen _ _ _ c.read_boolean.result c.in_default.ensures.unseen
    (rw (← c.in_default.ensures.missing)
    (tail_unseen _ _ _ c.read_boolean.result c.in_default-take_leaf.ensures.unseen
    (rw (← c.in_default-take_leaf.ensures.missing)
    (tail_unseen _ _ _ c.read_boolean.result (sym c.is_kind.ensures ∙ c.if-is_kind.false)
    (tail_seen _ _ _ c.read_boolean.result (sym c.is_kind-2.ensures ∙ c.if-is_kind-2.true)
    c.read_boolean.ensures.way)))))

pub returns-then-is_kind-2-clause-stops : goal.returns-then-is_kind-2-clause-stops
unfolding atom_way
returns-then-is_kind-2-clause-stops c =
    tail_halts_unseen _ _ c.read_boolean.result c.in_default.ensures.unseen
    (rw (← c.in_default.ensures.missing)
    (tail_halts_unseen _ _ c.read_boolean.result c.in_default-take_leaf.ensures.unseen
    (rw (← c.in_default-take_leaf.ensures.missing)
    (tail_halts_unseen _ _ c.read_boolean.result (sym c.is_kind.ensures ∙ c.if-is_kind.false)
    (tail_halts_seen _ _ c.read_boolean.result (sym c.is_kind-2.ensures ∙ c.if-is_kind-2.true)
    c.read_boolean.ensures.stops)))))

pub returns-in-Err-read_scoped_name-clause-stops : goal.returns-in-Err-read_scoped_name-clause-stops
unfolding atom_way
returns-in-Err-read_scoped_name-clause-stops c =
    halts_unseen _ c.in_default.ensures.unseen
    (rw (← c.in_default.ensures.missing)
    (halts_unseen _ c.in_default-take_leaf.ensures.unseen
    (rw (← c.in_default-take_leaf.ensures.missing)
    (halts_unseen _ (sym c.is_kind.ensures ∙ c.if-is_kind.false)
    (halts_unseen _ (sym c.is_kind-2.ensures ∙ c.if-is_kind-2.false) c.in-Err-read_scoped_name.ensures.stops)))))

pub returns-clause-way : goal.returns-clause-way
unfolding atom_way
returns-clause-way c = unseen _ c.in_default.ensures.unseen
    (rw (← c.in_default.ensures.missing)
    (unseen _ c.in_default-take_leaf.ensures.unseen
    (rw (← c.in_default-take_leaf.ensures.missing)
    (unseen _ (sym c.is_kind.ensures ∙ c.if-is_kind.false)
    (unseen _ (sym c.is_kind-2.ensures ∙ c.if-is_kind-2.false) c.in-Ok-read_scoped_name.ensures.way)))))
