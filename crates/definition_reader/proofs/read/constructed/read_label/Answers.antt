use Rattle.definition_reader.proofs.Parts.{part_then}
use Rattle.std.proofs.Common.{inr}
use Rattle.idl_tree.specs.Descent.{label_way}
use Rattle.definition_reader.proofs.Ways.{on, halts, past, seen, unseen, halts_seen, halts_unseen, only_false}
use Rattle.definition_reader.proofs.read.constructed.read_label.Goals as goal

pub returns-then-take_keyword-clause-spells : goal.returns-then-take_keyword-clause-spells
returns-then-take_keyword-clause-spells c =
    part_then (part_then c.if-take_keyword.ensures.read c.in-Ok.ensures.spells) c.in-Ok-mark.ensures.read

pub returns-clause-spells : goal.returns-clause-spells
returns-clause-spells c =
    rw (← c.if-take_keyword.ensures.missing) (part_then c.in-Some.ensures.kept c.in-Ok-mark-2.ensures.read)

pub returns-in-Err-clause-stops : goal.returns-in-Err-clause-stops
unfolding label_way
returns-in-Err-clause-stops c =
    halts_seen _ c.if-take_keyword.ensures.seen (past _ c.if-take_keyword.ensures.way (halts _ c.in-Err.ensures.stops))

pub returns-in-Err-mark-clause-stops : goal.returns-in-Err-mark-clause-stops
unfolding label_way
returns-in-Err-mark-clause-stops c =
    halts_seen _ c.if-take_keyword.ensures.seen
    (past _ c.if-take_keyword.ensures.way (past _ c.in-Ok.ensures.way c.in-Err-mark.ensures.stops))

pub returns-then-take_keyword-clause-way : goal.returns-then-take_keyword-clause-way
unfolding label_way
returns-then-take_keyword-clause-way c =
    seen _ c.if-take_keyword.ensures.seen
    (on _ c.if-take_keyword.ensures.way (on _ c.in-Ok.ensures.way c.in-Ok-mark.ensures.way))

pub returns-in_default-clause-stops : goal.returns-in_default-clause-stops
unfolding label_way
returns-in_default-clause-stops c =
    halts_unseen _ c.if-take_keyword.ensures.unseen
    (rw (← c.if-take_keyword.ensures.missing) (halts _ (inr (only_false _ _ c.in_default.ensures.unseen))))

pub returns-in-Err-mark-2-clause-stops : goal.returns-in-Err-mark-2-clause-stops
unfolding label_way
returns-in-Err-mark-2-clause-stops c =
    halts_unseen _ c.if-take_keyword.ensures.unseen
    (rw (← c.if-take_keyword.ensures.missing) (past _ c.in-Some.ensures.way c.in-Err-mark-2.ensures.stops))

pub returns-clause-way : goal.returns-clause-way
unfolding label_way
returns-clause-way c = unseen _ c.if-take_keyword.ensures.unseen
    (rw (← c.if-take_keyword.ensures.missing) (on _ c.in-Some.ensures.way c.in-Ok-mark-2.ensures.way))
