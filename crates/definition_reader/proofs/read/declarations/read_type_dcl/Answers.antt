use Rattle.std.proofs.Common.{◌∙◌, sym}
use Rattle.idl_tree.specs.DefinitionDescent.{type_dcl_way}
use Rattle.definition_reader.proofs.Ways.{seen, unseen, halts_seen, halts_unseen, tail_seen, tail_unseen, tail_halts_seen, tail_halts_unseen}
use Rattle.definition_reader.proofs.read.declarations.read_type_dcl.Goals as goal

pub returns-then-is_keyword-clause-way : goal.returns-then-is_keyword-clause-way
unfolding type_dcl_way
returns-then-is_keyword-clause-way c =
    tail_seen _ _ _ c.read_struct_dcl.result (sym c.is_keyword.ensures ∙ c.if-is_keyword.true)
    (c.read_struct_dcl.ensures.way)

pub returns-then-is_keyword-clause-stops : goal.returns-then-is_keyword-clause-stops
unfolding type_dcl_way
returns-then-is_keyword-clause-stops c =
    tail_halts_seen _ _ c.read_struct_dcl.result (sym c.is_keyword.ensures ∙ c.if-is_keyword.true)
    (c.read_struct_dcl.ensures.stops)

pub returns-then-is_keyword-2-clause-way : goal.returns-then-is_keyword-2-clause-way
unfolding type_dcl_way
returns-then-is_keyword-2-clause-way c =
    tail_unseen _ _ _ c.read_union_dcl.result (sym c.is_keyword.ensures ∙ c.if-is_keyword.false)
    (tail_seen _ _ _ c.read_union_dcl.result (sym c.is_keyword-2.ensures ∙ c.if-is_keyword-2.true)
    (c.read_union_dcl.ensures.way))

pub returns-then-is_keyword-2-clause-stops : goal.returns-then-is_keyword-2-clause-stops
unfolding type_dcl_way
returns-then-is_keyword-2-clause-stops c =
    tail_halts_unseen _ _ c.read_union_dcl.result (sym c.is_keyword.ensures ∙ c.if-is_keyword.false)
    (tail_halts_seen _ _ c.read_union_dcl.result (sym c.is_keyword-2.ensures ∙ c.if-is_keyword-2.true)
    (c.read_union_dcl.ensures.stops))

pub returns-in-Err-clause-stops : goal.returns-in-Err-clause-stops
unfolding type_dcl_way
returns-in-Err-clause-stops c =
    halts_unseen _ (sym c.is_keyword.ensures ∙ c.if-is_keyword.false)
    (halts_unseen _ (sym c.is_keyword-2.ensures ∙ c.if-is_keyword-2.false)
    (halts_seen _ (sym c.is_keyword-3.ensures ∙ c.if-is_keyword-3.true) (c.in-Err.ensures.stops)))

pub returns-then-is_keyword-3-clause-way : goal.returns-then-is_keyword-3-clause-way
unfolding type_dcl_way
returns-then-is_keyword-3-clause-way c =
    unseen _ (sym c.is_keyword.ensures ∙ c.if-is_keyword.false)
    (unseen _ (sym c.is_keyword-2.ensures ∙ c.if-is_keyword-2.false)
    (seen _ (sym c.is_keyword-3.ensures ∙ c.if-is_keyword-3.true) (c.in-Ok.ensures.way)))

pub returns-clause-way : goal.returns-clause-way
unfolding type_dcl_way
returns-clause-way c = tail_unseen _ _ _ c.read_typedef.result (sym c.is_keyword.ensures ∙ c.if-is_keyword.false)
    (tail_unseen _ _ _ c.read_typedef.result (sym c.is_keyword-2.ensures ∙ c.if-is_keyword-2.false)
    (tail_unseen _ _ _ c.read_typedef.result (sym c.is_keyword-3.ensures ∙ c.if-is_keyword-3.false)
    (c.read_typedef.ensures.way)))

pub returns-clause-stops : goal.returns-clause-stops
unfolding type_dcl_way
returns-clause-stops c = tail_halts_unseen _ _ c.read_typedef.result (sym c.is_keyword.ensures ∙ c.if-is_keyword.false)
    (tail_halts_unseen _ _ c.read_typedef.result (sym c.is_keyword-2.ensures ∙ c.if-is_keyword-2.false)
    (tail_halts_unseen _ _ c.read_typedef.result (sym c.is_keyword-3.ensures ∙ c.if-is_keyword-3.false)
    (c.read_typedef.ensures.stops)))
