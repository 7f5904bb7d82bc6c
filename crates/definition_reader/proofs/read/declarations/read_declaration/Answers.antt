use Rattle.std.proofs.Common.{◌∙◌, sym}
use Rattle.idl_tree.specs.DefinitionDescent.{declaration_way}
use Rattle.definition_reader.proofs.Ways.{unseen, halts_unseen, tail_seen, tail_unseen, tail_halts_seen, tail_halts_unseen}
use Rattle.definition_reader.proofs.read.declarations.read_declaration.Goals as goal

pub returns-then-is_keyword-clause-way : goal.returns-then-is_keyword-clause-way
unfolding declaration_way
returns-then-is_keyword-clause-way c =
    tail_seen _ _ _ c.read_const.result (sym c.is_keyword.ensures ∙ c.if-is_keyword.true) (c.read_const.ensures.way)

pub returns-then-is_keyword-clause-stops : goal.returns-then-is_keyword-clause-stops
unfolding declaration_way
returns-then-is_keyword-clause-stops c =
    tail_halts_seen _ _ c.read_const.result (sym c.is_keyword.ensures ∙ c.if-is_keyword.true)
    (c.read_const.ensures.stops)

pub returns-then-is_keyword-2-clause-way : goal.returns-then-is_keyword-2-clause-way
unfolding declaration_way
returns-then-is_keyword-2-clause-way c =
    tail_unseen _ _ _ c.read_except.result (sym c.is_keyword.ensures ∙ c.if-is_keyword.false)
    (tail_seen _ _ _ c.read_except.result (sym c.is_keyword-2.ensures ∙ c.if-is_keyword-2.true)
    (c.read_except.ensures.way))

pub returns-then-is_keyword-2-clause-stops : goal.returns-then-is_keyword-2-clause-stops
unfolding declaration_way
returns-then-is_keyword-2-clause-stops c =
    tail_halts_unseen _ _ c.read_except.result (sym c.is_keyword.ensures ∙ c.if-is_keyword.false)
    (tail_halts_seen _ _ c.read_except.result (sym c.is_keyword-2.ensures ∙ c.if-is_keyword-2.true)
    (c.read_except.ensures.stops))

pub returns-in-Err-clause-stops : goal.returns-in-Err-clause-stops
unfolding declaration_way
returns-in-Err-clause-stops c =
    halts_unseen _ (sym c.is_keyword.ensures ∙ c.if-is_keyword.false)
    (halts_unseen _ (sym c.is_keyword-2.ensures ∙ c.if-is_keyword-2.false) (c.in-Err.ensures.stops))

pub returns-clause-way : goal.returns-clause-way
unfolding declaration_way
returns-clause-way c = unseen _ (sym c.is_keyword.ensures ∙ c.if-is_keyword.false)
    (unseen _ (sym c.is_keyword-2.ensures ∙ c.if-is_keyword-2.false) (c.in-Ok.ensures.way))
