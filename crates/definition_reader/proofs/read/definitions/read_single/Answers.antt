use Rattle.std.proofs.Common.{◌∙◌, sym, inr, refl}
use Rattle.idl_tree.specs.DefinitionDescent.{single_way}
use Rattle.definition_reader.proofs.Ways.{halts_unseen, tail_seen, tail_unseen, tail_halts_seen, tail_halts_unseen}
use Rattle.definition_reader.proofs.read.definitions.read_single.Goals as goal

pub returns-then-is_kind-clause-way : goal.returns-then-is_kind-clause-way
unfolding single_way
returns-then-is_kind-clause-way c =
    tail_seen _ _ _ c.read_pragma.result (sym c.is_kind.ensures ∙ c.if-is_kind.true) (c.read_pragma.ensures.way)

pub returns-then-is_kind-clause-stops : goal.returns-then-is_kind-clause-stops
unfolding single_way
returns-then-is_kind-clause-stops c =
    tail_halts_seen _ _ c.read_pragma.result (sym c.is_kind.ensures ∙ c.if-is_kind.true) (c.read_pragma.ensures.stops)

pub returns-then-is_keyword-clause-way : goal.returns-then-is_keyword-clause-way
unfolding single_way
returns-then-is_keyword-clause-way c =
    tail_unseen _ _ _ c.read_interface.result (sym c.is_kind.ensures ∙ c.if-is_kind.false)
    (tail_seen _ _ _ c.read_interface.result (sym c.is_keyword.ensures ∙ c.if-is_keyword.true)
    (c.read_interface.ensures.way))

pub returns-then-is_keyword-clause-stops : goal.returns-then-is_keyword-clause-stops
unfolding single_way
returns-then-is_keyword-clause-stops c =
    tail_halts_unseen _ _ c.read_interface.result (sym c.is_kind.ensures ∙ c.if-is_kind.false)
    (tail_halts_seen _ _ c.read_interface.result (sym c.is_keyword.ensures ∙ c.if-is_keyword.true)
    (c.read_interface.ensures.stops))

pub returns-then-is_declaration-clause-way : goal.returns-then-is_declaration-clause-way
unfolding single_way
returns-then-is_declaration-clause-way c =
    tail_unseen _ _ _ c.read_declared.result (sym c.is_kind.ensures ∙ c.if-is_kind.false)
    (tail_unseen _ _ _ c.read_declared.result (sym c.is_keyword.ensures ∙ c.if-is_keyword.false)
    (tail_seen _ _ _ c.read_declared.result (sym c.is_declaration.ensures ∙ c.if-is_declaration.true)
    (c.read_declared.ensures.way)))

pub returns-then-is_declaration-clause-stops : goal.returns-then-is_declaration-clause-stops
unfolding single_way
returns-then-is_declaration-clause-stops c =
    tail_halts_unseen _ _ c.read_declared.result (sym c.is_kind.ensures ∙ c.if-is_kind.false)
    (tail_halts_unseen _ _ c.read_declared.result (sym c.is_keyword.ensures ∙ c.if-is_keyword.false)
    (tail_halts_seen _ _ c.read_declared.result (sym c.is_declaration.ensures ∙ c.if-is_declaration.true)
    (c.read_declared.ensures.stops)))

pub returns-clause-stops : goal.returns-clause-stops
unfolding single_way
returns-clause-stops c =
    halts_unseen _ (sym c.is_kind.ensures ∙ c.if-is_kind.false)
    (halts_unseen _ (sym c.is_keyword.ensures ∙ c.if-is_keyword.false)
    (halts_unseen _ (sym c.is_declaration.ensures ∙ c.if-is_declaration.false) (inr refl)))
