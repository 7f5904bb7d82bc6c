use Rattle.std.proofs.Common.{arith, ◌∙◌, sym}
use Rattle.idl_tree.specs.declared.definitions.Export.TheVariants as Exports
use Rattle.idl_tree.specs.DefinitionYields.{export_yield}
use Rattle.idl_tree.specs.DefinitionLevels.{export_levels}
use Rattle.definition_reader.proofs.Adding.{added}
use Rattle.idl_tree.specs.DefinitionDescent.{export_way}
use Rattle.definition_reader.proofs.Ways.{seen, halts_seen, okay, full_stops, tail_seen, tail_unseen, tail_halts_seen, tail_halts_unseen}
use Rattle.definition_reader.proofs.read.interfaces.read_export.Goals as goal

pub returns-then-is_kind-clause-spells : goal.returns-then-is_kind-clause-spells
returns-then-is_kind-clause-spells c =
    added export_yield export_levels c.args.room _ _ _ _ (Exports.Pragma c.in-Ok.part) c.add_export.result
    c.in-Ok.ensures.read (omega arith) c.add_export.ensures.spells

pub returns-in-Err-clause-stops : goal.returns-in-Err-clause-stops
unfolding export_way
returns-in-Err-clause-stops c = halts_seen _ (sym c.is_kind.ensures ∙ c.if-is_kind.true) (c.in-Err.ensures.stops)

pub returns-then-is_kind-clause-way : goal.returns-then-is_kind-clause-way
unfolding export_way
returns-then-is_kind-clause-way c =
    okay c.add_export.result (seen _ (sym c.is_kind.ensures ∙ c.if-is_kind.true) (c.in-Ok.ensures.way))

pub returns-then-is_kind-clause-stops : goal.returns-then-is_kind-clause-stops
unfolding export_way
returns-then-is_kind-clause-stops c = full_stops _ c.add_export.result c.add_export.ensures.full

pub returns-then-is_declaration-clause-way : goal.returns-then-is_declaration-clause-way
unfolding export_way
returns-then-is_declaration-clause-way c =
    tail_unseen _ _ _ c.read_declared.result (sym c.is_kind.ensures ∙ c.if-is_kind.false)
    (tail_seen _ _ _ c.read_declared.result (sym c.is_declaration.ensures ∙ c.if-is_declaration.true)
    (c.read_declared.ensures.way))

pub returns-then-is_declaration-clause-stops : goal.returns-then-is_declaration-clause-stops
unfolding export_way
returns-then-is_declaration-clause-stops c =
    tail_halts_unseen _ _ c.read_declared.result (sym c.is_kind.ensures ∙ c.if-is_kind.false)
    (tail_halts_seen _ _ c.read_declared.result (sym c.is_declaration.ensures ∙ c.if-is_declaration.true)
    (c.read_declared.ensures.stops))

pub returns-then-is_attribute-clause-way : goal.returns-then-is_attribute-clause-way
unfolding export_way
returns-then-is_attribute-clause-way c =
    tail_unseen _ _ _ c.read_attribute_dcl.result (sym c.is_kind.ensures ∙ c.if-is_kind.false)
    (tail_unseen _ _ _ c.read_attribute_dcl.result (sym c.is_declaration.ensures ∙ c.if-is_declaration.false)
    (tail_seen _ _ _ c.read_attribute_dcl.result (sym c.is_attribute.ensures ∙ c.if-is_attribute.true)
    (c.read_attribute_dcl.ensures.way)))

pub returns-then-is_attribute-clause-stops : goal.returns-then-is_attribute-clause-stops
unfolding export_way
returns-then-is_attribute-clause-stops c =
    tail_halts_unseen _ _ c.read_attribute_dcl.result (sym c.is_kind.ensures ∙ c.if-is_kind.false)
    (tail_halts_unseen _ _ c.read_attribute_dcl.result (sym c.is_declaration.ensures ∙ c.if-is_declaration.false)
    (tail_halts_seen _ _ c.read_attribute_dcl.result (sym c.is_attribute.ensures ∙ c.if-is_attribute.true)
    (c.read_attribute_dcl.ensures.stops)))

pub returns-clause-way : goal.returns-clause-way
unfolding export_way
returns-clause-way c = tail_unseen _ _ _ c.read_operation_dcl.result (sym c.is_kind.ensures ∙ c.if-is_kind.false)
    (tail_unseen _ _ _ c.read_operation_dcl.result (sym c.is_declaration.ensures ∙ c.if-is_declaration.false)
    (tail_unseen _ _ _ c.read_operation_dcl.result (sym c.is_attribute.ensures ∙ c.if-is_attribute.false)
    (c.read_operation_dcl.ensures.way)))

pub returns-clause-stops : goal.returns-clause-stops
unfolding export_way
returns-clause-stops c = tail_halts_unseen _ _ c.read_operation_dcl.result (sym c.is_kind.ensures ∙ c.if-is_kind.false)
    (tail_halts_unseen _ _ c.read_operation_dcl.result (sym c.is_declaration.ensures ∙ c.if-is_declaration.false)
    (tail_halts_unseen _ _ c.read_operation_dcl.result (sym c.is_attribute.ensures ∙ c.if-is_attribute.false)
    (c.read_operation_dcl.ensures.stops)))
