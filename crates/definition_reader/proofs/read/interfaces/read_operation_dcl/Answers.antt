use Rattle.std.proofs.Common.{refl}
use Rattle.std.specs.Prelude.{codes}
use Rattle.idl_tree.specs.declared.definitions.Export.TheVariants as Exports
use Rattle.idl_tree.specs.Pieces.{mark}
use Rattle.idl_tree.specs.DefinitionYields.{operation_yield, export_yield}
use Rattle.idl_tree.specs.DefinitionLevels.{export_levels}
use Rattle.definition_reader.proofs.Adding.{added_ended}
use Rattle.definition_reader.proofs.Ways.{halts, tail_way, tail_stops}
use Rattle.definition_reader.proofs.read.interfaces.read_operation_dcl.Goals as goal

pub returns-clause-spells : goal.returns-clause-spells
returns-clause-spells c =
    let d = c.in-Ok.part in
    added_ended export_yield export_levels c.args.room _ _ _ (operation_yield d) (mark (codes ";")) _ _
    (Exports.Operation d) c.mark.result
    c.in-Ok.ensures.spells refl c.in-Ok.ensures.levels c.in-Ok-add_export.ensures.spells c.mark.ensures.read

pub returns-in-Err-clause-stops : goal.returns-in-Err-clause-stops
returns-in-Err-clause-stops c = halts _ c.in-Err.ensures.stops

pub returns-clause-way : goal.returns-clause-way
returns-clause-way c = tail_way _ _ _ _ c.mark.result c.in-Ok.ensures.way (c.mark.ensures.way)

pub returns-clause-stops : goal.returns-clause-stops
returns-clause-stops c = tail_stops _ _ _ c.mark.result c.in-Ok.ensures.way (c.mark.ensures.stops)
