use Rattle.std.proofs.Common.{arith}
use Rattle.idl_tree.specs.declared.definitions.Definition.{Pragma}
use Rattle.idl_tree.specs.DefinitionYields.{definition_yield}
use Rattle.idl_tree.specs.DefinitionLevels.{definition_levels}
use Rattle.definition_reader.proofs.Adding.{added}
use Rattle.definition_reader.proofs.Ways.{okay, full_stops}
use Rattle.definition_reader.proofs.read.definitions.read_pragma.Goals as goal

pub returns-clause-spells : goal.returns-clause-spells
returns-clause-spells c =
    added definition_yield definition_levels c.args.room _ _ _ _ (Pragma c.in-Ok.part) c.add_definition.result
    c.in-Ok.ensures.read (omega arith) c.add_definition.ensures.spells

pub returns-clause-way : goal.returns-clause-way
returns-clause-way c = okay c.add_definition.result c.in-Ok.ensures.way

pub returns-clause-stops : goal.returns-clause-stops
returns-clause-stops c = full_stops _ c.add_definition.result c.add_definition.ensures.full
