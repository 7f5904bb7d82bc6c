use Rattle.std.proofs.Common.{◌≡◌, ◌≤◌, ◌+◌, ◌*◌, drop, length}
use Rattle.std.specs.List.{flat_map}
use Rattle.idl_tree.specs.DefinitionYields.{definition_yield}
use Rattle.lowered_types.specs.Faults.{each}
use Rattle.lowered_operations.specs.Definitions.{definition}
use Rattle.lowered_operations.proofs.table.OperationTable.+definitions.Given as goal

abbrev pub invariant-with_definitions-loop-definition : goal.invariant-with_definitions-loop-definition
invariant-with_definitions-loop-definition l = record {
  inside : l.scope.0 ≤ length l.names.entries;
  told : each (definition l.names.entries l.scope.0) l.table (drop l.definition-index l.definitions)
      ≡ each (definition l.names.entries l.scope.0) l.fn.self l.definitions;
}

abbrev pub decreases-with_definition : goal.decreases-with_definition
decreases-with_definition l = 2 * length (definition_yield l.definition.now)

abbrev pub decreases-with_definitions : goal.decreases-with_definitions
decreases-with_definitions l = 2 * length (flat_map definition_yield l.definitions.now) + 1
