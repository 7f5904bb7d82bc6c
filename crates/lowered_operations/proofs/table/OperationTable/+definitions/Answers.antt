use Rattle.std.proofs.Common.{◌≡◌, length, subst, ap, arith}
use Rattle.std.specs.List.{flat_map}
use Rattle.idl_tree.specs.DefinitionYields.{definition_yield}
use Rattle.lowered_types.specs.Faults.{Tells}
use Rattle.idl_tree.proofs.PartLengths.{part_length}
use Rattle.lowered_operations.proofs.Lengths.{module_length}
use Rattle.lowered_operations.proofs.ModuleWalks.{module_entered}
use Rattle.lowered_operations.proofs.table.OperationTable.+definitions.Goals as goal

pub with_definition-with_definitions-requires : goal.with_definition-with_definitions-requires
with_definition-with_definitions-requires t c =
    let inner = module_length c.in-Module.m in
    let all : length (flat_map definition_yield c.as_slice.result.now)
    ≡ length (flat_map definition_yield c.in-Module.m.definitions.items) =
    ap (λ xs. length (flat_map definition_yield xs)) c.as_slice.ensures.value in
    let whole = ap (λ d. length (definition_yield d)) c.in-Module.is in
    let there = c.in_ok-entry-in-Module.ensures.there in
    (omega (arith, c.decreases), omega arith)

pub with_definitions-with_definition-requires : goal.with_definitions-with_definition-requires
with_definitions-with_definition-requires t c =
    let le = part_length definition_yield c.args.definitions.now c.loop-definition.definition-index
    c.definition-item.result c.loop-definition-test.true c.definition-item.is in
    (omega (arith, c.decreases), c.loop-definition.invariant.inside)

pub with_definition-returns-in_ok-entry-in-Module : goal.with_definition-returns-in_ok-entry-in-Module
with_definition-returns-in_ok-entry-in-Module t c =
    subst (Tells c.with_definitions.result (λ table. table))
    (module_entered c.args.names.now.entries c.args.scope.0 c.args.self c.in-Module.m c.args.definition.now
    c.as_slice.result.now c.in_ok-entry-in-Module.entry
    c.in-Module.is c.as_slice.ensures.value c.in_ok-entry-in-Module.ensures.told)
    c.with_definitions.ensures
