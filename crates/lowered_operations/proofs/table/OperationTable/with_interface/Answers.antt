use Rattle.std.proofs.Common.{Some, None, subst}
use Rattle.lowered_types.specs.Faults.{Tells}
use Rattle.lowered_operations.proofs.Walks.{interface_told}
use Rattle.lowered_operations.proofs.table.OperationTable.with_interface.Goals as goal

pub returns-in-Some : goal.returns-in-Some
returns-in-Some c =
    subst (Tells c.with_body.result (λ table. table))
    (interface_told c.args.names.now.entries c.args.scope.0 c.args.self c.args.interface.now c.identifier_of.result
    c.in_ok-entry.entry (Some c.in-Some.exports.now)
    c.identifier_of.ensures c.in_ok-entry.ensures.told c.in-Some.ensures)
    c.with_body.ensures

pub returns-in-None : goal.returns-in-None
returns-in-None c =
    subst (Tells c.with_reference.result (λ table. table))
    (interface_told c.args.names.now.entries c.args.scope.0 c.args.self c.args.interface.now c.identifier_of.result
    c.in_ok-entry.entry None
    c.identifier_of.ensures c.in_ok-entry.ensures.told c.in-None.ensures)
    c.with_reference.ensures
