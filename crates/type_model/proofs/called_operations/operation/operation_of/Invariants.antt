use Rattle.std.proofs.Common.{◌≡◌, drop}
use Rattle.type_model.specs.Operations.{operation_among}
use Rattle.type_model.proofs.called_operations.operation.operation_of.Given as goal

abbrev pub invariant-loop-interface : goal.invariant-loop-interface
invariant-loop-interface l =
    operation_among l.model l.id l.word l.model.interfaces
    ≡ operation_among l.model l.id l.word (drop l.interface-index l.model.interfaces)
