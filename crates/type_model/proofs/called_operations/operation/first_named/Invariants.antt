use Rattle.std.proofs.Common.{◌≡◌, drop}
use Rattle.type_model.specs.Operations.{first_named}
use Rattle.type_model.proofs.called_operations.operation.first_named.Given as goal

abbrev pub invariant-loop-number : goal.invariant-loop-number
invariant-loop-number l =
    first_named l.model l.name l.numbers ≡ first_named l.model l.name (drop l.number-index l.numbers)
