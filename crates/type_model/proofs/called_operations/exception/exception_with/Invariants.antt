use Rattle.std.proofs.Common.{◌≡◌, drop}
use Rattle.type_model.specs.Exceptions.{exception_with}
use Rattle.type_model.proofs.called_operations.exception.exception_with.Given as goal

abbrev pub invariant-loop-number : goal.invariant-loop-number
invariant-loop-number l =
    exception_with l.model l.id l.numbers ≡ exception_with l.model l.id (drop l.number-index l.numbers)
