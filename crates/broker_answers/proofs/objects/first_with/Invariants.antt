use Rattle.std.proofs.Common.{◌≡◌, drop}
use Rattle.broker_answers.specs.Objects.{first_named}
use Rattle.broker_answers.proofs.objects.first_with.Given as goal

abbrev pub invariant-loop-number : goal.invariant-loop-number
invariant-loop-number l =
    first_named l.model l.name l.numbers ≡ first_named l.model l.name (drop l.number-index l.numbers)
