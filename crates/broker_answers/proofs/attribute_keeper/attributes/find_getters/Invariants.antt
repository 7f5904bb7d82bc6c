use Rattle.std.proofs.Common.{◌≡◌, take}
use Rattle.broker_answers.specs.Attributes.{getters_of}
use Rattle.broker_answers.proofs.attribute_keeper.attributes.find_getters.Given as goal

abbrev pub invariant-loop-number : goal.invariant-loop-number
invariant-loop-number l = l.getters.items ≡ getters_of l.model (take l.number-index l.numbers)
