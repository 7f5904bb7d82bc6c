use Rattle.std.proofs.Common.{◌≡◌, take}
use Rattle.broker_answers.specs.Attributes.{with_actions}
use Rattle.broker_answers.proofs.attribute_keeper.attributes.find_actions.Given as goal

abbrev pub invariant-loop-number : goal.invariant-loop-number
invariant-loop-number l = l.actions.items ≡ with_actions l.model l.getters (take l.number-index l.numbers)
