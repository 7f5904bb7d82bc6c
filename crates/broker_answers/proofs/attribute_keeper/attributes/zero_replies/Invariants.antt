use Rattle.std.proofs.Common.{◌≡◌, take}
use Rattle.broker_answers.specs.Attributes.{first_tapes}
use Rattle.broker_answers.proofs.attribute_keeper.attributes.zero_replies.Given as goal

abbrev pub invariant-loop-getter : goal.invariant-loop-getter
invariant-loop-getter l = l.tapes.items ≡ first_tapes l.model (take l.getter-index l.getters)
