use Rattle.std.proofs.Common.{◌≡◌, take}
use Rattle.broker_answers.specs.Objects.{objects_of}
use Rattle.broker_answers.specs.Keeping.{all_actions, all_zeros}
use Rattle.broker_answers.proofs.attribute_keeper.keeper.Keeper.new.Given as goal

abbrev pub invariant-loop-interface : goal.invariant-loop-interface
invariant-loop-interface l =
    let past = objects_of (take l.interface-index l.objects) in
    (l.actions.items ≡ all_actions l.model past) × (l.kept.items ≡ all_zeros l.model past)
